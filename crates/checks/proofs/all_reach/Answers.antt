-- `checks::all_reach` meets its contract: the closure computes the test.
-- Assumes nothing.
use Rattle.std.proofs.Common.{◌∙◌, leb, rules, tests}
use Rattle.std.proofs.lemmas.Iterator.{YieldsList-from_slice}
use Rattle.std.proofs.lemmas.Iterator.Search.{all_from_yields_List}
use Rattle.checks.proofs.Lists.{all_pass_is}
use Rattle.checks.proofs.all_reach.Goals as goal

pub returns : goal.returns
returns c =
    all_from_yields_List (leb c.args.n) _ _ _ c.all.ensures.ran (YieldsList-from_slice c.args.lent.now cc)
    (λ x b q k. search (rules, tests)) ∙ all_pass_is (leb c.args.n) c.args.lent.now
