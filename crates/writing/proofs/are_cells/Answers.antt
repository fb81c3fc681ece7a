-- `writing::are_cells` meets its contract: the closure computes the test.
-- Assumes nothing.
use Rattle.std.proofs.Common.{◌∙◌, ltb, rules, tests}
use Rattle.std.proofs.lemmas.Iterator.{YieldsList-from_slice}
use Rattle.std.proofs.lemmas.Iterator.Search.{all_from_yields_List}
use Rattle.checks.proofs.Lists.{all_pass_is}
use Rattle.writing.proofs.are_cells.Goals as goal

pub returns : goal.returns
returns c =
    all_from_yields_List (λ o. ltb o c.args.cells) _ _ _ c.all.ensures.ran (YieldsList-from_slice c.args.outlets.now cc)
    (λ x b q k. search (rules, tests)) ∙ all_pass_is (λ o. ltb o c.args.cells) c.args.outlets.now
