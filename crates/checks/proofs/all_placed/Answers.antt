-- `checks::all_placed` meets its contract: the closure computes the test.
-- Assumes nothing.
use Rattle.std.proofs.Common.{◌∙◌, rules, tests}
use Rattle.std.proofs.lemmas.Iterator.{YieldsList-from_slice}
use Rattle.std.proofs.lemmas.Iterator.Search.{all_from_yields_List}
use Rattle.moves.specs.Grids.{ground_of}
use Rattle.checks.specs.Tests.{is_placed}
use Rattle.checks.proofs.Lists.{all_pass_is}
use Rattle.checks.proofs.all_placed.Goals as goal

pub returns : goal.returns
returns c =
    let a = c.args in
    let test = is_placed (ground_of a.grid) in
    all_from_yields_List test _ _ _ c.all.ensures.ran (YieldsList-from_slice a.outlets.now cc)
    (λ x b q k. search (rules, tests)) ∙ all_pass_is test a.outlets.now
