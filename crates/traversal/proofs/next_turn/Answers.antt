-- `traversal::next_turn` meets its contract: the first direction that is still to be turned to is found.
-- Assumes nothing.
use borrow.Author.Rules.{rules}
use mathlib.Core.Path.{refl}
use Rattle.std.proofs.Common.{tests}
use Rattle.moves.specs.Grids.{ground_of}
use Rattle.std.proofs.lemmas.Iterator.{YieldsList-from_range}
use Rattle.std.proofs.lemmas.Iterator.Search.{find_from_yields_List}
use Rattle.traversal.specs.Turns.{turns_to}
use Rattle.traversal.proofs.Turning.{first_turn}
use Rattle.traversal.proofs.next_turn.Goals as goal

pub returns-then-cell-grid-2 : goal.returns-then-cell-grid-2
returns-then-cell-grid-2 c = let a = c.args in
    first_turn c.requires.turn_small refl
    (find_from_yields_List (turns_to (ground_of a.grid) a.marks.now a.p.at) _ _ _ c.find.ensures.ran
    (YieldsList-from_range a.p.turn 8 _ refl refl) (λ x b q k. search (rules, tests)))

pub returns : goal.returns
returns c = let a = c.args in
    first_turn c.requires.turn_small refl
    (find_from_yields_List (turns_to (ground_of a.grid) a.marks.now a.p.at) _ _ _ c.find-2.ensures.ran
    (YieldsList-from_range a.p.turn 8 _ refl refl) (λ x b q k. search (rules, tests)))
