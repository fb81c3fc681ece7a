-- `noting::make_plain` meets its contract.
-- Assumes nothing.
use borrow.Author.Tests.{eq-eqb, ne_eqb}
use Rattle.lists.proofs.Kept.{kept_all}
use Rattle.noting.proofs.make_plain.Goals as goal

pub returns-then-edition-eq2 : goal.returns-then-edition-eq2
returns-then-edition-eq2 c =
    let d = c.clear_notes.ensures in
    record { kept = d.kept; words = λ x h. rw (eq-eqb _ _ c.if-edition-eq2.true) (d.words x h) }

pub returns-else-edition-eq2 : goal.returns-else-edition-eq2
returns-else-edition-eq2 c = record { kept = kept_all; words = λ x h. rw (ne_eqb _ _ c.if-edition-eq2.false) }
