-- `divide::note_outlets` meets its contract. The invariant: the outlets so far are noted.
-- Assumes nothing.
use lib.ListN.{take}
use Rattle.lists.specs.Lists.{member}
use Rattle.notes.specs.Notes.{with_outlet}
use Rattle.divide.specs.Divides.{Changes}
use Rattle.divide.proofs.note_outlets.Given as goal

abbrev pub invariant-loop-outlet : goal.invariant-loop-outlet
invariant-loop-outlet l =
    Changes with_outlet l.n (λ x. member x (take l.outlet-index l.outlets)) l.initial.words l.words
