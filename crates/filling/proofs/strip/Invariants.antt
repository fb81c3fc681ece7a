-- `filling::strip` meets its contract. The invariant: the first j outlets have no flag any more.
-- Assumes nothing.
use Rattle.filling.specs.Filling.{Stripped}
use Rattle.filling.proofs.strip.Given as goal

abbrev pub invariant-loop-outlet : goal.invariant-loop-outlet
invariant-loop-outlet l = Stripped l.n l.outlets l.outlet-index l.initial.words l.words
