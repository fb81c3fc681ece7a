-- `listing::list_starts` meets its contract. The invariant: the first k places hold the first k starts.
-- Assumes nothing.
use Rattle.listing.proofs.Listing.{Listing}
use Rattle.listing.proofs.list_starts.Given as goal

abbrev pub invariant-loop-k : goal.invariant-loop-k
invariant-loop-k l = Listing l.found l.end l.k l.initial.starts l.starts
