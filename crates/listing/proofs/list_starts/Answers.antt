-- `listing::list_starts` meets its contract. The invariant: the first k places hold the first k starts.
-- Assumes nothing.
use native.Mathlib.Omega.{arith}
use Rattle.listing.proofs.Listing.{listed}
use Rattle.listing.proofs.list_starts.Goals as goal

pub returns : goal.returns
returns c = listed c.args.paths c.loop-k.k (omega arith) c.loop-k.invariant
