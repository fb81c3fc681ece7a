-- What a search answers, by how many starts the list has room for.
-- Assumes nothing.
use mathlib.Core.Path.{◌≡◌}
use Prim.Native.Nat.{ℕ, ◌≤◌, ◌<◌}
use borrow.Author.Tests.{le-leb, lt-leb}
use Rattle.progress.specs.declared.Progress.{Progress}
use Rattle.answers.specs.declared.Answer.TheVariants.{Found, NoPlace}
use Rattle.answers.specs.Answers.{answered, traced_with}
use Rattle.listing.specs.Answering.{answer_with}

module _ (p : Progress) (room : ℕ) where
  pub no_place : room < p.paths
      → answered p.visited p.dropped (NoPlace p.paths)
      ≡ answer_with p.greatest p.paths p.visited p.dropped room
  unfolding traced_with
  no_place h = rw (lt-leb p.paths room h)

  pub found : p.paths ≤ room
      → answered p.visited p.dropped (Found p.greatest.straight p.greatest.diagonal p.paths)
      ≡ answer_with p.greatest p.paths p.visited p.dropped room
  unfolding traced_with
  found h = rw (le-leb p.paths room h)
