-- What putting bytes into a file answers and leaves.
-- Assumes nothing.
use Rattle.std.specs.Prelude.{◌≡◌, List, ℕ, ◌+◌, length}
use Rattle.std.proofs.lemmas.List.Edits.{sets}

-- the bytes stand at a place, with the rest kept, and the answer is the place after them
pub record Puts (bytes : List ℕ) (at : ℕ) (old : List ℕ) (r : ℕ) (new : List ℕ) : Type 0 where
  pub lands : r ≡ at + length bytes
  pub holds : new ≡ sets old at bytes
