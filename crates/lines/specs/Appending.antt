-- Bytes put one after the other into a lent slice, as many as there is room for.
-- Assumes nothing.
use Rattle.std.specs.Prelude.{◌≡◌, List, ◌++◌, ℕ, min, ◌≤◌, length, drop}
use Rattle.lists.specs.Slices.{overlaid}

-- a lent slice holds a text, or as much of it as there is room for, and so many bytes of it
pub record Holds (text lent : List ℕ) (at : ℕ) (now : List ℕ) : Type 0 where
  pub counted : at ≡ min (length text) (length lent)
  pub laid : now ≡ overlaid text lent

-- it holds the whole text in its first bytes, as many as the text has, and keeps what lies beyond
pub record HoldsWhole (text lent : List ℕ) (at : ℕ) (now : List ℕ) : Type 0 where
  pub counted : at ≡ length text
  pub fits : at ≤ length now
  pub laid : now ≡ text ++ drop (length text) lent

-- these bytes follow whatever text is held
pub record Appends (bytes : List ℕ) (at : ℕ) (old : List ℕ) (r : ℕ) (new : List ℕ) : Type 0 where
  pub held : (text lent : List ℕ) → Holds text lent at old → Holds (text ++ bytes) lent r new
