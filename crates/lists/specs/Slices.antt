-- What a call leaves in a lent slice.
-- Assumes nothing.
use Rattle.std.specs.Prelude.{◌≡◌, List, ◌++◌, ℕ, ◌≤◌, ◌<◌, length, get_or, take, drop, replicate}

-- the first places of a lent list hold these numbers, as many of them as there are places; what lies beyond is kept
unfoldable pub overlaid : List ℕ → List ℕ → List ℕ
overlaid new old = take (length old) new ++ drop (length new) old

-- n zeros
abbrev pub zeros : ℕ → List ℕ
zeros n = replicate {A = ℕ} n 0

-- only the first n places of a list changed
pub record Kept (n : ℕ) (old new : List ℕ) : Type 0 where
  pub same_length : length new ≡ length old
  pub rest : (x : ℕ) → n ≤ x → get_or new x 0 ≡ get_or old x 0

-- and of these the first i are 0
pub record Cleared (n i : ℕ) (old new : List ℕ) : Type 0 where
  pub kept : Kept n old new
  pub are_zero : (x : ℕ) → x < i → get_or new x 0 ≡ 0

-- every number of a list is one of the first n places
abbrev pub Within : ℕ → List ℕ → Type 0
Within n places = (j : ℕ) → j < length places → get_or places j 0 < n
