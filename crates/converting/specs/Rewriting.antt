-- The counterpart of a code in another table, and a grid rewritten by it.
-- Assumes nothing.
use Rattle.std.specs.Prelude.{◌≡◌, cond, List, ℕ, zero, suc, ◌≤◌, ◌<◌, length, get_or, eqb}
use Rattle.lists.specs.Slices.{Kept}

-- what stands in one list where the other has the code, looked for in the first k places; 0 where it has it in none
unfoldable pub counterpart : ℕ → List ℕ → List ℕ → ℕ → ℕ
counterpart zero from to code = 0
counterpart (suc k) from to code = cond (eqb (get_or from k 0) code) (get_or to k 0) (counterpart k from to code)

-- two lists of ten codes, so that each code of the one has one of the other beside it
pub record Pairs (from to : List ℕ) : Type 0 where
  pub from_length : length from ≡ 10
  pub to_length : length to ≡ 10

-- n codes can be read, and their counterparts stored
pub record Readable (n : ℕ) (from to codes converted : List ℕ) : Type 0 where
  pub pairs : Pairs from to
  pub has_codes : n ≤ length codes
  pub has_places : n ≤ length converted

-- only the first n places changed, and of these the first i hold the counterparts
pub record Rewritten (n i : ℕ) (from to codes old new : List ℕ) : Type 0 where
  pub kept : Kept n old new
  pub are_counterparts : (x : ℕ) → x < i → get_or new x 0 ≡ counterpart 10 from to (get_or codes x 0)
