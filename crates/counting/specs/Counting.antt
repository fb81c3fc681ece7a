-- The first word of a cell: itself, and how many neighbours flow in.
-- Assumes nothing.
use Rattle.std.specs.Prelude.{◌≡◌, cond, ◌⊎◌, List, ℕ, zero, suc, ◌+◌, ◌*◌, ◌≤◌, ◌<◌, ◌^◌, length, get_or}
use Rattle.ground.specs.Grid.{Grid, cell_count, ground, inflows}
use Rattle.moves.specs.Lent.{LentGrid}

-- a grid with a column, and a lent grid of words that is large enough
pub record Countable (rows cols : ℕ) (codes words : List ℕ) : Type 0 where
  pub grid : LentGrid rows cols codes
  pub some_cols : 0 < cols
  pub has_words : rows * cols ≤ length words

-- the word of a cell with a code and so many inflows
abbrev pub word_by : ℕ → ℕ → ℕ
word_by zero n = 0
word_by (suc code) n = 1 + 2 ^ 25 * n

module _ (g : Grid) where
  -- 0 at a null cell, else 1 and 2 ^ 25 for each inflow
  unfoldable pub counted_word : ℕ → ℕ
  counted_word x = cond (ground g x) (suc (2 ^ 25 * length (inflows g x))) 0

  -- each place of a lent list is as it was, or one of a cell that holds the cell's word
  pub record Counting (old new : List ℕ) : Type 0 where
    pub same_length : length new ≡ length old
    pub each : (x : ℕ) → (get_or new x 0 ≡ get_or old x 0) ⊎ ((x < cell_count g) × (get_or new x 0 ≡ counted_word x))

  -- and the cells before n do
  pub record Counts (n : ℕ) (old new : List ℕ) : Type 0 where
    pub counting : Counting old new
    pub counted : (x : ℕ) → x < n → get_or new x 0 ≡ counted_word x

  -- and the cells of a row do, from a column to before another
  pub record CountsRow (row from end : ℕ) (old new : List ℕ) : Type 0 where
    pub counting : Counting old new
    pub counted : (col : ℕ) → from ≤ col → col < end
        → get_or new (row * g.cols + col) 0 ≡ counted_word (row * g.cols + col)
