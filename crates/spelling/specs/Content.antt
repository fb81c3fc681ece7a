-- The content of a sheet: what it is written from, and what it is read as.
-- Assumes nothing.
use Rattle.std.specs.Prelude.{List, ℕ, ◌*◌, take}

-- R, C, the codes, of which the first R × C count, and the outlets by cell number
pub record Content : Type 0 where
  pub rows : ℕ
  pub cols : ℕ
  pub codes : List ℕ
  pub outlets : List ℕ

abbrev pub content : ℕ → ℕ → List ℕ → List ℕ → Content
content rows cols codes outlets = record { rows = rows; cols = cols; codes = codes; outlets = outlets }

-- without the codes that do not count
abbrev pub lent_content : Content → Content
lent_content c = content c.rows c.cols (take (c.rows * c.cols) c.codes) c.outlets
