-- The sheet file (01, Sheet and desk): the bytes that spell R, C, the codes row by row, and the outlets.
-- Assumes nothing.
use Rattle.std.specs.Prelude.{List, [], ◌∷◌, ◌++◌, ℕ, zero, suc, ◌+◌, ◌/◌, ◌%◌, take, drop}
use Rattle.spelling.specs.Content.{Content}

-- "A two-byte mark precedes each record"
pub record Mark : Type 0 where
  pub first : ℕ
  pub second : ℕ

abbrev pub mark : ℕ → ℕ → Mark
mark first second = record { first = first; second = second }

-- in hexadecimal 44 38 header, 52 57 row, 4F 54 outlet, 45 4E end
abbrev pub header_mark : Mark
header_mark = mark 68 56

abbrev pub row_mark : Mark
row_mark = mark 82 87

abbrev pub outlet_mark : Mark
outlet_mark = mark 79 84

abbrev pub end_mark : Mark
end_mark = mark 69 78

-- a mark, and what it precedes
abbrev pub marked : Mark → List ℕ → List ℕ
marked m rest = m.first ∷ m.second ∷ rest

-- "numbers are 16-bit, low byte first"
abbrev pub two_bytes : ℕ → List ℕ
two_bytes n = n % 256 ∷ n / 256 ∷ []

-- header (R, C)
abbrev pub header_record : ℕ → ℕ → List ℕ
header_record rows cols = marked header_mark (two_bytes rows ++ two_bytes cols)

-- row (row number, C codes)
abbrev pub row_record : ℕ → List ℕ → List ℕ
row_record row codes = marked row_mark (two_bytes row ++ codes)

-- outlet (row, column)
abbrev pub outlet_record : ℕ → ℕ → List ℕ
outlet_record row col = marked outlet_mark (two_bytes row ++ two_bytes col)

-- end, empty
abbrev pub end_record : List ℕ
end_record = marked end_mark []

-- n rows, ascending from `row`: each takes the next C codes
unfoldable pub row_records : ℕ → ℕ → ℕ → List ℕ → List ℕ
row_records cols row zero codes = []
row_records cols row (suc n) codes = row_record row (take cols codes) ++ row_records cols (row + 1) n (drop cols codes)

-- outlets in list order. "In memory an outlet is its cell number", row × C + column
unfoldable pub outlet_records : ℕ → List ℕ → List ℕ
outlet_records cols [] = []
outlet_records cols (o ∷ os) = outlet_record (o / cols) (o % cols) ++ outlet_records cols os

-- "A file is header, all rows, outlets, end"
unfoldable pub spelling : Content → List ℕ
spelling c =
    header_record c.rows c.cols
    ++ (row_records c.cols 0 c.rows c.codes ++ (outlet_records c.cols c.outlets ++ end_record))
