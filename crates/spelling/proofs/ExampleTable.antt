-- THE TABLE of examples, by one computation; and the record after 256 outlets.
-- Assumes nothing.
use mathlib.Core.Path.{◌≡◌, refl, ◌∙◌}
use mathlib.Core.List.{List, ◌++◌, map}
use Prim.Native.Nat.{ℕ}
use lib.ListN.{take, replicate}
use lib.Dec.{lit<, lit≤}
use Rattle.ground.specs.Tables.{dir_of, is_code}
use Rattle.answers.specs.Checks.{first_failed, check23}
use Rattle.lists.specs.Slices.{overlaid}
use Rattle.spelling.specs.Format.{header_record, outlet_record, end_record, row_records, outlet_records, spelling}
use Rattle.spelling.specs.Reading.{number_at, is_record, codes_from, outlet_count, outlets_from, tail_checks}
use Rattle.spelling.specs.Reading.{rows_checks, read_number, read_answer, read_leaves_codes, read_leaves_outlets}
use Rattle.spelling.specs.Writing.{write_number, write_answer, write_leaves}
use Rattle.spelling.specs.Examples.{sample_codes, worked, examples}
use Rattle.spelling.proofs.Spelled.{SheetGrid, outlets_read, number_after_rows}

pub table : map worked examples ≡ examples
unfolding dir_of first_failed is_code check23 overlaid row_records outlet_records spelling number_at is_record codes_from
    outlet_count outlets_from tail_checks rows_checks read_number read_answer read_leaves_codes read_leaves_outlets write_number
    write_answer write_leaves
table = refl

-- the header and the row of 01's sheet, 256 outlets, and anything after them
abbrev full : List ℕ → List ℕ
full more = header_record 1 4 ++ (row_records 4 0 1 sample_codes ++ (outlet_records 4 (replicate 256 1) ++ more))

sample_grid : SheetGrid 1 4 sample_codes
unfolding dir_of is_code
sample_grid = record {
  some_rows = lit≤ tt;
  rows_small = lit≤ tt;
  some_cols = lit≤ tt;
  cols_small = lit≤ tt;
  has_codes = lit≤ tt;
  are_codes = refl;
}

after_256 : (more : List ℕ) → read_number (full more) 4 256 ≡ first_failed (tail_checks 1 4 1 more)
after_256 more =
    number_after_rows 1 4 sample_codes (outlet_records 4 (replicate 256 1) ++ more) sample_grid 4 256 (lit≤ tt) (lit≤ tt)
    ∙ (outlets_read 1 4 1 (replicate 256 1) more (lit< tt) refl).number

-- the end; another outlet, whole and inside, outside, and cut
pub record After256 : Type 0 where
  pub the_end : read_number (full end_record) 4 256 ≡ 0
  pub inside : read_number (full (outlet_record 0 1 ++ end_record)) 4 256 ≡ 8
  pub outside : read_number (full (outlet_record 1 0 ++ end_record)) 4 256 ≡ 7
  pub cut : read_number (full (take 5 (outlet_record 0 1))) 4 256 ≡ 6

pub table_256 : After256
unfolding first_failed tail_checks is_record number_at
table_256 = record {
  the_end = after_256 end_record;
  inside = after_256 (outlet_record 0 1 ++ end_record);
  outside = after_256 (outlet_record 1 0 ++ end_record);
  cut = after_256 (take 5 (outlet_record 0 1));
}
