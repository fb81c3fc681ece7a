-- Reading a sheet: its checks, forward through the file; what is handed back, and what is left in the lent places.
-- Assumes nothing.
use Rattle.std.specs.Prelude.{◌≡◌, Bool, false, cond, ◌&&◌, Result, Ok, Err}
use Rattle.std.specs.Prelude.{List, [], ◌∷◌, ◌++◌, ℕ, zero, suc, ◌+◌, ◌*◌, length, get_or, take, drop, eqb, ltb, leb}
use Rattle.ground.specs.Tables.{table1, is_code}
use Rattle.answers.specs.declared.Refusal.{Refusal}
use Rattle.answers.specs.Refusals.{refusal_number}
use Rattle.answers.specs.Checks.{Check, check, first_failed, all_pass}
use Rattle.lists.specs.Slices.{overlaid}
use Rattle.spelling.specs.Content.{Content, content, lent_content}
use Rattle.spelling.specs.Format.{Mark, header_mark, row_mark, outlet_mark, end_mark}
use Rattle.spelling.specs.declared.Sheet.{Sheet}

-- ---- what stands in the file

-- the number that begins so many bytes from here, low byte first
unfoldable pub number_at : ℕ → List ℕ → ℕ
number_at at rest = get_or rest at 0 + 256 * get_or rest (at + 1) 0

-- do so many bytes still stand here, the mark first?
unfoldable pub is_record : Mark → ℕ → List ℕ → Bool
is_record m size rest =
    leb size (length rest) && (eqb (get_or rest 0 0) m.first && eqb (get_or rest 1 0) m.second)

abbrev pub is_header : List ℕ → Bool
is_header file = is_record header_mark 6 file

-- with mark and row number right
abbrev pub is_row : ℕ → ℕ → List ℕ → Bool
is_row cols row rest = is_record row_mark (4 + cols) rest && eqb (number_at 2 rest) row

abbrev pub is_outlet : List ℕ → Bool
is_outlet rest = is_record outlet_mark 6 rest

abbrev pub is_end : List ℕ → Bool
is_end rest = is_record end_mark 2 rest

-- the codes of the row that stands here
abbrev pub row_codes : ℕ → List ℕ → List ℕ
row_codes cols rest = take cols (drop 4 rest)

-- the codes of n rows
unfoldable pub codes_from : ℕ → ℕ → List ℕ → List ℕ
codes_from cols zero rest = []
codes_from cols (suc n) rest = row_codes cols rest ++ codes_from cols n (drop (4 + cols) rest)

-- how many outlets stand before the end record, looked for among n records
unfoldable pub outlet_count : ℕ → List ℕ → ℕ
outlet_count zero rest = 0
outlet_count (suc n) rest = cond (is_end rest) 0 (suc (outlet_count n (drop 6 rest)))

-- n outlets, as cell numbers
unfoldable pub outlets_from : ℕ → ℕ → List ℕ → List ℕ
outlets_from cols zero rest = []
outlets_from cols (suc n) rest = (number_at 2 rest * cols + number_at 4 rest) ∷ outlets_from cols n (drop 6 rest)

-- R and C, the rest after the rows, the codes and the outlets of a file, and its content
abbrev pub file_rows : List ℕ → ℕ
file_rows file = number_at 2 file

abbrev pub file_cols : List ℕ → ℕ
file_cols file = number_at 4 file

abbrev pub after_rows : ℕ → ℕ → List ℕ → List ℕ
after_rows rows cols file = drop (6 + rows * (4 + cols)) file

abbrev pub file_tail : List ℕ → List ℕ
file_tail file = after_rows (file_rows file) (file_cols file) file

abbrev pub file_codes : List ℕ → List ℕ
file_codes file = codes_from (file_cols file) (file_rows file) (drop 6 file)

abbrev pub file_outlets : List ℕ → List ℕ
file_outlets file = outlets_from (file_cols file) (outlet_count 257 (file_tail file)) (file_tail file)

abbrev pub file_content : List ℕ → Content
file_content file = content (file_rows file) (file_cols file) (file_codes file) (file_outlets file)

-- ---- the checks

-- 2: R and C are from 1 to 64 each
abbrev pub is_sheet_side : ℕ → Bool
is_sheet_side n = leb 1 n && leb n 64

abbrev pub are_sheet_sides : ℕ → ℕ → Bool
are_sheet_sides rows cols = is_sheet_side rows && is_sheet_side cols

abbrev pub check2 : ℕ → ℕ → Check
check2 rows cols = check 2 (are_sheet_sides rows cols)

-- a row: 4, is its record whole, with mark and row number right? 5, are its codes among the ten?
abbrev pub row_checks : ℕ → ℕ → List ℕ → List Check
row_checks cols row rest = check 4 (is_row cols row rest) ∷ check 5 (all_pass (is_code table1) (row_codes cols rest)) ∷ []

module _ (rows cols : ℕ) where
  -- a record after the rows that is no end: 6, is it a whole outlet record? 7, is the outlet inside the grid?
  abbrev pub outlet_checks : List ℕ → List Check
  outlet_checks rest =
      check 6 (is_outlet rest) ∷ check 7 (ltb (number_at 2 rest) rows && ltb (number_at 4 rest) cols) ∷ []

  -- after the rows, where the end is one of the next n records, or there are too many outlets, 8. After the end record
  -- the file is over, 9
  unfoldable pub tail_checks : ℕ → List ℕ → List Check
  tail_checks zero rest = check 8 false ∷ []
  tail_checks (suc n) rest =
      cond (is_end rest) (check 9 (eqb (length rest) 2) ∷ []) (outlet_checks rest ++ tail_checks n (drop 6 rest))

  -- n rows from `row` on, each in turn, and what follows them: 256 outlets at most, and the end
  unfoldable pub rows_checks : ℕ → ℕ → List ℕ → List Check
  rows_checks row zero rest = tail_checks 257 rest
  rows_checks row (suc n) rest = row_checks cols row rest ++ rows_checks (row + 1) n (drop (4 + cols) rest)

-- READ: 1, is there a whole header record? 2. 3, has the code grid R × C places, and the outlet list 256? Then 4 to 9,
-- forward through the file. The numbers of places are given
unfoldable pub read_number : List ℕ → ℕ → ℕ → ℕ
read_number file grid list = first_failed
    (check 1 (is_header file)
    ∷ check2 (file_rows file) (file_cols file)
    ∷ check 3 (leb (file_rows file * file_cols file) grid && leb 256 list)
    ∷ rows_checks (file_rows file) (file_cols file) 0 (file_rows file) (drop 6 file))

-- ---- what is handed back and what is left

-- what reading tells in numbers: that of the first check that fails, or 0; R, C and how many outlets there are
pub record SheetTold : Type 0 where
  pub number : ℕ
  pub rows : ℕ
  pub cols : ℕ
  pub outlets : ℕ

-- on refusal R, C and the outlet count are 0
abbrev pub sheet_refused : ℕ → SheetTold
sheet_refused number = record { number = number; rows = 0; cols = 0; outlets = 0 }

abbrev pub sheet_told : Result Sheet Refusal → SheetTold
sheet_told (Ok sheet) = record { number = 0; rows = sheet.rows; cols = sheet.cols; outlets = sheet.outlets }
sheet_told (Err refusal) = sheet_refused (refusal_number refusal)

unfoldable pub read_answer : List ℕ → ℕ → ℕ → SheetTold
read_answer file grid list =
    cond (eqb (read_number file grid list) 0)
    (record { number = 0; rows = file_rows file; cols = file_cols file; outlets = length (file_outlets file) })
    (sheet_refused (read_number file grid list))

module _ (file grid list : List ℕ) where
  -- is the file accepted?
  abbrev pub is_sheet : Bool
  is_sheet = eqb (read_number file (length grid) (length list)) 0

  -- the codes in the first places of the grid, the outlets in those of the list; on refusal nothing changes
  unfoldable pub read_leaves_codes : List ℕ
  read_leaves_codes = cond is_sheet (overlaid (file_codes file) grid) grid

  unfoldable pub read_leaves_outlets : List ℕ
  read_leaves_outlets = cond is_sheet (overlaid (file_outlets file) list) list

pub record Reads (file grid list : List ℕ) (r : Result Sheet Refusal) (newGrid newList : List ℕ) : Type 0 where
  pub answers : sheet_told r ≡ read_answer file (length grid) (length list)
  pub codes : newGrid ≡ read_leaves_codes file grid list
  pub outlets : newList ≡ read_leaves_outlets file grid list

module _ (file grid list : List ℕ) where
  abbrev pub read_sheet : SheetTold
  read_sheet = read_answer file (length grid) (length list)

  -- the outlets that are left: as many places of the list as the answer counts
  abbrev pub read_outlets : List ℕ
  read_outlets = take read_sheet.outlets (read_leaves_outlets file grid list)

  -- what is left, as a content to write again: of the codes in the grid the first R × C count
  abbrev pub left_content : Content
  left_content = content read_sheet.rows read_sheet.cols (read_leaves_codes file grid list) read_outlets

  -- and without the others
  abbrev pub read_content : Content
  read_content = lent_content left_content
