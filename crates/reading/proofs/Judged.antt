-- What reading hands back, by the checks made so far.
-- Assumes nothing.
use mathlib.Core.Path.{◌≡◌}
use mathlib.Core.Bool.{true, false}
use mathlib.Core.List.{List}
use Prim.Native.Nat.{ℕ, suc, ◌*◌, ◌≤◌, ◌<◌}
use native.Mathlib.Omega.{arith}
use lib.ListN.{drop}
use borrow.Author.Tests.{ne_eqb, le-leb, lt-leb}
use Rattle.answers.specs.declared.Refusal.{Refusal}
use Rattle.answers.specs.Refusals.{refusal_number}
use Rattle.answers.specs.Checks.{first_failed}
use Rattle.answers.proofs.Refusals.{has_number}
use Rattle.spelling.specs.Reading.{is_header, are_sheet_sides, file_rows, file_cols, after_rows, rows_checks, outlet_count}
use Rattle.spelling.specs.Reading.{SheetTold, sheet_refused, read_number, read_answer}
use Rattle.spelling.proofs.Accepted.{outlets_long}
use Rattle.reading.specs.Steps.{records_answer}

-- ---- after the header

module _ (file : List ℕ) (rows cols : ℕ) where
  abbrev number : ℕ
  number = first_failed (rows_checks rows cols 0 rows (drop 6 file))

  pub records_refused : (refusal : Refusal) → number ≡ refusal_number refusal
      → sheet_refused (refusal_number refusal) ≡ records_answer file rows cols
  unfolding records_answer
  records_refused refusal r = rw (r, ne_eqb (refusal_number refusal) 0 (has_number refusal))

  pub records_read : (n : ℕ) → number ≡ 0 → n ≡ outlet_count 257 (after_rows rows cols file)
      → ◌≡◌ {A = SheetTold} (record { number = 0; rows = rows; cols = cols; outlets = n }) (records_answer file rows cols)
  unfolding records_answer
  records_read n e q = rw (e, q)

-- ---- 1, 2, 3

refused_with_lem : (file : List ℕ) (grid list k : ℕ) → read_number file grid list ≡ suc k
    → sheet_refused (suc k) ≡ read_answer file grid list
unfolding read_answer
refused_with_lem file grid list k e = rw (e, ne_eqb (suc k) 0 (λ z. omega arith))

pub no_header : (file : List ℕ) (grid list : ℕ) → is_header file ≡ false → sheet_refused 1 ≡ read_answer file grid list
unfolding read_number first_failed
no_header file grid list e = refused_with_lem file grid list 0 (rw e)

-- the header is whole, and R and C are read
pub record Begun (file : List ℕ) (rows cols : ℕ) : Type 0 where
  pub header : is_header file ≡ true
  pub rows_read : rows ≡ file_rows file
  pub cols_read : cols ≡ file_cols file

module _ {file : List ℕ} {rows cols : ℕ} (b : Begun file rows cols) (grid list : ℕ) where
  pub no_sides : are_sheet_sides rows cols ≡ false → sheet_refused 2 ≡ read_answer file grid list
  unfolding read_number first_failed
  no_sides e = refused_with_lem file grid list 1 (rw (b.header, ← b.rows_read, ← b.cols_read, e))

  module _ (s : are_sheet_sides rows cols ≡ true) where
    pub no_grid : grid < rows * cols → sheet_refused 3 ≡ read_answer file grid list
    unfolding read_number first_failed
    no_grid l =
        refused_with_lem file grid list 2
        (rw (b.header, ← b.rows_read, ← b.cols_read, s, lt-leb (rows * cols) grid l))

    module _ (g : rows * cols ≤ grid) where
      pub no_list : list < 256 → sheet_refused 3 ≡ read_answer file grid list
      unfolding read_number first_failed
      no_list l =
          refused_with_lem file grid list 2
          (rw (b.header, ← b.rows_read, ← b.cols_read, s, le-leb (rows * cols) grid g, lt-leb 256 list l))

      pub by_records : 256 ≤ list → records_answer file rows cols ≡ read_answer file grid list
      unfolding read_number first_failed read_answer records_answer
      by_records l =
          rw (
            b.header,
            ← b.rows_read,
            ← b.cols_read,
            s,
            le-leb (rows * cols) grid g,
            le-leb 256 list l,
            outlets_long cols (outlet_count 257 (after_rows rows cols file)) (after_rows rows cols file),
          )
