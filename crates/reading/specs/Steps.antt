-- What the steps through a file answer: each by the checks that are left from its place on.
-- Assumes nothing.
use Rattle.std.specs.Prelude.{◌≡◌, true, false, cond, Option, Some, None, Result, Ok, Err}
use Rattle.std.specs.Prelude.{List, ◌++◌, ℕ, suc, ◌+◌, ◌*◌, ◌≤◌, ◌<◌, length, drop, eqb}
use Rattle.answers.specs.declared.Refusal.{Refusal}
use Rattle.answers.specs.Refusals.{refusal_number}
use Rattle.answers.specs.Checks.{Check, first_failed}
use Rattle.spelling.specs.Reading.{is_end, row_checks, outlet_checks, rows_checks, tail_checks, outlet_count, after_rows}
use Rattle.spelling.specs.Reading.{number_at, SheetTold, sheet_refused}
use Rattle.reading.specs.declared.Cursor.{Cursor}

-- the number that begins so many bytes from here, and that it is one of two bytes
pub record NumberIs (skip : ℕ) (rest : List ℕ) (r : ℕ) : Type 0 where
  pub same : r ≡ number_at skip rest
  pub small : r < 65536

-- a record passes its checks, and ends within the file: what follows it gives the number
pub record Passes (file : List ℕ) (checks : List Check) (size at : ℕ) (next : Cursor) : Type 0 where
  pub lands : next.at ≡ at + size
  pub fits : at + size ≤ length file
  pub on : (later : List Check) → first_failed (checks ++ later) ≡ first_failed later

module _ (file : List ℕ) where
  -- a row
  abbrev pub row_says : ℕ → ℕ → ℕ → Result Cursor Refusal → Type 0
  row_says cols row at (Ok next) = Passes file (row_checks cols row (drop at file)) (4 + cols) at next
  row_says cols row at (Err refusal) =
      (later : List Check)
      → first_failed (row_checks cols row (drop at file) ++ later) ≡ refusal_number refusal

  -- the end record, and nothing after it
  pub record Ends (at : ℕ) : Type 0 where
    pub end_is : is_end (drop at file) ≡ true
    pub over : length (drop at file) ≡ 2

  module _ (rows cols : ℕ) where
    -- all rows: the number is that of what follows them
    pub record RowsPass (next : Cursor) : Type 0 where
      pub lands : next.at ≡ 6 + rows * (4 + cols)
      pub fits : 6 + rows * (4 + cols) ≤ length file
      pub on : first_failed (rows_checks rows cols 0 rows (drop 6 file))
          ≡ first_failed (tail_checks rows cols 257 (after_rows rows cols file))

    abbrev pub rows_say : Result Cursor Refusal → Type 0
    rows_say (Ok next) = RowsPass next
    rows_say (Err refusal) = first_failed (rows_checks rows cols 0 rows (drop 6 file)) ≡ refusal_number refusal

    -- a record after the rows
    pub record OutletPasses (at : ℕ) (next : Cursor) : Type 0 where
      pub no_end : is_end (drop at file) ≡ false
      pub passes : Passes file (outlet_checks rows cols (drop at file)) 6 at next

    abbrev pub record_says : ℕ → Result (Option Cursor) Refusal → Type 0
    record_says at (Ok (Some next)) = OutletPasses at next
    record_says at (Ok None) = Ends at
    record_says at (Err refusal) =
        (n : ℕ) → first_failed (tail_checks rows cols (suc n) (drop at file)) ≡ refusal_number refusal

    -- the next n records after the rows: they pass, and so many of them are outlets
    pub record TailPasses (n at count : ℕ) : Type 0 where
      pub number : first_failed (tail_checks rows cols n (drop at file)) ≡ 0
      pub counted : count ≡ outlet_count n (drop at file)

    abbrev pub tail_says : ℕ → Result ℕ Refusal → Type 0
    tail_says at (Ok count) = TailPasses 257 at count
    tail_says at (Err refusal) = first_failed (tail_checks rows cols 257 (drop at file)) ≡ refusal_number refusal

    -- rows and what follows them: what reading hands back
    unfoldable pub records_answer : SheetTold
    records_answer =
        cond (eqb (first_failed (rows_checks rows cols 0 rows (drop 6 file))) 0)
        (record { number = 0; rows = rows; cols = cols; outlets = outlet_count 257 (after_rows rows cols file) })
        (sheet_refused (first_failed (rows_checks rows cols 0 rows (drop 6 file))))
