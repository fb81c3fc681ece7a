-- What is answered of a row, and of a record after the rows, by the tests made.
-- Assumes nothing.
use mathlib.Core.Path.{◌≡◌, ap, ◌∙◌}
use mathlib.Core.Bool.{true, false}
use mathlib.Core.List.{List, ◌++◌}
use Prim.Native.Nat.{ℕ, suc, ◌+◌, ◌-◌, ◌≤◌, ◌<◌}
use native.Mathlib.Omega.{arith}
use lib.ListN.{length, get_or, take, drop, length-drop}
use lib.Seq.{take_all, drop-drop, length-take-le}
use borrow.Author.Tests.{eq-eqb, ne_eqb, lt-ltb, le-ltb}
use Rattle.lists.specs.Lists.{all_below}
use Rattle.ground.specs.Tables.{table1, is_code}
use Rattle.answers.specs.Checks.{Check, first_failed, all_pass}
use Rattle.spelling.specs.Format.{mark, row_mark}
use Rattle.spelling.specs.Reading.{number_at, is_record, is_outlet, is_end, row_codes, row_checks, tail_checks}
use Rattle.spelling.proofs.Records.{all_first, record_is}
use Rattle.reading.specs.declared.Cursor.{Cursor}
use Rattle.reading.specs.Steps.{Passes, Ends, OutletPasses}

-- a whole record ends within the file
pub record_fits : (file : List ℕ) (at size first second : ℕ)
    → is_record (mark first second) size (drop at file) ≡ true → at ≤ length file → at + size ≤ length file
record_fits file at size first second e h =
    omega (arith, (record_is (mark first second) size (drop at file) e).fits, length-drop at file)

-- the codes of a row, as a part of the file
pub part_row : (file : List ℕ) (cols at : ℕ)
    → take (at + 4 + cols - (at + 4)) (drop (at + 4) file) ≡ row_codes cols (drop at file)
part_row file cols at =
    let n : at + 4 + cols - (at + 4) ≡ cols = omega arith in rw (n, drop-drop 4 at file)

pub part_length : (file : List ℕ) (cols at : ℕ) → at + (4 + cols) ≤ length file
    → length (take (at + 4 + cols - (at + 4)) (drop (at + 4) file)) ≡ cols
part_length file cols at h =
    rw (part_row file cols at)
    (length-take-le cols (drop 4 (drop at file)) (omega (arith, length-drop 4 (drop at file), length-drop at file)))

-- they are tested one by one
pub part_codes : (file : List ℕ) (cols at : ℕ) → at + (4 + cols) ≤ length file
    → all_below (λ x. is_code table1 (get_or (take (at + 4 + cols - (at + 4)) (drop (at + 4) file)) x 0)) cols
    ≡ all_pass (is_code table1) (row_codes cols (drop at file))
part_codes file cols at h =
    let here = row_codes cols (drop at file) in
    let size : length here ≡ cols = rw (part_row file cols at) at (part_length file cols at h) in
    rw (part_row file cols at)
    (all_first (is_code table1) here cols (omega arith) ∙ ap (all_pass (is_code table1)) (take_all cols here (omega arith)))

-- ---- a row

module _ (file : List ℕ) (cols row at : ℕ) where
  abbrev row_refuses : ℕ → Type 0
  row_refuses k = (later : List Check) → first_failed (row_checks cols row (drop at file) ++ later) ≡ k

  pub no_row : is_record row_mark (4 + cols) (drop at file) ≡ false → row_refuses 4
  unfolding first_failed
  no_row e later = rw e

  module _ (whole : is_record row_mark (4 + cols) (drop at file) ≡ true) where
    pub other_row : (number_at 2 (drop at file) ≡ row → ⊥) → row_refuses 4
    unfolding first_failed
    other_row f later = rw (whole, ne_eqb (number_at 2 (drop at file)) row f)

    module _ (number : number_at 2 (drop at file) ≡ row) where
      pub other_code : all_pass (is_code table1) (row_codes cols (drop at file)) ≡ false → row_refuses 5
      unfolding first_failed
      other_code e later = rw (whole, eq-eqb (number_at 2 (drop at file)) row number, e)

      pub row_passes : all_pass (is_code table1) (row_codes cols (drop at file)) ≡ true → at ≤ length file → (next : Cursor)
          → next.at ≡ at + 4 + cols → Passes file (row_checks cols row (drop at file)) (4 + cols) at next
      unfolding first_failed
      row_passes e h next l = record {
        lands = omega arith;
        fits = record_fits file at (4 + cols) 82 87 whole h;
        on = λ later. rw (whole, eq-eqb (number_at 2 (drop at file)) row number, e);
      }

-- ---- a record after the rows

pub ends : (file : List ℕ) (at : ℕ) → is_end (drop at file) ≡ true → length file - at ≡ 2 → Ends file at
ends file at e l = record { end_is = e; over = length-drop at file ∙ l }

module _ (file : List ℕ) (rows cols at : ℕ) where
  abbrev tail_refuses : ℕ → Type 0
  tail_refuses k = (n : ℕ) → first_failed (tail_checks rows cols (suc n) (drop at file)) ≡ k

  pub more_after_end : is_end (drop at file) ≡ true → (length file - at ≡ 2 → ⊥) → tail_refuses 9
  unfolding first_failed tail_checks
  more_after_end e f n = rw (e, length-drop at file, ne_eqb (length file - at) 2 f)

  module _ (e : is_end (drop at file) ≡ false) where
    pub not_outlet : is_outlet (drop at file) ≡ false → tail_refuses 6
    unfolding first_failed tail_checks
    not_outlet f n = rw (e, f)

    module _ (o : is_outlet (drop at file) ≡ true) where
      pub beyond_rows : rows ≤ number_at 2 (drop at file) → tail_refuses 7
      unfolding first_failed tail_checks
      beyond_rows h n = rw (e, o, le-ltb (number_at 2 (drop at file)) rows h)

      module _ (h : number_at 2 (drop at file) < rows) where
        pub beyond_cols : cols ≤ number_at 4 (drop at file) → tail_refuses 7
        unfolding first_failed tail_checks
        beyond_cols k n =
            let row = number_at 2 (drop at file) in
            let col = number_at 4 (drop at file) in
            rw (e, o, lt-ltb row rows h, le-ltb col cols k)

        pub outlet_passes : number_at 4 (drop at file) < cols → at ≤ length file → (next : Cursor) → next.at ≡ at + 6
            → OutletPasses file rows cols at next
        unfolding first_failed
        outlet_passes k l next n =
            let row = number_at 2 (drop at file) in
            let col = number_at 4 (drop at file) in
            record {
              no_end = e;
              passes = record {
                lands = n;
                fits = record_fits file at 6 79 84 o l;
                on = λ later. rw (o, lt-ltb row rows h, lt-ltb col cols k);
              };
            }
