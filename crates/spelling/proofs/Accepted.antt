-- What reading accepts is the spelling of what it reads.
-- Assumes nothing.
use mathlib.Core.Path.{◌≡◌, refl, sym, ap, ◌∙◌}
use mathlib.Core.Bool.{Bool, true, false, ◌&&◌}
use mathlib.Core.List.{List, ◌++◌, append_assoc}
use Prim.Native.Nat.{ℕ, zero, suc, ◌+◌, ◌*◌, ◌≤◌, ◌<◌}
use native.Mathlib.Nat.{zero-mul, suc-mul}
use native.Mathlib.Omega.{arith}
use lib.ListN.{length, drop, length-drop, length-append, take-append-drop, drop_of_length-le}
use lib.Seq.{take_at, drop_at, drop-drop, length-take-le}
use lib.Arith.{digits_lt, digits_div, digits_mod}
use lib.Dec.{eqb, ltb, leb}
use borrow.Author.Tests.{leb-true, ltb-true, eqb-true, lt-ltb}
use Rattle.lists.proofs.Lists.{and_both}
use Rattle.ground.specs.Tables.{table1, is_code}
use Rattle.answers.specs.Checks.{first_failed, all_pass}
use Rattle.spelling.specs.Format.{header_mark, row_mark, outlet_mark, end_mark, marked, two_bytes, row_record}
use Rattle.spelling.specs.Format.{outlet_record, end_record, row_records, outlet_records, spelling}
use Rattle.spelling.specs.Reading.{number_at, is_record, is_header, is_row, is_outlet, is_end, row_codes, codes_from}
use Rattle.spelling.specs.Reading.{outlet_count, outlets_from, are_sheet_sides, tail_checks, rows_checks, read_number}
use Rattle.spelling.specs.Reading.{file_rows, file_cols, file_tail, file_codes, file_outlets, file_content}
use Rattle.spelling.proofs.Records.{passes, all_append, number_bytes, record_is, sized}

-- ---- a row

pub record RowIs (cols row : ℕ) (rest : List ℕ) : Type 0 where
  pub fits : 4 + cols ≤ length rest
  pub codes : all_pass (is_code table1) (row_codes cols rest) ≡ true
  pub spelled : row < 256 → rest ≡ row_record row (row_codes cols rest) ++ drop (4 + cols) rest

row_is : (cols row : ℕ) (rest : List ℕ) → is_row cols row rest ≡ true → all_pass (is_code table1) (row_codes cols rest) ≡ true
    → RowIs cols row rest
row_is cols row rest e k =
    let q = and_both (is_record row_mark (4 + cols) rest) (eqb (number_at 2 rest) row) e in
    let w = record_is row_mark (4 + cols) rest q.0 in
    let n = eqb-true (number_at 2 rest) row q.1 in
    record {
      fits = w.fits;
      codes = k;
      spelled = λ h.
          w.begins (omega arith)
          ∙ ap (marked row_mark) (rw n at (number_bytes 2 rest (omega (arith, w.fits)) (omega arith))
          ∙ ap (λ (l : List ℕ). two_bytes row ++ l)
          (sym (take-append-drop cols (drop 4 rest)) ∙ rw (drop-drop cols 4 rest)));
    }

-- ---- rows

pub record RowsAre (rows cols row n : ℕ) (rest : List ℕ) : Type 0 where
  pub fits : n * (4 + cols) ≤ length rest
  pub long : length (codes_from cols n rest) ≡ n * cols
  pub codes : all_pass (is_code table1) (codes_from cols n rest) ≡ true
  pub spelled : rest ≡ row_records cols row n (codes_from cols n rest) ++ drop (n * (4 + cols)) rest
  pub later : first_failed (tail_checks rows cols 257 (drop (n * (4 + cols)) rest)) ≡ 0

pub rows_are : (rows cols row n : ℕ) (rest : List ℕ) → row + n ≤ 256
    → first_failed (rows_checks rows cols row n rest) ≡ 0 → RowsAre rows cols row n rest
unfolding rows_checks codes_from row_records first_failed
rows_are rows cols row zero rest h e = record {
  fits = omega (arith, zero-mul (4 + cols));
  long = sym (zero-mul cols);
  codes = refl;
  spelled = rw (zero-mul (4 + cols));
  later = rw (zero-mul (4 + cols)) e;
}
rows_are rows cols row (suc n) rest h e =
    let p = passes (is_row cols row rest) _ 3 e in
    let q = passes (all_pass (is_code table1) (row_codes cols rest)) _ 4 p.1 in
    let r = row_is cols row rest p.0 q.0 in
    let ih = rows_are rows cols (row + 1) n (drop (4 + cols) rest) (omega arith) q.1 in
    let here = row_codes cols rest in
    let below = codes_from cols n (drop (4 + cols) rest) in
    let size : length here ≡ cols = length-take-le cols (drop 4 rest) (omega (arith, r.fits, length-drop 4 rest)) in
    let m : suc n * (4 + cols) ≡ 4 + cols + n * (4 + cols) = omega (arith, suc-mul n (4 + cols)) in
    let on : drop (n * (4 + cols)) (drop (4 + cols) rest) ≡ drop (suc n * (4 + cols)) rest =
    rw m (drop-drop (n * (4 + cols)) (4 + cols) rest) in
    record {
      fits = omega (arith, ih.fits, r.fits, length-drop (4 + cols) rest, suc-mul n (4 + cols));
      long = length-append here below ∙ omega (arith, size, ih.long, suc-mul n cols);
      codes = all_append (is_code table1) here below ∙ rw (r.codes, ih.codes);
      spelled =
          rw (
            take_at here below cols size,
            drop_at here below cols size,
            append_assoc here (row_records cols (row + 1) n below) (drop (suc n * (4 + cols)) rest),
            ← on,
          )
          (r.spelled (omega arith) ∙ ap (λ (l : List ℕ). row_record row here ++ l) ih.spelled);
      later = rw (← on) ih.later;
    }

-- ---- outlets and end

pub record OutletIs (rows cols : ℕ) (rest : List ℕ) : Type 0 where
  pub fits : 6 ≤ length rest
  pub row : number_at 2 rest < rows
  pub col : number_at 4 rest < cols

-- where R and C are no more than 64, the outlet is its record
outlet_spelled : {rows cols : ℕ} (rest : List ℕ) → rows ≤ 64 → cols ≤ 64 → is_outlet rest ≡ true
    → OutletIs rows cols rest
    → rest ≡ outlet_record (number_at 2 rest) (number_at 4 rest) ++ drop 6 rest
outlet_spelled rest h k e o =
    (record_is outlet_mark 6 rest e).begins (omega arith)
    ∙ ap (marked outlet_mark) (number_bytes 2 rest (omega (arith, o.fits)) (omega (arith, o.row))
    ∙ ap (λ (l : List ℕ). two_bytes (number_at 2 rest) ++ l)
    (number_bytes 4 rest (omega (arith, o.fits)) (omega (arith, o.col))))

outlet_is : (rows cols : ℕ) (rest : List ℕ) → is_outlet rest ≡ true
    → (ltb (number_at 2 rest) rows && ltb (number_at 4 rest) cols) ≡ true → OutletIs rows cols rest
outlet_is rows cols rest e f =
    let q = and_both (ltb (number_at 2 rest) rows) (ltb (number_at 4 rest) cols) f in
    record {
      fits = (record_is outlet_mark 6 rest e).fits;
      row = ltb-true (number_at 2 rest) rows q.0;
      col = ltb-true (number_at 4 rest) cols q.1;
    }

pub record TailIs (rows cols n : ℕ) (rest : List ℕ) : Type 0 where
  pub few : outlet_count n rest < n
  pub long : length rest ≡ 6 * outlet_count n rest + 2
  pub inside : all_pass (λ o. ltb o (rows * cols)) (outlets_from cols (outlet_count n rest) rest) ≡ true
  pub spelled : rest ≡ outlet_records cols (outlets_from cols (outlet_count n rest) rest) ++ end_record

pub tail_is : (rows cols n : ℕ) (rest : List ℕ) → rows ≤ 64 → cols ≤ 64 → first_failed (tail_checks rows cols n rest) ≡ 0
    → TailIs rows cols n rest
unfolding tail_checks first_failed outlet_count outlets_from outlet_records
tail_is rows cols zero rest h k e = absurd (omega arith)
tail_is rows cols (suc n) rest h k e = go (is_end rest) refl (tail_is rows cols n (drop 6 rest) h k)
  where
    go : (b : Bool) → is_end rest ≡ b
        → (first_failed (tail_checks rows cols n (drop 6 rest)) ≡ 0 → TailIs rows cols n (drop 6 rest))
        → TailIs rows cols (suc n) rest
    go true t ih =
        let w = record_is end_mark 2 rest t in
        let over = eqb-true (length rest) 2 (passes (eqb (length rest) 2) _ 8 (rw t at e)).0 in
        record {
          few = rw t (omega arith);
          long = rw t over;
          inside = rw t;
          spelled = rw t (w.begins (omega arith) ∙ ap (marked end_mark) (drop_of_length-le rest {i = 2} (omega arith)));
        }
    go false t ih =
        let p = passes (is_outlet rest) _ 5 (rw t at e) in
        let q = passes (ltb (number_at 2 rest) rows && ltb (number_at 4 rest) cols) _ 6 p.1 in
        let o = outlet_is rows cols rest p.0 q.0 in
        let i = ih q.1 in
        record {
          few = rw t (omega (arith, i.few));
          long = rw t (omega (arith, o.fits, i.long, length-drop 6 rest));
          inside =
              rw (t, lt-ltb (number_at 2 rest * cols + number_at 4 rest) (rows * cols) (digits_lt o.row o.col))
              i.inside;
          spelled =
              rw (t, digits_div (number_at 2 rest) o.col, digits_mod (number_at 2 rest) o.col)
              (outlet_spelled rest h k p.0 o
              ∙ ap (λ (l : List ℕ). outlet_record (number_at 2 rest) (number_at 4 rest) ++ l) i.spelled);
        }

pub outlets_long : (cols n : ℕ) (rest : List ℕ) → length (outlets_from cols n rest) ≡ n
unfolding outlets_from
outlets_long cols zero rest = refl
outlets_long cols (suc n) rest = ap suc (outlets_long cols n (drop 6 rest))

-- ---- the whole file

-- R and C, the places lent, the rows and what follows them, of a file that is accepted
pub record Accepted (file : List ℕ) (grid list : ℕ) : Type 0 where
  pub header : 6 ≤ length file
  pub some_rows : 1 ≤ file_rows file
  pub rows_small : file_rows file ≤ 64
  pub some_cols : 1 ≤ file_cols file
  pub cols_small : file_cols file ≤ 64
  pub few_bytes : file_rows file * (4 + file_cols file) ≤ 4352
  pub has_grid : file_rows file * file_cols file ≤ grid
  pub has_list : 256 ≤ list
  pub rows : RowsAre (file_rows file) (file_cols file) 0 (file_rows file) (drop 6 file)
  pub tail : TailIs (file_rows file) (file_cols file) 257 (file_tail file)
  pub few_outlets : length (file_outlets file) ≤ 256
  -- IT IS THE SPELLING of what is read of it
  pub spelled : file ≡ spelling (file_content file)

pub accepted : (file : List ℕ) (grid list : ℕ) → read_number file grid list ≡ 0 → Accepted file grid list
unfolding read_number first_failed spelling
accepted file grid list e =
    let R = file_rows file in
    let C = file_cols file in
    let a = passes (is_header file) _ 0 e in
    let b = passes (are_sheet_sides R C) _ 1 a.1 in
    let c = passes (leb (R * C) grid && leb 256 list) _ 2 b.1 in
    let w = record_is header_mark 6 file a.0 in
    let s = sized R C b.0 in
    let lent = and_both (leb (R * C) grid) (leb 256 list) c.0 in
    let rows = rows_are R C 0 R (drop 6 file) (omega (arith, s.rows_small)) c.1 in
    let after = drop-drop (R * (4 + C)) 6 file in
    let tail = tail_is R C 257 (file_tail file) s.rows_small s.cols_small (rw after at rows.later) in
    record {
      header = w.fits;
      some_rows = s.some_rows;
      rows_small = s.rows_small;
      some_cols = s.some_cols;
      cols_small = s.cols_small;
      few_bytes = s.few_bytes;
      has_grid = leb-true (R * C) grid lent.0;
      has_list = leb-true 256 list lent.1;
      rows = rows;
      tail = tail;
      few_outlets = omega (arith, tail.few, outlets_long C (outlet_count 257 (file_tail file)) (file_tail file));
      spelled =
          w.begins (omega arith)
          ∙ ap (marked header_mark) (number_bytes 2 file (omega (arith, w.fits)) (omega (arith, s.rows_small))
          ∙ ap (λ (l : List ℕ). two_bytes R ++ l)
          (number_bytes 4 file (omega (arith, w.fits)) (omega (arith, s.cols_small))
          ∙ ap (λ (l : List ℕ). two_bytes C ++ l) (rows.spelled
          ∙ ap (λ (l : List ℕ). row_records C 0 R (file_codes file) ++ l) (after ∙ tail.spelled))));
    }
