-- What is spelled is accepted and read back: record by record, whatever follows.
-- Assumes nothing.
use mathlib.Core.Path.{◌≡◌, refl, sym, ap, ◌∙◌}
use mathlib.Core.Bool.{true}
use mathlib.Core.List.{List, [], ◌∷◌, ◌++◌, append_assoc}
use Prim.Native.Nat.{ℕ, zero, suc, ◌+◌, ◌-◌, ◌*◌, ◌/◌, ◌%◌, ◌≤◌, ◌<◌}
use native.Mathlib.Nat.{add-zero, zero-add, zero-mul, suc-add, suc-mul, mod-lt, div-lt_iff_lt-mul, div-add-mod'}
use native.Mathlib.Omega.{arith}
use lib.ListN.{length, take, drop, length-drop, length-append}
use lib.Seq.{take_at, drop_at, take-add, drop-drop, length-take-le}
use lib.Dec.{ltb}
use borrow.Author.Tests.{ltb-true, le-leb, lt-ltb, eq-eqb}
use Rattle.lists.proofs.Lists.{and_both}
use Rattle.ground.specs.Tables.{table1, is_code}
use Rattle.answers.specs.Checks.{Check, first_failed, all_pass}
use Rattle.spelling.specs.Content.{Content, lent_content}
use Rattle.spelling.specs.Format.{header_mark, row_mark, outlet_mark, two_bytes, header_record, row_record}
use Rattle.spelling.specs.Format.{outlet_record, end_record, row_records, outlet_records, spelling}
use Rattle.spelling.specs.Reading.{number_at, is_record, is_row, row_codes, codes_from, outlet_count, outlets_from}
use Rattle.spelling.specs.Reading.{outlet_checks, tail_checks, rows_checks, read_number, file_rows, file_cols, file_tail}
use Rattle.spelling.specs.Reading.{file_codes, file_outlets, file_content}
use Rattle.spelling.proofs.Records.{all_append, is_side_lem, of_bytes, is_record_lem, no_end}

-- ---- rows

-- a row's record, its codes C in number, and what follows it
module _ (cols row : ℕ) (codes more : List ℕ) (size : length codes ≡ cols) where
  is_row_lem : is_row cols row (row_record row codes ++ more) ≡ true
  unfolding number_at
  is_row_lem =
      rw (
        is_record_lem row_mark (4 + cols) (two_bytes row ++ codes ++ more) (omega (arith, length-append codes more)),
        eq-eqb (row % 256 + 256 * (row / 256)) row (of_bytes row),
      )

  row_codes_lem : row_codes cols (row_record row codes ++ more) ≡ codes
  row_codes_lem = take_at codes more cols size

  row_after : drop (4 + cols) (row_record row codes ++ more) ≡ more
  row_after = sym (drop-drop cols 4 (row_record row codes ++ more)) ∙ drop_at codes more cols size

pub record RowsRead (rows cols row n : ℕ) (codes more : List ℕ) : Type 0 where
  pub number : first_failed (rows_checks rows cols row n (row_records cols row n codes ++ more))
      ≡ first_failed (tail_checks rows cols 257 more)
  pub same : codes_from cols n (row_records cols row n codes ++ more) ≡ take (n * cols) codes
  pub after : drop (n * (4 + cols)) (row_records cols row n codes ++ more) ≡ more

pub rows_read : (rows cols row n : ℕ) (codes more : List ℕ) → n * cols ≤ length codes
    → all_pass (is_code table1) (take (n * cols) codes) ≡ true → RowsRead rows cols row n codes more
unfolding rows_checks codes_from row_records first_failed
rows_read rows cols row zero codes more h a =
    record { number = refl; same = rw (zero-mul cols); after = rw (zero-mul (4 + cols)) }
rows_read rows cols row (suc n) codes more h a =
    let here = take cols codes in
    let below = drop cols codes in
    let later = row_records cols (row + 1) n below ++ more in
    let m : suc n * cols ≡ cols + n * cols = omega (arith, suc-mul n cols) in
    let t : take (suc n * cols) codes ≡ here ++ take (n * cols) below = rw m (take-add cols (n * cols) codes) in
    let b = and_both (all_pass (is_code table1) here) (all_pass (is_code table1) (take (n * cols) below))
    (sym (ap (all_pass (is_code table1)) t ∙ all_append (is_code table1) here (take (n * cols) below)) ∙ a) in
    let size : length here ≡ cols = length-take-le cols codes (omega arith) in
    let e = append_assoc here (row_records cols (row + 1) n below) more in
    let ih = rows_read rows cols (row + 1) n below more (omega (arith, length-drop cols codes)) b.1 in
    let s : suc n * (4 + cols) ≡ 4 + cols + n * (4 + cols) = omega (arith, suc-mul n (4 + cols)) in
    let same = row_codes_lem cols row here later size in
    let after = row_after cols row here later size in
    record {
      number = rw (e, is_row_lem cols row here later size, same, b.0, after) ih.number;
      same = rw (e, same, after, ih.same) (sym t);
      after =
          rw (e, s, ← drop-drop (n * (4 + cols)) (4 + cols) (row_record row here ++ later), after) ih.after;
    }

-- ---- outlets

-- the record of a cell, and what follows it
abbrev outlet : ℕ → ℕ → List ℕ → List ℕ
outlet cols o more = outlet_record (o / cols) (o % cols) ++ more

outlet_cell : (cols o : ℕ) (more : List ℕ)
    → number_at 2 (outlet cols o more) * cols + number_at 4 (outlet cols o more) ≡ o
unfolding number_at
outlet_cell cols o more = rw (of_bytes (o / cols), of_bytes (o % cols)) (div-add-mod' o cols)

outlet_number_lem : (rows cols o : ℕ) (more : List ℕ) → 0 < cols → o < rows * cols → (later : List Check)
    → first_failed (outlet_checks rows cols (outlet cols o more) ++ later) ≡ first_failed later
unfolding first_failed number_at
outlet_number_lem rows cols o more some inside later =
    rw (
      is_record_lem outlet_mark 6 (two_bytes (o / cols) ++ (two_bytes (o % cols) ++ more)) (omega arith),
      of_bytes (o / cols),
      of_bytes (o % cols),
      lt-ltb (o / cols) rows ((div-lt_iff_lt-mul some).1 inside),
      lt-ltb (o % cols) cols (mod-lt o some),
    )

pub record OutletsRead (rows cols n : ℕ) (os more : List ℕ) : Type 0 where
  pub number : first_failed (tail_checks rows cols (length os + n) (outlet_records cols os ++ more))
      ≡ first_failed (tail_checks rows cols n more)
  pub count : outlet_count (length os + n) (outlet_records cols os ++ more) ≡ length os + outlet_count n more
  pub same : outlets_from cols (length os) (outlet_records cols os ++ more) ≡ os

pub outlets_read : (rows cols n : ℕ) (os more : List ℕ) → 0 < cols → all_pass (λ o. ltb o (rows * cols)) os ≡ true
    → OutletsRead rows cols n os more
unfolding tail_checks outlet_count outlets_from outlet_records
outlets_read rows cols n [] more some a =
    record { number = rw (zero-add n); count = rw (zero-add n, zero-add (outlet_count n more)); same = refl }
outlets_read rows cols n (o ∷ os) more some a =
    let b = and_both (ltb o (rows * cols)) (all_pass (λ x. ltb x (rows * cols)) os) a in
    let i = ltb-true o (rows * cols) b.0 in
    let later = outlet_records cols os ++ more in
    let ih = outlets_read rows cols n os more some b.1 in
    let e = no_end (two_bytes (o / cols) ++ (two_bytes (o % cols) ++ later)) in
    let rest = tail_checks rows cols (length os + n) later in
    record {
      number = rw (suc-add (length os) n, e, outlet_number_lem rows cols o later some i rest) ih.number;
      count = rw (suc-add (length os) n, e) (omega (arith, ih.count));
      same = rw (outlet_cell cols o later, ih.same);
    }

-- nothing but the end record
end_number : (rows cols n : ℕ) → first_failed (tail_checks rows cols (suc n) end_record) ≡ 0
unfolding tail_checks first_failed is_record
end_number rows cols n = refl

end_count : (n : ℕ) → outlet_count (suc n) end_record ≡ 0
unfolding outlet_count is_record
end_count n = refl

-- more outlets than there are records to come
pub outlets_many : (rows cols n : ℕ) (os more : List ℕ) → 0 < cols → all_pass (λ o. ltb o (rows * cols)) os ≡ true
    → n ≤ length os → first_failed (tail_checks rows cols n (outlet_records cols os ++ more)) ≡ 8
unfolding tail_checks outlet_records first_failed
outlets_many rows cols zero os more some a h = refl
outlets_many rows cols (suc n) [] more some a h = absurd (omega arith)
outlets_many rows cols (suc n) (o ∷ os) more some a h =
    let b = and_both (ltb o (rows * cols)) (all_pass (λ x. ltb x (rows * cols)) os) a in
    let later = outlet_records cols os ++ more in
    rw (
      no_end (two_bytes (o / cols) ++ (two_bytes (o % cols) ++ later)),
      outlet_number_lem rows cols o later some (ltb-true o (rows * cols) b.0) (tail_checks rows cols n later),
    )
    (outlets_many rows cols n os more some b.1 (omega arith))

-- ---- the whole file

-- a grid of sheet size, with codes among the ten
pub record SheetGrid (rows cols : ℕ) (codes : List ℕ) : Type 0 where
  pub some_rows : 1 ≤ rows
  pub rows_small : rows ≤ 64
  pub some_cols : 1 ≤ cols
  pub cols_small : cols ≤ 64
  pub has_codes : rows * cols ≤ length codes
  pub are_codes : all_pass (is_code table1) (take (rows * cols) codes) ≡ true

-- header and rows of such a grid, and anything after them
module _ (rows cols : ℕ) (codes more : List ℕ) where
  abbrev file : List ℕ
  file = header_record rows cols ++ (row_records cols 0 rows codes ++ more)

  rows_same : file_rows file ≡ rows
  unfolding number_at
  rows_same = of_bytes rows

  cols_same : file_cols file ≡ cols
  unfolding number_at
  cols_same = of_bytes cols

  module _ (g : SheetGrid rows cols codes) where
    abbrev read : RowsRead rows cols 0 rows codes more
    read = rows_read rows cols 0 rows codes more g.has_codes g.are_codes

    codes_same : file_codes file ≡ take (rows * cols) codes
    codes_same = rw (rows_same, cols_same) read.same

    tail_same : file_tail file ≡ more
    tail_same = rw (rows_same, cols_same) (sym (drop-drop (rows * (4 + cols)) 6 file) ∙ read.after)

    -- the number is that of what follows the rows
    pub number_after_rows : (grid list : ℕ) → rows * cols ≤ grid → 256 ≤ list
        → read_number file grid list ≡ first_failed (tail_checks rows cols 257 more)
    unfolding read_number first_failed
    number_after_rows grid list h k =
        let later = two_bytes rows ++ (two_bytes cols ++ (row_records cols 0 rows codes ++ more)) in
        rw (
          is_record_lem header_mark 6 later (omega arith),
          rows_same,
          cols_same,
          is_side_lem rows g.some_rows g.rows_small,
          is_side_lem cols g.some_cols g.cols_small,
          le-leb (rows * cols) grid h,
          le-leb 256 list k,
        )
        read.number

-- and with outlets of the grid, and the end
abbrev tail : Content → List ℕ
tail c = outlet_records c.cols c.outlets ++ end_record

abbrev spare : Content → ℕ
spare c = 256 - length c.outlets

all_records : (c : Content) → length c.outlets ≤ 256 → 257 ≡ length c.outlets + suc (spare c)
all_records c few = omega arith

module _ (c : Content) (g : SheetGrid c.rows c.cols c.codes)
    (inside : all_pass (λ o. ltb o (c.rows * c.cols)) c.outlets ≡ true) where
  abbrev back : OutletsRead c.rows c.cols (suc (spare c)) c.outlets end_record
  back = outlets_read c.rows c.cols (suc (spare c)) c.outlets end_record g.some_cols inside

  module _ (few : length c.outlets ≤ 256) where
    -- IT IS ACCEPTED,
    pub spelling_accepted : (grid list : ℕ) → c.rows * c.cols ≤ grid → 256 ≤ list
        → read_number (spelling c) grid list ≡ 0
    unfolding spelling
    spelling_accepted grid list h k =
        number_after_rows c.rows c.cols c.codes (tail c) g grid list h k
        ∙ rw (all_records c few) (back.number ∙ end_number c.rows c.cols (spare c))

    -- with its outlets
    outlets_same : file_outlets (spelling c) ≡ c.outlets
    unfolding spelling
    outlets_same =
        rw (
          tail_same c.rows c.cols c.codes (tail c) g,
          cols_same c.rows c.cols c.codes (tail c),
          all_records c few,
          back.count,
          end_count (spare c),
          add-zero (length c.outlets),
        )
        back.same

    -- and all of its content
    pub content_same : file_content (spelling c) ≡ lent_content c
    unfolding spelling
    content_same =
        rw (
          codes_same c.rows c.cols c.codes (tail c) g,
          outlets_same,
          rows_same c.rows c.cols c.codes (tail c),
          cols_same c.rows c.cols c.codes (tail c),
        )

  -- IT IS REFUSED WITH 8 where they are more than 256
  pub spelling_8 : 256 < length c.outlets → (grid list : ℕ) → c.rows * c.cols ≤ grid → 256 ≤ list
      → read_number (spelling c) grid list ≡ 8
  unfolding spelling
  spelling_8 many grid list h k =
      number_after_rows c.rows c.cols c.codes (tail c) g grid list h k
      ∙ outlets_many c.rows c.cols 257 c.outlets end_record g.some_cols inside (omega arith)
