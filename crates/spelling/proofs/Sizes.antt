-- How long a spelling is, and which codes it takes; that there is room for the next row.
-- Assumes nothing.
use mathlib.Core.Path.{◌≡◌, refl, sym, ap}
use mathlib.Core.List.{List, [], ◌∷◌, ◌++◌}
use Prim.Native.Nat.{ℕ, zero, suc, ◌+◌, ◌*◌, ◌≤◌, ◌<◌}
use native.Mathlib.Nat.{zero-mul, suc-mul, mul-le-mul}
use native.Mathlib.Omega.{arith}
use lib.ListN.{length, take, drop, length-append, length-drop}
use lib.Seq.{take_at, drop_at, take-add, length-take-le}
use Rattle.spelling.specs.Content.{Content, lent_content}
use Rattle.spelling.specs.Format.{row_record, end_record, row_records, outlet_records, spelling}

-- row by row there is room for the next
pub next_fits : (row rows k : ℕ) → row < rows → row * k + k ≤ rows * k
next_fits row rows k h =
    let s : suc row ≤ rows = omega arith in
    let m : suc row * k ≤ rows * k = mul-le-mul s (omega arith) in
    omega (arith, suc-mul row k)

pub rows_length : (cols row n : ℕ) (codes : List ℕ) → n * cols ≤ length codes
    → length (row_records cols row n codes) ≡ n * (4 + cols)
unfolding row_records
rows_length cols row zero codes h = sym (zero-mul (4 + cols))
rows_length cols row (suc n) codes h =
    let m = suc-mul n cols in
    omega (
      arith,
      suc-mul n (4 + cols),
      length-take-le cols codes (omega arith),
      length-append (take cols codes) (row_records cols (row + 1) n (drop cols codes)),
      rows_length cols (row + 1) n (drop cols codes) (omega (arith, length-drop cols codes)),
    )

pub outlets_length : (cols : ℕ) (os : List ℕ) → length (outlet_records cols os) ≡ 6 * length os
unfolding outlet_records
outlets_length cols [] = refl
outlets_length cols (o ∷ os) = omega (arith, outlets_length cols os)

pub spelling_length : (c : Content) → c.rows * c.cols ≤ length c.codes
    → length (spelling c) ≡ 6 + c.rows * (4 + c.cols) + 6 * length c.outlets + 2
unfolding spelling
spelling_length c h =
    let rows = row_records c.cols 0 c.rows c.codes in
    let outlets = outlet_records c.cols c.outlets in
    omega (
      arith,
      length-append rows (outlets ++ end_record),
      length-append outlets end_record,
      rows_length c.cols 0 c.rows c.codes h,
      outlets_length c.cols c.outlets,
    )

-- n rows take n × C codes
rows_first : (cols row n : ℕ) (codes : List ℕ) → n * cols ≤ length codes
    → row_records cols row n (take (n * cols) codes) ≡ row_records cols row n codes
unfolding row_records
rows_first cols row zero codes h = refl
rows_first cols row (suc n) codes h =
    let here = take cols codes in
    let below = take (n * cols) (drop cols codes) in
    let m : suc n * cols ≡ cols + n * cols = omega (arith, suc-mul n cols) in
    let size : length here ≡ cols = length-take-le cols codes (omega arith) in
    rw (m, take-add cols (n * cols) codes, take_at here below cols size, drop_at here below cols size)
    (ap (λ (l : List ℕ). row_record row here ++ l)
    (rows_first cols (row + 1) n (drop cols codes) (omega (arith, length-drop cols codes))))

pub spelling_first : (c : Content) → c.rows * c.cols ≤ length c.codes → spelling (lent_content c) ≡ spelling c
unfolding spelling
spelling_first c h = rw (rows_first c.cols 0 c.rows c.codes h)
