-- Bytes put one after another, and records so.
-- Assumes nothing.
use mathlib.Core.Path.{◌≡◌, refl, sym, ap, ◌∙◌}
use mathlib.Core.List.{List, [], ◌∷◌, ◌++◌, append-nil, append_assoc}
use Prim.Native.Nat.{ℕ, zero, suc, ◌+◌, ◌-◌, ◌*◌, ◌≤◌, ◌<◌}
use native.Mathlib.Nat.{add-zero, zero-add, zero-mul, suc-mul}
use native.Mathlib.Numerals.{add-one}
use native.Mathlib.Omega.{arith}
use lib.ListN.{length, get_or, take, drop, length-append, length-drop}
use lib.Seq.{take-suc, drop-drop, length-take-le}
use Rattle.lists.proofs.Overlaid.{sets_after}
use Rattle.cells.specs.Numbers.{RowAndColumn}
use Rattle.cells.proofs.Numbers.{is_row_lem, is_col}
use Rattle.spelling.specs.Format.{row_record, outlet_record, row_records, outlet_records}
use Rattle.spelling.proofs.Sizes.{rows_length, outlets_length}
use Rattle.writing.specs.Puts.{Puts}

-- nothing is put
pub puts_none : {here : ℕ} {l : List ℕ} → Puts [] here l here l
puts_none = record { lands = omega arith; holds = refl }

-- bytes after other bytes
pub puts_then : {xs ys l l₁ l₂ : List ℕ} {at : ℕ} {here next : ℕ} → Puts xs at l here l₁
    → Puts ys here l₁ next l₂ → Puts (xs ++ ys) at l next l₂
puts_then {xs} {ys} {l} {l₁} {l₂} {at} p q = record {
  lands = omega (arith, p.lands, q.lands, length-append xs ys);
  holds = q.holds ∙ rw (p.holds, p.lands) (sets_after xs ys l at);
}

-- ---- rows, one more at a time

rows_more : (cols row n : ℕ) (codes : List ℕ) → row_records cols row (suc n) codes
    ≡ row_records cols row n codes ++ row_record (row + n) (take cols (drop (n * cols) codes))
unfolding row_records
rows_more cols row zero codes = rw (zero-mul cols, add-zero row) (append-nil (row_record row (take cols codes)))
rows_more cols row (suc n) codes =
    let e : suc n * cols ≡ cols + n * cols = omega (arith, suc-mul n cols) in
    let r : row + suc n ≡ row + 1 + n = omega arith in
    let here = row_record row (take cols codes) in
    let next = row_record (row + 1 + n) (take cols (drop (n * cols) (drop cols codes))) in
    ap (λ (l : List ℕ). here ++ l) (rows_more cols (row + 1) n (drop cols codes))
    ∙ rw (e, r, ← drop-drop (n * cols) cols codes)
    (sym (append_assoc here (row_records cols (row + 1) n (drop cols codes)) next))

-- the codes of a row, as a part of all
abbrev part : ℕ → ℕ → List ℕ → List ℕ
part cols from codes = take (from + cols - from) (drop from codes)

pub part_length : (cols from : ℕ) (codes : List ℕ) → from + cols ≤ length codes → length (part cols from codes) ≡ cols
part_length cols from codes h =
    let e : from + cols - from ≡ cols = omega arith in
    rw e (length-take-le cols (drop from codes) (omega (arith, length-drop from codes)))

pub rows_next : (cols row : ℕ) (codes : List ℕ)
    → row_records cols 0 (row + 1) codes ≡ row_records cols 0 row codes ++ row_record row (part cols (row * cols) codes)
rows_next cols row codes =
    let e : row * cols + cols - row * cols ≡ cols = omega arith in
    rw (add-one row, e) (rows_more cols 0 row codes ∙ rw (zero-add row))

pub rows_land : (cols row : ℕ) (codes : List ℕ) {l m : List ℕ} {here : ℕ}
    → Puts (row_records cols 0 row codes) 6 l here m → row * cols ≤ length codes → here ≡ 6 + row * (4 + cols)
rows_land cols row codes p h = omega (arith, p.lands, rows_length cols 0 row codes h)

-- ---- outlets, one more at a time

outlets_both : (cols : ℕ) (os more : List ℕ)
    → outlet_records cols (os ++ more) ≡ outlet_records cols os ++ outlet_records cols more
unfolding outlet_records
outlets_both cols [] more = refl
outlets_both cols (o ∷ os) more = rw (outlets_both cols os more)

pub outlets_next : (cols k : ℕ) (os : List ℕ) {row col : ℕ} → k < length os → RowAndColumn cols (get_or os k 0) row col
    → outlet_records cols (take (k + 1) os) ≡ outlet_records cols (take k os) ++ outlet_record row col
unfolding outlet_records
outlets_next cols k os h cell =
    rw (add-one k, take-suc os k 0 h, is_row_lem cell, is_col cell) (outlets_both cols (take k os) (get_or os k 0 ∷ []))

pub outlets_land : (cols k : ℕ) (os : List ℕ) {at : ℕ} {l m : List ℕ} {here : ℕ}
    → Puts (outlet_records cols (take k os)) at l here m → k ≤ length os → here ≡ at + 6 * k
outlets_land cols k os p h =
    omega (arith, p.lands, outlets_length cols (take k os), length-take-le k os h)
