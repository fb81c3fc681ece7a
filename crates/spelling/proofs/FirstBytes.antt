-- How far into a file reading looks: what stands beyond the longest sheet changes no number.
-- Assumes nothing.
use mathlib.Core.Path.{◌≡◌, refl, sym, ap, ◌∙◌}
use mathlib.Core.Bool.{Bool, true, false}
use mathlib.Core.List.{List, [], ◌∷◌}
use Prim.Native.Nat.{ℕ, zero, suc, ◌+◌, ◌*◌, ◌-◌, ◌≤◌, ◌<◌}
use native.Mathlib.Nat.{sub-zero, zero-sub, suc-sub-suc, suc-mul}
use native.Mathlib.Omega.{arith}
use native.Mathlib.Decide.{dec_le}
use lib.ListN.{length, take, drop, length-take, length-drop}
use lib.Seq.{take_all, take-nil, take-take, get_or-take}
use lib.Dec.{leb, eqb}
use borrow.Author.Tests.{le-leb, ne_eqb}
use Rattle.answers.specs.Checks.{first_failed}
use Rattle.spelling.specs.Format.{Mark, header_mark, row_mark, outlet_mark, end_mark}
use Rattle.spelling.specs.Reading.{number_at, is_record, is_header, row_codes, are_sheet_sides}
use Rattle.spelling.specs.Reading.{file_rows, file_cols, tail_checks, rows_checks, read_number}
use Rattle.spelling.proofs.Records.{sized}
use Rattle.spelling.proofs.Accepted.{accepted}

-- what is left of the first k bytes
drop_take : (m k : ℕ) (l : List ℕ) → drop m (take k l) ≡ take (k - m) (drop m l)
drop_take zero k l = rw (sub-zero k)
drop_take (suc m) zero l = rw (zero-sub (suc m))
drop_take (suc m) (suc k) [] = sym (take-nil (suc k - suc m))
drop_take (suc m) (suc k) (x ∷ l) = rw (suc-sub-suc k m) (drop_take m k l)

-- ---- one question, of the first k bytes

module _ (k : ℕ) (rest : List ℕ) where
  -- a test on the length answers the same if it cannot tell more bytes than k from k
  length_first : (test : ℕ → Bool) → (k < length rest → test k ≡ test (length rest))
      → test (length (take k rest)) ≡ test (length rest)
  length_first test same = elim (dec_le (length rest) k) [
    | yes h ↦ ap (λ (l : List ℕ). test (length l)) (take_all k rest h)
    | no f ↦
        let all : length (take k rest) ≡ k = omega (arith, length-take k rest, f) in
        ap test all ∙ same (omega (arith, f))
  ]

  record_first : (m : Mark) (size : ℕ) → size ≤ k → 2 ≤ k → is_record m size (take k rest) ≡ is_record m size rest
  unfolding is_record
  record_first m size h j =
      rw (
        length_first (leb size) (λ g. le-leb size k h ∙ sym (le-leb size (length rest) (omega arith))),
        get_or-take k rest 0 0 (omega arith),
        get_or-take k rest 1 0 (omega arith),
      )

  number_first : (at : ℕ) → at + 2 ≤ k → number_at at (take k rest) ≡ number_at at rest
  unfolding number_at
  number_first at h = rw (get_or-take k rest at 0 (omega arith), get_or-take k rest (at + 1) 0 (omega arith))

  codes_first : (cols : ℕ) → 4 + cols ≤ k → row_codes cols (take k rest) ≡ row_codes cols rest
  codes_first cols h = rw (drop_take 4 k rest) (take-take cols (k - 4) (drop 4 rest) (omega arith))

  over_first : 3 ≤ k → eqb (length (take k rest)) 2 ≡ eqb (length rest) 2
  over_first h =
      length_first (λ (n : ℕ). eqb n 2)
      (λ g. ne_eqb k 2 (λ e. omega arith) ∙ sym (ne_eqb (length rest) 2 (λ e. omega arith)))

-- ---- the checks

module _ (rows cols : ℕ) where
  tail_first : (n k : ℕ) (rest : List ℕ) → 6 * n ≤ k
      → tail_checks rows cols n (take k rest) ≡ tail_checks rows cols n rest
  unfolding tail_checks
  tail_first zero k rest h = refl
  tail_first (suc n) k rest h =
      rw (
        record_first k rest end_mark 2 (omega arith) (omega arith),
        over_first k rest (omega arith),
        record_first k rest outlet_mark 6 (omega arith) (omega arith),
        number_first k rest 2 (omega arith),
        number_first k rest 4 (omega arith),
        drop_take 6 k rest,
        tail_first n (k - 6) (drop 6 rest) (omega arith),
      )

  rows_first : (row n k : ℕ) (rest : List ℕ) → n * (4 + cols) + 6 * 257 ≤ k
      → rows_checks rows cols row n (take k rest) ≡ rows_checks rows cols row n rest
  unfolding rows_checks
  rows_first row zero k rest h = rw (tail_first 257 k rest (omega arith))
  rows_first row (suc n) k rest h =
      let s = suc-mul n (4 + cols) in
      rw (
        record_first k rest row_mark (4 + cols) (omega arith) (omega arith),
        number_first k rest 2 (omega arith),
        codes_first k rest cols (omega arith),
        drop_take (4 + cols) k rest,
        rows_first (row + 1) n (k - (4 + cols)) (drop (4 + cols) rest) (omega arith),
      )

-- ---- the whole file

-- THE NUMBER IS THAT OF THE FIRST BYTES: header, 64 rows of 64 codes, and 257 records of six bytes are 5,900
pub read_first : (n : ℕ) → 5900 ≤ n → (file : List ℕ) (grid list : ℕ)
    → read_number (take n file) grid list ≡ read_number file grid list
unfolding read_number first_failed
read_first n h file grid list =
    go (are_sheet_sides (file_rows file) (file_cols file)) refl
    (record_first n file header_mark 6 (omega arith) (omega arith))
    (number_first n file 2 (omega arith))
    (number_first n file 4 (omega arith))
  where
    go : (b : Bool) → are_sheet_sides (file_rows file) (file_cols file) ≡ b
        → is_header (take n file) ≡ is_header file → file_rows (take n file) ≡ file_rows file
        → file_cols (take n file) ≡ file_cols file
        → read_number (take n file) grid list ≡ read_number file grid list
    go true t e r c =
        let R = file_rows file in
        let C = file_cols file in
        let s = sized R C t in
        rw (e, r, c, drop_take 6 n file, rows_first R C 0 R (n - 6) (drop 6 file) (omega (arith, s.few_bytes)))
    go false t e r c = rw (e, r, c, t)

-- an accepted file is no longer: 64 rows of 64 codes, 256 outlets and the end
pub accepted_short : (file : List ℕ) (grid list : ℕ) → read_number file grid list ≡ 0 → length file ≤ 5896
accepted_short file grid list e =
    let a = accepted file grid list e in
    omega (
      arith,
      a.few_bytes,
      a.tail.few,
      a.tail.long,
      length-drop (6 + file_rows file * (4 + file_cols file)) file,
    )
