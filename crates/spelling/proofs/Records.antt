-- Numbers and records in a file, by their bytes.
-- Assumes nothing.
use mathlib.Core.Path.{◌≡◌, refl, ◌∙◌}
use mathlib.Core.Bool.{Bool, true, false, cond, ◌&&◌}
use mathlib.Core.List.{List, [], ◌∷◌, ◌++◌}
use Prim.Native.Nat.{ℕ, zero, suc, ◌+◌, ◌*◌, ◌/◌, ◌%◌, ◌≤◌, ◌<◌}
use native.Mathlib.Nat.{add-zero, mul-le-mul}
use native.Mathlib.Omega.{arith}
use lib.ListN.{length, get_or, take, drop, length-drop}
use lib.Seq.{take-suc, drop-drop, get_or-drop}
use lib.Dec.{leb, eqb}
use borrow.Author.Tests.{leb-true, eqb-true, le-leb, eq-eqb}
use Rattle.lists.specs.Lists.{all_below}
use Rattle.lists.proofs.Lists.{and_both}
use Rattle.answers.specs.Checks.{all_pass}
use Rattle.spelling.specs.Format.{Mark, marked, two_bytes, outlet_mark}
use Rattle.spelling.specs.Reading.{number_at, is_record, is_end, is_sheet_side, are_sheet_sides}

-- ---- checks

-- a check that gives 0 passes, and so do those after it
pub passes : (b : Bool) (later k : ℕ) → cond b later (suc k) ≡ 0 → (b ≡ true) × (later ≡ 0)
passes true later k e = (refl, e)
passes false later k e = absurd (omega arith)

pub all_append : (f : ℕ → Bool) (xs ys : List ℕ) → all_pass f (xs ++ ys) ≡ (all_pass f xs && all_pass f ys)
all_append f [] ys = refl
all_append f (x ∷ xs) ys = rw (all_append f xs ys) (assoc (f x) (all_pass f xs) (all_pass f ys))
  where
    assoc : (a b c : Bool) → (a && (b && c)) ≡ ((a && b) && c)
    assoc true b c = refl
    assoc false b c = refl

-- a test of the numbers below n is one of the first n elements
pub all_first : (f : ℕ → Bool) (l : List ℕ) (n : ℕ) → n ≤ length l
    → all_below (λ x. f (get_or l x 0)) n ≡ all_pass f (take n l)
all_first f l zero h = refl
all_first f l (suc n) h =
    rw (take-suc l n 0 (omega arith), all_append f (take n l) (get_or l n 0 ∷ []), all_first f l n (omega arith))
    (swap (f (get_or l n 0)) (all_pass f (take n l)))
  where
    swap : (a b : Bool) → (a && b) ≡ (b && (a && true))
    swap true true = refl
    swap true false = refl
    swap false true = refl
    swap false false = refl

side_is : (n : ℕ) → is_sheet_side n ≡ true → (1 ≤ n) × (n ≤ 64)
side_is n e = let q = and_both (leb 1 n) (leb n 64) e in (leb-true 1 n q.0, leb-true n 64 q.1)

pub is_side_lem : (n : ℕ) → 1 ≤ n → n ≤ 64 → is_sheet_side n ≡ true
is_side_lem n h k = rw (le-leb 1 n h, le-leb n 64 k)

-- the sizes that 2 leaves: R, C, the cells, and the bytes of all rows
pub record Sized (rows cols : ℕ) : Type 0 where
  pub some_rows : 1 ≤ rows
  pub rows_small : rows ≤ 64
  pub some_cols : 1 ≤ cols
  pub cols_small : cols ≤ 64
  pub few_cells : rows * cols ≤ 4096
  pub few_bytes : rows * (4 + cols) ≤ 4352

pub sized : (rows cols : ℕ) → are_sheet_sides rows cols ≡ true → Sized rows cols
sized rows cols e =
    let s = and_both (is_sheet_side rows) (is_sheet_side cols) e in
    let r = side_is rows s.0 in
    let c = side_is cols s.1 in
    let k : 4 + cols ≤ 68 = omega (arith, c.1) in
    record {
      some_rows = r.0;
      rows_small = r.1;
      some_cols = c.0;
      cols_small = c.1;
      few_cells = mul-le-mul r.1 c.1;
      few_bytes = mul-le-mul r.1 k;
    }

-- ---- numbers

-- a list by its first two elements
pub two : (l : List ℕ) → 2 ≤ length l → l ≡ get_or l 0 0 ∷ get_or l 1 0 ∷ drop 2 l
two [] h = absurd (omega arith)
two (x ∷ []) h = absurd (omega arith)
two (x ∷ y ∷ l) h = refl

-- two bytes are their number
pub of_bytes : (n : ℕ) → n % 256 + 256 * (n / 256) ≡ n
of_bytes n = omega arith

-- and a number below 256 is its two bytes, whatever they are
small_bytes : (low high : ℕ) → low + 256 * high < 256
    → ((low + 256 * high) % 256 ≡ low) × ((low + 256 * high) / 256 ≡ high)
small_bytes low high h = (omega arith, omega arith)

pub number_bytes : (at : ℕ) (l : List ℕ) → at + 2 ≤ length l → number_at at l < 256
    → drop at l ≡ two_bytes (number_at at l) ++ drop (at + 2) l
unfolding number_at
number_bytes at l h k =
    let q = small_bytes (get_or l at 0) (get_or l (at + 1) 0) k in
    let a : get_or (drop at l) 0 0 ≡ get_or l at 0 = get_or-drop at l 0 0 ∙ rw (add-zero at) in
    rw (q.0, q.1, ← get_or-drop at l 1 0, ← a, ← drop-drop 2 at l) (two (drop at l) (omega (arith, length-drop at l)))

-- ---- records

pub record Whole (m : Mark) (size : ℕ) (rest : List ℕ) : Type 0 where
  pub fits : size ≤ length rest
  pub begins : 2 ≤ size → rest ≡ marked m (drop 2 rest)

pub record_is : (m : Mark) (size : ℕ) (rest : List ℕ) → is_record m size rest ≡ true → Whole m size rest
unfolding is_record
record_is m size rest e =
    let q = and_both (leb size (length rest)) (eqb (get_or rest 0 0) m.first && eqb (get_or rest 1 0) m.second) e in
    let r = and_both (eqb (get_or rest 0 0) m.first) (eqb (get_or rest 1 0) m.second) q.1 in
    let fits = leb-true size (length rest) q.0 in
    record {
      fits = fits;
      begins = λ h.
          two rest (omega arith)
          ∙ rw (eqb-true (get_or rest 0 0) m.first r.0, eqb-true (get_or rest 1 0) m.second r.1);
    }

pub is_record_lem : (m : Mark) (size : ℕ) (rest : List ℕ) → size ≤ length (marked m rest)
    → is_record m size (marked m rest) ≡ true
unfolding is_record
is_record_lem m size rest h =
    rw (le-leb size (length (marked m rest)) h, eq-eqb m.first m.first refl, eq-eqb m.second m.second refl)

-- an outlet record is no end record
pub no_end : (rest : List ℕ) → is_end (marked outlet_mark rest) ≡ false
unfolding is_record
no_end rest = rw (le-leb 2 (length (marked outlet_mark rest)) (omega arith))
