-- Sums over the numbers below n.
-- Assumes nothing.
use mathlib.Core.Path.{◌≡◌, refl, ap}
use mathlib.Core.Bool.{Bool, true, false, cond}
use Prim.Native.Nat.{ℕ, zero, suc, ◌+◌, ◌≤◌, ◌<◌}
use native.Mathlib.Omega.{arith}
use native.Mathlib.Decide.{dec_lt}
use lib.Dec.{eqb}
use borrow.Author.Tests.{eqb-true, eqb-false, eq-eqb, ne_eqb}
use Rattle.lists.specs.Lists.{how_many}

-- 1 if the two are the same, else 0
abbrev pub one : ℕ → ℕ → ℕ
one a b = elim (eqb a b) [ true ↦ 1 | false ↦ 0 ]

pub one_le : (a b : ℕ) → one a b ≤ 1
one_le a b = go (eqb a b)
  where
    go : (t : Bool) → elim t as (λ x. ℕ) [ true ↦ 1 | false ↦ 0 ] ≤ 1
    go true = omega arith
    go false = omega arith

pub one_same : (a b : ℕ) → a ≡ b → one a b ≡ 1
one_same a b h = rw (eq-eqb a b h, one)

pub one_other : (a b : ℕ) → (a ≡ b → ⊥) → one a b ≡ 0
one_other a b h = rw (ne_eqb a b h, one)

-- the sum of f over the numbers below n
unfoldable pub sum_to : ℕ → (ℕ → ℕ) → ℕ
sum_to zero f = 0
sum_to (suc n) f = sum_to n f + f n

pub sum_add : (n : ℕ) (f g : ℕ → ℕ) → sum_to n (λ c. f c + g c) ≡ sum_to n f + sum_to n g
unfolding sum_to
sum_add zero f g = refl
sum_add (suc n) f g = omega (arith, sum_add n f g)

pub sum_zero : (n : ℕ) → sum_to n (λ c. 0) ≡ 0
unfolding sum_to
sum_zero zero = refl
sum_zero (suc n) = omega (arith, sum_zero n)

pub sum_le : (n : ℕ) (f : ℕ → ℕ) → ((c : ℕ) → f c ≤ 1) → sum_to n f ≤ n
unfolding sum_to
sum_le zero f h = omega arith
sum_le (suc n) f h = omega (arith, sum_le n f h, h n)

pub sum_each : (n : ℕ) (f g : ℕ → ℕ) → ((c : ℕ) → f c ≤ g c) → sum_to n f ≤ sum_to n g
unfolding sum_to
sum_each zero f g h = omega arith
sum_each (suc n) f g h = omega (arith, sum_each n f g h, h n)

sum_above : (n a : ℕ) → n ≤ a → sum_to n (one a) ≡ 0
unfolding sum_to
sum_above zero a h = refl
sum_above (suc n) a h = omega (arith, sum_above n a (omega arith), one_other a n (λ e. omega arith))

pub sum_one : (n a : ℕ) → a < n → sum_to n (one a) ≡ 1
unfolding sum_to
sum_one zero a h = absurd (omega arith)
sum_one (suc n) a h = go (eqb a n) refl (sum_one n a)
  where
    go : (b : Bool) → eqb a n ≡ b → (a < n → sum_to n (one a) ≡ 1) → sum_to n (one a) + one a n ≡ 1
    go true e ih = omega (arith, sum_above n a (omega (arith, eqb-true a n e)), one_same a n (eqb-true a n e))
    go false e ih = omega (arith, ih (below (eqb-false a n e)), one_other a n (eqb-false a n e))
      where
        below : (a ≡ n → ⊥) → a < n
        below f = omega arith

-- more than n in a sum of n: one is more than 1
pub sum_more : (n : ℕ) (f : ℕ → ℕ) → n < sum_to n f → (c : ℕ) × (1 < f c)
unfolding sum_to
sum_more zero f h = absurd (omega arith)
sum_more (suc n) f h = go (dec_lt 1 (f n)) (sum_more n f)
  where
    go : Dec (1 < f n) → (n < sum_to n f → (c : ℕ) × (1 < f c)) → (c : ℕ) × (1 < f c)
    go (yes l) ih = (n, l)
    go (no l) ih = ih (less l)
      where
        less : (1 < f n → ⊥) → n < sum_to n f
        less k = omega arith

-- how many pass, as a sum
pub many_sum : (f : ℕ → Bool) (n : ℕ) → how_many f n ≡ sum_to n (λ c. cond (f c) 1 0)
unfolding how_many sum_to
many_sum f zero = refl
many_sum f (suc n) = ap (λ (k : ℕ). k + cond (f n) 1 0) (many_sum f n)
