-- The order of the numbers p + q√k, for whole p, q and k, by whole numbers alone: the sign of p + q√k is the sign of
-- p|p| + k·q|q|.
-- Assumes nothing.
use mathlib.Core.Path.{◌≡◌, refl, sym, ap}
use mathlib.Core.Bool.{Bool, true, false, not}
use Prim.Native.Nat.{ℕ, zero, suc, ◌+◌, ◌*◌, ◌-◌, ◌/◌, ◌%◌, ◌≤◌, ◌<◌}
use native.Mathlib.Nat.{mul-le-mul, mul-le-mul_left, sub-eq-zero_of_le, sub-le, add_comm}
use native.Mathlib.Omega.{arith}
use native.Mathlib.Decide.{dec_le}
use lib.Dec.{ltb, leb}
use borrow.Author.Tests.{ltb-true, ltb-false, lt-ltb, le-ltb, le-leb, lt-leb}

-- p² + k·q²
unfoldable pub square_sum : ℕ → ℕ → ℕ → ℕ
square_sum k p q = p * p + k * (q * q)

-- by how much a + b√k is excess c + d√k: of p = a - c and q = b - d, only what is positive counts
abbrev pub excess : ℕ → ℕ → ℕ → ℕ → ℕ → ℕ
excess k a b c d = square_sum k (a - c) (b - d)

-- is a + b√k less than c + d√k?
unfoldable pub surd_less : ℕ → ℕ → ℕ → ℕ → ℕ → Bool
surd_less k a b c d = ltb (excess k a b c d) (excess k c d a b)

-- a + b√k is at most c + d√k
unfoldable pub SurdAtMost : ℕ → ℕ → ℕ → ℕ → ℕ → Type 0
SurdAtMost k a b c d = excess k a b c d ≤ excess k c d a b

-- the three ways to be at most
data Way (k a b c d : ℕ) : Type 0 where
  both : a ≤ c → b ≤ d → Way k a b c d
  flat : (p q : ℕ) → c ≡ a + p → b ≡ d + q → k * (q * q) ≤ p * p → Way k a b c d
  slant : (p q : ℕ) → a ≡ c + p → d ≡ b + q → p * p ≤ k * (q * q) → Way k a b c d

-- two pairs of sides whose squares are so ordered have their products so ordered
cross_flat : (k p q p' q' : ℕ) → k * (q * q) ≤ p * p → k * (q' * q') ≤ p' * p' → k * (q * q') ≤ p * p'
cross_flat k p q p' q' h h' = elim (dec_le (k * (q * q')) (p * p')) [ yes l ↦ l | no f ↦ absurd (go (omega arith)) ]
  where
    go : suc (p * p') ≤ k * (q * q') → ⊥
    go l = omega (arith, mul-le-mul h h', mul-le-mul l l)

cross_slant : (k p q p' q' : ℕ) → p * p ≤ k * (q * q) → p' * p' ≤ k * (q' * q') → p * p' ≤ k * (q * q')
cross_slant k p q p' q' h h' = elim (dec_le (p * p') (k * (q * q'))) [ yes l ↦ l | no f ↦ absurd (go (omega arith)) ]
  where
    go : suc (k * (q * q')) ≤ p * p' → ⊥
    go l = omega (arith, mul-le-mul h h', mul-le-mul l l)

sum_flat : (k p q p' q' : ℕ) → k * (q * q) ≤ p * p → k * (q' * q') ≤ p' * p'
    → k * ((q + q') * (q + q')) ≤ (p + p') * (p + p')
sum_flat k p q p' q' h h' = omega (arith, cross_flat k p q p' q' h h')

sum_slant : (k p q p' q' : ℕ) → p * p ≤ k * (q * q) → p' * p' ≤ k * (q' * q')
    → (p + p') * (p + p') ≤ k * ((q + q') * (q + q'))
sum_slant k p q p' q' h h' = omega (arith, cross_slant k p q p' q' h h')

-- what is left of a greater after a lesser is taken away
less_flat : (k p q s t : ℕ) → p * p ≤ k * (q * q) → k * ((q + s) * (q + s)) ≤ (p + t) * (p + t) → k * (s * s) ≤ t * t
less_flat k p q s t h h' = elim (dec_le (k * (s * s)) (t * t)) [ yes l ↦ l | no f ↦ absurd (go (omega arith)) ]
  where
    go : suc (t * t) ≤ k * (s * s) → ⊥
    go l = omega (arith, cross_slant k p q t s h (omega arith))

less_slant : (k p q s t : ℕ) → k * (q * q) ≤ p * p → (p + t) * (p + t) ≤ k * ((q + s) * (q + s)) → t * t ≤ k * (s * s)
less_slant k p q s t h h' = elim (dec_le (t * t) (k * (s * s))) [ yes l ↦ l | no f ↦ absurd (go (omega arith)) ]
  where
    go : suc (k * (s * s)) ≤ t * t → ⊥
    go l = omega (arith, cross_flat k p q t s h (omega arith))

way_of : (k a b c d : ℕ) → SurdAtMost k a b c d → Way k a b c d
unfolding SurdAtMost square_sum
way_of k a b c d h = elim (dec_le a c) [ yes i ↦ up i | no i ↦ down (omega arith) ]
  where
    up : a ≤ c → Way k a b c d
    up i = elim (dec_le b d) [
      | yes j ↦ both i j
      | no j ↦ flat (c - a) (b - d) (omega arith) (omega arith)
          (short (omega arith))
    ]
      where
        short : d ≤ b → k * ((b - d) * (b - d)) ≤ (c - a) * (c - a)
        short l = omega (arith, rw (sub-eq-zero_of_le i, sub-eq-zero_of_le l) at h)

    down : c < a → Way k a b c d
    down i = elim (dec_le b d) [
      | yes j ↦ slant (a - c) (d - b) (omega arith) (omega arith) (short j)
      | no j ↦ absurd (none (omega arith))
    ]
      where
        gone : c - a ≡ 0
        gone = omega arith

        short : b ≤ d → (a - c) * (a - c) ≤ k * ((d - b) * (d - b))
        short l = omega (arith, rw (gone, sub-eq-zero_of_le l) at h)

        none : d ≤ b → ⊥
        none l = omega (arith, rw (gone, sub-eq-zero_of_le l) at h, mul-le-mul one one)
          where
            one : 1 ≤ a - c
            one = omega arith

at_most_of : (k a b c d : ℕ) → Way k a b c d → SurdAtMost k a b c d
unfolding SurdAtMost square_sum
at_most_of k a b c d (both i j) = rw (sub-eq-zero_of_le i, sub-eq-zero_of_le j) (omega arith)
at_most_of k a b c d (flat p q e f h) = go (omega arith) (omega arith) (omega arith) (omega arith)
  where
    go : a - c ≡ 0 → b - d ≡ q → c - a ≡ p → d - b ≡ 0 → SurdAtMost k a b c d
    go x y z w = rw (x, y, z, w) (omega arith)
at_most_of k a b c d (slant p q e f h) = go (omega arith) (omega arith) (omega arith) (omega arith)
  where
    go : a - c ≡ p → b - d ≡ 0 → c - a ≡ 0 → d - b ≡ q → SurdAtMost k a b c d
    go x y z w = rw (x, y, z, w) (omega arith)

SurdAtMost-trans : (k a b c d e f : ℕ) → SurdAtMost k a b c d → SurdAtMost k c d e f → SurdAtMost k a b e f
SurdAtMost-trans k a b c d e f h h' = at_most_of k a b e f (go (way_of k a b c d h) (way_of k c d e f h'))
  where
    -- from the ends' differences, if the numbers on both sides of them are known
    as_flat : (p q : ℕ) → e ≡ a + p → k * (q * q) ≤ p * p → b ≤ f + q → Way k a b e f
    as_flat p q i l j = elim (dec_le b f) [
      | yes m ↦ both (omega arith) m
      | no m ↦ flat p (b - f) i (omega arith)
          (less (omega arith))
    ]
      where
        less : b - f ≤ q → k * ((b - f) * (b - f)) ≤ p * p
        less m = omega (arith, mul-le-mul_left k (mul-le-mul m m))

    as_slant : (p q : ℕ) → f ≡ b + q → p * p ≤ k * (q * q) → a ≤ e + p → Way k a b e f
    as_slant p q i l j = elim (dec_le a e) [
      | yes m ↦ both m (omega arith)
      | no m ↦ slant (a - e) q (omega arith) i
          (less (omega arith))
    ]
      where
        less : a - e ≤ p → (a - e) * (a - e) ≤ k * (q * q)
        less m = omega (arith, mul-le-mul m m)

    -- one difference of each kind
    mixed : (p q p' q' : ℕ) → k * (q * q) ≤ p * p → p' * p' ≤ k * (q' * q') → a + p ≡ e + p' → b + q' ≡ f + q
        → Way k a b e f
    mixed p q p' q' l l' x y = elim (dec_le p' p) [ yes m ↦ up m | no m ↦ down (omega arith) ]
      where
        up : p' ≤ p → Way k a b e f
        up m = elim (dec_le q q') [
          | yes n ↦ both (omega arith) (omega arith)
          | no n ↦ flat (p - p') (q - q')
              (omega arith) (omega arith) (rest (omega arith) (omega arith))
        ]
          where
            rest : p' + (p - p') ≡ p → q' + (q - q') ≡ q → k * ((q - q') * (q - q')) ≤ (p - p') * (p - p')
            rest v w = less_flat k p' q' (q - q') (p - p') l' (rw (v, w) l)

        down : p < p' → Way k a b e f
        down m = elim (dec_le q q') [
          | yes n ↦ slant (p' - p) (q' - q) (omega arith) (omega arith)
              (rest (omega arith) (omega arith))
          | no n ↦ absurd (none (omega arith))
        ]
          where
            rest : p + (p' - p) ≡ p' → q + (q' - q) ≡ q' → (p' - p) * (p' - p) ≤ k * ((q' - q) * (q' - q))
            rest v w = less_slant k p q (q' - q) (p' - p) l (rw (v, w) l')

            none : q' ≤ q → ⊥
            none n = omega (arith, mul-le-mul m m, mul-le-mul_left k (mul-le-mul n n))

    go : Way k a b c d → Way k c d e f → Way k a b e f
    go (both i j) (both i' j') = both (omega arith) (omega arith)
    go (both i j) (flat p q x y l) = as_flat (p + (c - a)) q (omega arith)
        (omega (arith, mul-le-mul_left p (sub-le c a))) (omega arith)
    go (both i j) (slant p q x y l) = as_slant p (q + (d - b)) (omega arith) (omega arith) (omega arith)
    go (flat p q x y l) (both i j) = as_flat (p + (e - c)) q (omega arith) (omega arith) (omega arith)
    go (slant p q x y l) (both i j) = as_slant p (q + (f - d)) (omega arith) (omega arith) (omega arith)
    go (flat p q x y l) (flat p' q' x' y' l') = as_flat (p + p') (q + q') (omega arith) (sum_flat k p q p' q' l l')
        (omega arith)
    go (slant p q x y l) (slant p' q' x' y' l') = as_slant (p + p') (q + q') (omega arith)
        (sum_slant k p q p' q' l l') (omega arith)
    go (flat p q x y l) (slant p' q' x' y' l') = mixed p q p' q' l l' (omega arith) (omega arith)
    go (slant p q x y l) (flat p' q' x' y' l') = mixed p' q' p q l' l (omega arith) (omega arith)

-- the test and the fact
pub surd_false : (k a b c d : ℕ) → surd_less k a b c d ≡ false → SurdAtMost k c d a b
unfolding surd_less SurdAtMost
surd_false k a b c d t = ltb-false (excess k a b c d) (excess k c d a b) t

pub at_most_surd : (k a b c d : ℕ) → SurdAtMost k c d a b → surd_less k a b c d ≡ false
unfolding surd_less SurdAtMost
at_most_surd k a b c d h = le-ltb (excess k a b c d) (excess k c d a b) h

-- asymmetric, and what is not surd_less is transitive
pub surd_asym : (k a b c d : ℕ) → surd_less k a b c d ≡ true → surd_less k c d a b ≡ false
unfolding surd_less
surd_asym k a b c d t = le-ltb (excess k c d a b) (excess k a b c d)
    (omega (arith, ltb-true (excess k a b c d) (excess k c d a b) t))

pub surd_trans : (k a b c d e f : ℕ) → surd_less k c d a b ≡ false → surd_less k e f c d ≡ false
    → surd_less k e f a b ≡ false
surd_trans k a b c d e f h i =
    at_most_surd k e f a b (SurdAtMost-trans k a b c d e f (surd_false k c d a b h) (surd_false k e f c d i))

-- the same added to both sides makes no difference
pub surd_shift : (k a b c d i j : ℕ) → surd_less k (a + i) (b + j) (c + i) (d + j) ≡ surd_less k a b c d
unfolding surd_less
surd_shift k a b c d i j = rw (shift a c i, shift b d j, shift c a i, shift d b j)
  where
    shift : (x y z : ℕ) → (x + z) - (y + z) ≡ x - y
    shift x y z = omega arith

pub surd_shift_left : (k a b c d i j : ℕ) → surd_less k (i + a) (j + b) (i + c) (j + d) ≡ surd_less k a b c d
surd_shift_left k a b c d i j = rw (add_comm i a, add_comm j b, add_comm i c, add_comm j d) (surd_shift k a b c d i j)

none : (x y : ℕ) → x - (x + y) ≡ 0
none x y = omega arith

all : (x y : ℕ) → (x + y) - x ≡ y
all x y = omega arith

-- more of either is more
pub surd_more : (k a b i j : ℕ) → 0 < i + k * j → surd_less k a b (a + i) (b + j) ≡ true
unfolding surd_less square_sum
surd_more k a b i j h = rw (none a i, none b j, all a i, all b j)
    (lt-ltb (square_sum k 0 0) (square_sum k i j) (elim (dec_le 1 i) [ yes l ↦ left l | no l ↦ right (omega arith) ]))
  where
    left : 1 ≤ i → square_sum k 0 0 < square_sum k i j
    left l = omega (arith, mul-le-mul l l)

    right : 0 < k * j → square_sum k 0 0 < square_sum k i j
    right l = elim (dec_le 1 j) [ yes m ↦ more m | no m ↦ absurd (less (omega arith)) ]
      where
        more : 1 ≤ j → square_sum k 0 0 < square_sum k i j
        more m = omega (arith, mul-le-mul_left (k * j) m)

        less : j ≤ 0 → ⊥
        less m = omega (arith, mul-le-mul_left k m)

square_zero : (x : ℕ) → x * x ≤ 0 → x ≡ 0
square_zero x l = elim (dec_le 1 x) [ yes m ↦ absurd (never m) | no m ↦ omega arith ]
  where
    never : 1 ≤ x → ⊥
    never m = omega (arith, mul-le-mul m m)

-- the square root of 2 is no fraction: p is even, and q and p / 2 are a smaller pair of the same kind
root_two : (n p q : ℕ) → p ≤ n → p * p ≡ 2 * (q * q) → p ≡ 0
root_two zero p q h e = omega arith
root_two (suc n) p q h e =
    elim (dec_le 1 p) [
      | yes l ↦ go (p / 2) (p % 2) (omega arith) (omega arith) l (root_two n q (p / 2))
      | no l ↦ omega arith
    ]
  where
    go : (m r : ℕ) → p ≡ 2 * m + r → r ≤ 1 → 1 ≤ p → (q ≤ n → q * q ≡ 2 * (m * m) → q ≡ 0) → p ≡ 0
    go m zero f l o ih = square_zero p
        (omega (
          arith,
          e,
          ap (λ (x : ℕ). x * x)
              (ih (elim (dec_le q n) [ yes k ↦ k | no k ↦ absurd (big (omega arith)) ]) (omega (arith, rw f at e))),
        ))
      where
        big : p ≤ q → ⊥
        big k = omega (arith, mul-le-mul k k, mul-le-mul o o)
    go m (suc zero) f l o ih = absurd (omega (arith, rw f at e))
    go m (suc (suc r)) f l o ih = absurd (omega arith)

roots : (p q : ℕ) → p * p ≡ 2 * (q * q) → (p ≡ 0) × (q ≡ 0)
roots p q e = let z : p ≡ 0 = root_two p p q (omega arith) e in
    (z, square_zero q (omega (arith, e, ap (λ (x : ℕ). x * x) z)))

same_half : (a b c d : ℕ) → a ≤ c → excess 2 a b c d ≡ excess 2 c d a b → (a ≡ c) × (b ≡ d)
unfolding square_sum
same_half a b c d l e = elim (dec_le b d) [ yes m ↦ up m | no m ↦ down (omega arith) ]
  where
    gone : a - c ≡ 0
    gone = omega arith

    up : b ≤ d → (a ≡ c) × (b ≡ d)
    up m = go (rw (gone, sub-eq-zero_of_le m) at e)
      where
        go : 0 * 0 + 2 * (0 * 0) ≡ (c - a) * (c - a) + 2 * ((d - b) * (d - b)) → (a ≡ c) × (b ≡ d)
        go f = (omega (arith, square_zero (c - a) (omega arith)), omega (arith, square_zero (d - b) (omega arith)))

    down : d ≤ b → (a ≡ c) × (b ≡ d)
    down m = go (rw (gone, sub-eq-zero_of_le m) at e)
      where
        go : 0 * 0 + 2 * ((b - d) * (b - d)) ≡ (c - a) * (c - a) + 2 * (0 * 0) → (a ≡ c) × (b ≡ d)
        go f = let z = roots (c - a) (b - d) (omega arith) in omega arith

-- neither surd_less the other, at k = 2: the same
pub surd_same : (a b c d : ℕ) → surd_less 2 a b c d ≡ false → surd_less 2 c d a b ≡ false → (a ≡ c) × (b ≡ d)
unfolding SurdAtMost
surd_same a b c d h i = elim (dec_le a c) [
  | yes l ↦ same_half a b c d l (omega (arith, x, y))
  | no l ↦ turn (same_half c d a b (omega arith) (omega (arith, x, y)))
]
  where
    x : SurdAtMost 2 c d a b
    x = surd_false 2 a b c d h

    y : SurdAtMost 2 a b c d
    y = surd_false 2 c d a b i

    turn : (c ≡ a) × (d ≡ b) → (a ≡ c) × (b ≡ d)
    turn u = (sym u.0, sym u.1)

-- so half of p² will do for p² against 2q², unless both are 0
pub half_square : (p q : ℕ) → 0 < q → leb (q * q) (p * p / 2) ≡ ltb (2 * (q * q)) (p * p)
half_square p q h = go (ltb (2 * (q * q)) (p * p)) refl
  where
    go : (b : Bool) → ltb (2 * (q * q)) (p * p) ≡ b → leb (q * q) (p * p / 2) ≡ b
    go true e = le-leb (q * q) (p * p / 2) (omega (arith, ltb-true (2 * (q * q)) (p * p) e))
    go false e = lt-leb (q * q) (p * p / 2)
        (elim (dec_le (q * q) (p * p / 2)) [ yes l ↦ absurd (never l) | no l ↦ omega arith ])
      where
        never : q * q ≤ p * p / 2 → ⊥
        never l = let z = roots p q (omega (arith, ltb-false (2 * (q * q)) (p * p) e)) in omega arith

-- p² and 2q² are never equal, so one test tells the other
pub square_other : (p q : ℕ) → 0 < q → (b : Bool) → ltb (2 * (q * q)) (p * p) ≡ b → ltb (p * p) (2 * (q * q)) ≡ not b
square_other p q h true e = le-ltb (p * p) (2 * (q * q)) (omega (arith, ltb-true (2 * (q * q)) (p * p) e))
square_other p q h false e =
    lt-ltb (p * p) (2 * (q * q)) (elim (dec_le (2 * (q * q)) (p * p)) [ yes l ↦ absurd (never l) | no l ↦ omega arith ])
  where
    never : 2 * (q * q) ≤ p * p → ⊥
    never l = let z = roots p q (omega (arith, ltb-false (2 * (q * q)) (p * p) e)) in omega arith
