-- The rule is the order of the numbers a + b√2, so it is a total order, and lengths are equal only at equal counts.
-- Assumes nothing.
use mathlib.Core.Path.{◌≡◌, refl, sym, ap, ap₂, ◌∙◌}
use mathlib.Core.Bool.{Bool, true, false, cond, not, true≢false}
use Prim.Native.Nat.{ℕ, ◌+◌, ◌-◌, ◌*◌, ◌<◌}
use native.Mathlib.Nat.{mul-le-mul}
use native.Mathlib.Omega.{arith}
use native.Mathlib.Decide.{dec_lt}
use lib.Dec.{ltb}
use borrow.Author.Tests.{lt-ltb, le-ltb}
use Rattle.lengths.specs.declared.Length.{Length}
use Rattle.std.specs.declared.cmp.Ordering.{Ordering}
use Rattle.std.specs.declared.cmp.Ordering.TheVariants.{Less, Equal, Greater}
use Rattle.lengths.specs.Rule.{compared, says_shorter, is_shorter}
use Rattle.lengths.proofs.Cases.{
  sign_less,
  sign_more,
  sign_same,
  by_straight,
  by_diagonal,
  both_less,
  both_more,
  less_more,
  more_less,
}
use Rattle.lengths.proofs.Surds.{surd_less, square_sum, surd_asym, surd_same, square_other}

-- x against y, with their distance
data Against (x y : ℕ) : Type 0 where
  lower : (n : ℕ) → x + n ≡ y → 0 < n → Against x y
  level : x ≡ y → Against x y
  upper : (n : ℕ) → y + n ≡ x → 0 < n → Against x y

against : (x y : ℕ) → Against x y
against x y = elim (dec_lt x y) [
  | yes h ↦ lower (y - x) (omega arith) (omega arith)
  | no h ↦ elim (dec_lt y x) [ yes k ↦ upper (x - y) (omega arith) (omega arith) | no k ↦ level (omega arith) ]
]

some_square : (p q : ℕ) → 0 < p + q → square_sum 2 0 0 < square_sum 2 p q
unfolding square_sum
some_square p q h = elim (dec_lt 0 p) [ yes k ↦ omega (arith, mul-le-mul k k) | no k ↦ right (omega arith) ]
  where
    right : 0 < q → square_sum 2 0 0 < square_sum 2 p q
    right k = omega (arith, mul-le-mul k k)

flat : (q : ℕ) → square_sum 2 0 q ≡ 2 * (q * q)
unfolding square_sum
flat q = omega arith

steep : (p : ℕ) → square_sum 2 p 0 ≡ p * p
unfolding square_sum
steep p = omega arith

by_test : (b : Bool) → cond b Less Greater ≡ cond b Less (cond (not b) Greater Equal)
by_test true = refl
by_test false = refl

by_other : (b : Bool) → cond b Greater Less ≡ cond (not b) Less (cond b Greater Equal)
by_other true = refl
by_other false = refl

module _ (l m : Length) where
  -- the order of a + b√2 and c + d√2 as numbers
  abbrev less : Bool
  less = surd_less 2 l.straight l.diagonal m.straight m.diagonal

  abbrev more : Bool
  more = surd_less 2 m.straight m.diagonal l.straight l.diagonal

  less_is : (u v u' v' : ℕ) → l.straight - m.straight ≡ u → l.diagonal - m.diagonal ≡ v
      → m.straight - l.straight ≡ u' → m.diagonal - l.diagonal ≡ v'
      → less ≡ ltb (square_sum 2 u v) (square_sum 2 u' v')
  unfolding surd_less
  less_is u v u' v' e f g h = cc

  more_is : (u v u' v' : ℕ) → l.straight - m.straight ≡ u → l.diagonal - m.diagonal ≡ v
      → m.straight - l.straight ≡ u' → m.diagonal - l.diagonal ≡ v'
      → more ≡ ltb (square_sum 2 u' v') (square_sum 2 u v)
  unfolding surd_less
  more_is u v u' v' e f g h = cc

  -- the rule's answer, once the numbers' order is known
  answer : (b c : Bool) → less ≡ b → more ≡ c → compared l m ≡ cond b Less (cond c Greater Equal)
      → compared l m ≡ cond less Less (cond more Greater Equal)
  answer b c t u e = cc

  -- THE RULE: it says how the two numbers stand
  pub compared_is : compared l m ≡ cond less Less (cond more Greater Equal)
  unfolding square_sum
  compared_is = go (against l.straight m.straight) (against l.diagonal m.diagonal)
    where
      -- where one sign decides, or both agree
      shorter : (p q : ℕ) → l.straight + p ≡ m.straight → l.diagonal + q ≡ m.diagonal → 0 < p + q
          → compared l m ≡ Less → compared l m ≡ cond less Less (cond more Greater Equal)
      shorter p q e f h k = answer true false (less_is 0 0 p q (omega arith) (omega arith) (omega arith) (omega arith)
          ∙ lt-ltb (square_sum 2 0 0) (square_sum 2 p q) (some_square p q h))
          (more_is 0 0 p q (omega arith) (omega arith) (omega arith) (omega arith)
          ∙ le-ltb (square_sum 2 p q) (square_sum 2 0 0) (omega arith)) k

      longer : (p q : ℕ) → m.straight + p ≡ l.straight → m.diagonal + q ≡ l.diagonal → 0 < p + q
          → compared l m ≡ Greater → compared l m ≡ cond less Less (cond more Greater Equal)
      longer p q e f h k = answer false true (less_is p q 0 0 (omega arith) (omega arith) (omega arith) (omega arith)
          ∙ le-ltb (square_sum 2 p q) (square_sum 2 0 0) (omega arith))
          (more_is p q 0 0 (omega arith) (omega arith) (omega arith) (omega arith)
          ∙ lt-ltb (square_sum 2 0 0) (square_sum 2 p q) (some_square p q h)) k

      -- where the squares decide
      crossed : (p q : ℕ) → l.straight + p ≡ m.straight → 0 < p → m.diagonal + q ≡ l.diagonal → 0 < q → (b : Bool)
          → ltb (2 * (q * q)) (p * p) ≡ b → compared l m ≡ cond less Less (cond more Greater Equal)
      crossed p q e h f i b t =
          answer b (not b) (less_is 0 q p 0 (omega arith) (omega arith) (omega arith) (omega arith)
          ∙ ap₂ ltb (flat q) (steep p) ∙ t)
          (more_is 0 q p 0 (omega arith) (omega arith) (omega arith) (omega arith) ∙ ap₂ ltb (steep p) (flat q)
          ∙ square_other p q i b t) (less_more l m p q e h f i b t ∙ by_test b)

      crossed' : (p q : ℕ) → m.straight + p ≡ l.straight → 0 < p → l.diagonal + q ≡ m.diagonal → 0 < q
          → (b : Bool) → ltb (2 * (q * q)) (p * p) ≡ b → compared l m ≡ cond less Less (cond more Greater Equal)
      crossed' p q e h f i b t =
          answer (not b) b (less_is p 0 0 q (omega arith) (omega arith) (omega arith) (omega arith)
          ∙ ap₂ ltb (steep p) (flat q) ∙ square_other p q i b t)
          (more_is p 0 0 q (omega arith) (omega arith) (omega arith) (omega arith) ∙ ap₂ ltb (flat q) (steep p) ∙ t)
          (more_less l m p q e h f i b t ∙ by_other b)

      go : Against l.straight m.straight → Against l.diagonal m.diagonal
          → compared l m ≡ cond less Less (cond more Greater Equal)
      go (level e) (level f) =
          answer false false (less_is 0 0 0 0 (omega arith) (omega arith) (omega arith) (omega arith))
          (more_is 0 0 0 0 (omega arith) (omega arith) (omega arith) (omega arith))
          (by_straight l m f ∙ sign_same l.straight m.straight e)
      go (level e) (lower q f i) = shorter 0 q (omega arith) f (omega arith) (by_diagonal l m e
          ∙ sign_less l.diagonal m.diagonal (omega arith))
      go (level e) (upper q f i) = longer 0 q (omega arith) f (omega arith) (by_diagonal l m e
          ∙ sign_more l.diagonal m.diagonal (omega arith))
      go (lower p e h) (level f) = shorter p 0 e (omega arith) (omega arith) (by_straight l m f
          ∙ sign_less l.straight m.straight (omega arith))
      go (upper p e h) (level f) = longer p 0 e (omega arith) (omega arith) (by_straight l m f
          ∙ sign_more l.straight m.straight (omega arith))
      go (lower p e h) (lower q f i) = shorter p q e f (omega arith) (both_less l m (omega arith) (omega arith))
      go (upper p e h) (upper q f i) = longer p q e f (omega arith) (both_more l m (omega arith) (omega arith))
      go (lower p e h) (upper q f i) = crossed p q e h f i (ltb (2 * (q * q)) (p * p)) refl
      go (upper p e h) (lower q f i) = crossed' p q e h f i (ltb (2 * (q * q)) (p * p)) refl

  -- so `is_shorter` is the order of the numbers
  pub shorter_is : is_shorter l m ≡ less
  unfolding is_shorter
  shorter_is = ap says_shorter compared_is ∙ by_less less more
    where
      by_less : (b c : Bool) → says_shorter (cond b Less (cond c Greater Equal)) ≡ b
      by_less true c = refl
      by_less false true = refl
      by_less false false = refl

-- the other way round
abbrev pub opposite : Ordering → Ordering
opposite Less = Greater
opposite Equal = Equal
opposite Greater = Less

-- TOTAL: of two lengths one is shorter, or both have the same counts
pub compared_back : (l m : Length) → compared m l ≡ opposite (compared l m)
compared_back l m = compared_is m l ∙ turn (less l m) refl (more l m) refl ∙ sym (ap opposite (compared_is l m))
  where
    turn : (b : Bool) → less l m ≡ b → (c : Bool) → more l m ≡ c
        → cond (more l m) Less (cond (less l m) Greater Equal)
        ≡ opposite (cond (less l m) Less (cond (more l m) Greater Equal))
    turn true t true u = absurd (true≢false
        (sym u ∙ surd_asym 2 l.straight l.diagonal m.straight m.diagonal t))
    turn true t false u = rw (t, u)
    turn false t true u = rw (t, u)
    turn false t false u = rw (t, u)

-- EQUAL ONLY AT EQUAL COUNTS: √2 is no fraction
pub same_counts : (l m : Length) → compared l m ≡ Equal → l ≡ m
same_counts l m e = go (less l m) refl (more l m) refl
  where
    go : (b : Bool) → less l m ≡ b → (c : Bool) → more l m ≡ c → l ≡ m
    go true t c u = cc (compared_is l m)
    go false t true u = cc (compared_is l m)
    go false t false u = let p = surd_same l.straight l.diagonal m.straight m.diagonal t u in
        λ i. record { straight = p.0 i; diagonal = p.1 i }

pub same_refl : (l : Length) → compared l l ≡ Equal
same_refl l = by_straight l l refl ∙ sign_same l.straight l.straight refl

pub shorter_refl : (l : Length) → is_shorter l l ≡ false
unfolding is_shorter
shorter_refl l = ap says_shorter (same_refl l)
