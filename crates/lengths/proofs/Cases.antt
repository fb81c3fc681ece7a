-- The rule case by case: what each pair of signs gives.
-- Assumes nothing.
use mathlib.Core.Path.{◌≡◌, refl, sym, ap, ◌∙◌}
use mathlib.Core.Bool.{Bool, cond}
use Prim.Native.Nat.{ℕ, ◌+◌, ◌*◌, ◌<◌}
use native.Mathlib.Omega.{arith}
use lib.Dec.{ltb}
use borrow.Author.Tests.{lt-ltb, le-ltb}
use Rattle.lengths.specs.declared.Length.{Length}
use Rattle.std.specs.Ordering.{nat_cmp}
use Rattle.std.proofs.lemmas.Cmp.{ranked}
use Rattle.std.specs.declared.cmp.Ordering.{Ordering}
use Rattle.std.specs.declared.cmp.Ordering.TheVariants.{Less, Equal, Greater}
use Rattle.lengths.specs.Rule.{sign_of, size_of, ruled, compared}

pub sign_less : (x y : ℕ) → x < y → sign_of x y ≡ Less
unfolding sign_of
sign_less x y h = simp (lt-ltb x y h)

pub sign_more : (x y : ℕ) → y < x → sign_of x y ≡ Greater
unfolding sign_of
sign_more x y h = simp (le-ltb x y (omega arith), lt-ltb y x h)

pub sign_same : (x y : ℕ) → x ≡ y → sign_of x y ≡ Equal
unfolding sign_of
sign_same x y h = simp (le-ltb x y (omega arith), le-ltb y x (omega arith))

-- what `cmp` answers of two numbers is their sign
pub cmp_sign : (x y : ℕ) (o : Ordering) → o ≡ nat_cmp x y → o ≡ sign_of x y
cmp_sign x y Less e = sym (sign_less x y (ranked x y Less e))
cmp_sign x y Equal e = sym (sign_same x y (ranked x y Equal e))
cmp_sign x y Greater e = sym (sign_more x y (ranked x y Greater e))

ruled_same : (p : ℕ) (t : Ordering) (q : ℕ) → ruled Equal p t q ≡ t
unfolding ruled
ruled_same p Less q = refl
ruled_same p Equal q = refl
ruled_same p Greater q = refl

module _ (l m : Length) where
  -- the rule at known signs and sizes
  compared_is : (s t : Ordering) (p q : ℕ) → sign_of l.straight m.straight ≡ s
      → size_of l.straight m.straight ≡ p
      → sign_of l.diagonal m.diagonal ≡ t → size_of l.diagonal m.diagonal ≡ q → compared l m ≡ ruled s p t q
  unfolding compared
  compared_is s t p q e f g h = cc

  pub by_straight : l.diagonal ≡ m.diagonal → compared l m ≡ sign_of l.straight m.straight
  unfolding ruled
  by_straight h = compared_is (sign_of l.straight m.straight) Equal (size_of l.straight m.straight)
      (size_of l.diagonal m.diagonal) refl refl (sign_same l.diagonal m.diagonal h) refl

  pub by_diagonal : l.straight ≡ m.straight → compared l m ≡ sign_of l.diagonal m.diagonal
  by_diagonal h = compared_is Equal (sign_of l.diagonal m.diagonal) (size_of l.straight m.straight)
      (size_of l.diagonal m.diagonal) (sign_same l.straight m.straight h) refl refl refl
      ∙ ruled_same (size_of l.straight m.straight) (sign_of l.diagonal m.diagonal)
      (size_of l.diagonal m.diagonal)

  pub both_less : l.straight < m.straight → l.diagonal < m.diagonal → compared l m ≡ Less
  unfolding ruled
  both_less h i = compared_is Less Less (size_of l.straight m.straight)
      (size_of l.diagonal m.diagonal) (sign_less l.straight m.straight h) refl
      (sign_less l.diagonal m.diagonal i) refl

  pub both_more : m.straight < l.straight → m.diagonal < l.diagonal → compared l m ≡ Greater
  unfolding ruled
  both_more h i = compared_is Greater Greater (size_of l.straight m.straight) (size_of l.diagonal m.diagonal)
      (sign_more l.straight m.straight h) refl (sign_more l.diagonal m.diagonal i) refl

  -- where the signs differ, by the test that the code makes
  pub less_more : (p q : ℕ) → l.straight + p ≡ m.straight → 0 < p → m.diagonal + q ≡ l.diagonal → 0 < q
      → (b : Bool) → ltb (2 * (q * q)) (p * p) ≡ b → compared l m ≡ cond b Less Greater
  unfolding ruled
  less_more p q e h f i b t = compared_is Less Greater p q (sign_less l.straight m.straight (omega arith))
      (omega arith) (sign_more l.diagonal m.diagonal (omega arith)) (omega arith)
      ∙ ap (λ (u : Bool). cond u Less Greater) t

  pub more_less : (p q : ℕ) → m.straight + p ≡ l.straight → 0 < p → l.diagonal + q ≡ m.diagonal → 0 < q
      → (b : Bool) → ltb (2 * (q * q)) (p * p) ≡ b → compared l m ≡ cond b Greater Less
  unfolding ruled
  more_less p q e h f i b t = compared_is Greater Less p q (sign_more l.straight m.straight (omega arith))
      (omega arith) (sign_less l.diagonal m.diagonal (omega arith)) (omega arith)
      ∙ ap (λ (u : Bool). cond u Greater Less) t
