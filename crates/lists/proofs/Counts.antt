-- Cells by a test: one cell more, and how many there are.
-- Assumes nothing.
use mathlib.Core.Path.{◌≡◌, refl, sym, ap, ap₂, ◌∙◌}
use mathlib.Core.Bool.{Bool, true, false, cond, ◌||◌, or-true, or-false, true≢false}
use Prim.Native.Nat.{ℕ, zero, suc, ◌+◌, ◌≤◌, ◌<◌}
use native.Mathlib.Omega.{arith}
use lib.Dec.{eqb}
use borrow.Author.Tests.{eqb-true, eqb-false, eq-eqb, ne_eqb}
use Rattle.lists.specs.Lists.{how_many}

-- ---- one cell more

abbrev pub also : (ℕ → Bool) → ℕ → ℕ → Bool
also these y c = these c || eqb c y

pub also_same : (these : ℕ → Bool) (y c : ℕ) → c ≡ y → also these y c ≡ true
also_same these y c h = rw (eq-eqb c y h) (or-true (these c))

pub also_other : (these : ℕ → Bool) (y c : ℕ) → (c ≡ y → ⊥) → also these y c ≡ these c
also_other these y c h = rw (ne_eqb c y h) (or-false (these c))

-- a cell of them is the one, or was one before
pub also_or : (P : Type 0) (these : ℕ → Bool) (y c : ℕ) → also these y c ≡ true → (c ≡ y → P) → (these c ≡ true → P) → P
also_or P these y c h one was = go (eqb c y) refl
  where
    go : (b : Bool) → eqb c y ≡ b → P
    go true e = one (eqb-true c y e)
    go false e = was (sym (also_other these y c (eqb-false c y e)) ∙ h)

pub also_in : (these : ℕ → Bool) (y c : ℕ) → these c ≡ true → also these y c ≡ true
also_in these y c h = rw h

pub also_not : (these : ℕ → Bool) (y c : ℕ) → (c ≡ y → ⊥) → these c ≡ false → also these y c ≡ false
also_not these y c n h = also_other these y c n ∙ h

-- and a cell that is none of them was none before
pub also_out : (these : ℕ → Bool) (y c : ℕ) → also these y c ≡ false → these c ≡ false
also_out these y c h = go (these c) refl
  where
    go : (b : Bool) → these c ≡ b → these c ≡ false
    go true e = absurd (true≢false (sym (also_in these y c e) ∙ h))
    go false e = e

-- ---- how many

-- no more than are asked
pub many_le : (f : ℕ → Bool) (n : ℕ) → how_many f n ≤ n
unfolding how_many
many_le f zero = omega arith
many_le f (suc n) = omega (arith, many_le f n, go (f n))
  where
    go : (b : Bool) → cond b 1 0 ≤ 1
    go true = omega arith
    go false = omega arith

module _ (f : ℕ → Bool) where
  pub many_all : (n : ℕ) → ((x : ℕ) → x < n → f x ≡ true) → how_many f n ≡ n
  unfolding how_many
  many_all zero h = refl
  many_all (suc n) h =
      rw (h n (omega arith)) (omega (arith, many_all n (λ x l. h x (omega arith))))

  pub many_full : (n : ℕ) → how_many f n ≡ n → (x : ℕ) → x < n → f x ≡ true
  unfolding how_many
  many_full zero e x l = absurd (omega arith)
  many_full (suc n) e x l = go (f n) refl (eqb x n) refl (λ k. many_full n k x)
    where
      less : how_many f n + 1 ≡ suc n → how_many f n ≡ n
      less k = omega arith

      short : how_many f n + 0 ≡ suc n → ⊥
      short k = omega (arith, many_le f n)

      below : (x ≡ n → ⊥) → x < n
      below k = omega arith

      go : (b : Bool) → f n ≡ b → (t : Bool) → eqb x n ≡ t → (how_many f n ≡ n → x < n → f x ≡ true) → f x ≡ true
      go true q true s ih = ap f (eqb-true x n s) ∙ q
      go true q false s ih = ih (less (rw q at e)) (below (eqb-false x n s))
      go false q t s ih = absurd (short (rw q at e))

module _ (f g : ℕ → Bool) where
  pub many_same : (n : ℕ) → ((x : ℕ) → x < n → g x ≡ f x) → how_many g n ≡ how_many f n
  unfolding how_many
  many_same zero h = refl
  many_same (suc n) h =
      ap₂ ◌+◌ (many_same n (λ x l. h x (omega arith))) (ap (λ (b : Bool). cond b 1 0) (h n (omega arith)))

  pub many_more : (n y : ℕ) → y < n → f y ≡ false → g y ≡ true → ((x : ℕ) → (x ≡ y → ⊥) → g x ≡ f x)
      → how_many g n ≡ suc (how_many f n)
  unfolding how_many
  many_more zero y l a b h = absurd (omega arith)
  many_more (suc n) y l a b h = go (eqb y n) refl (λ k. many_more n y k a b h)
    where
      apart : (x : ℕ) → x < n → x ≡ n → ⊥
      apart x k e = omega arith

      below : (y ≡ n → ⊥) → y < n
      below k = omega arith

      go : (t : Bool) → eqb y n ≡ t → (y < n → how_many g n ≡ suc (how_many f n))
          → how_many g n + cond (g n) 1 0 ≡ suc (how_many f n + cond (f n) 1 0)
      go true s ih =
          let q = eqb-true y n s in
          let u : g n ≡ true = ap g (sym q) ∙ b in
          let v : f n ≡ false = ap f (sym q) ∙ a in
          rw (u, v) (omega (arith, many_same n (λ x k. h x (λ e. apart x k (e ∙ q)))))
      go false s ih =
          let d = eqb-false y n s in
          rw (h n (λ e. d (sym e))) (omega (arith, ih (below d)))
