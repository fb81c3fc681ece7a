-- Sums over the inflows of a cell when one more of them is counted, or the summand changes.
-- Assumes nothing.
use mathlib.Core.Path.{◌≡◌, refl, sym, ap, ap₂, ◌∙◌}
use mathlib.Core.Bool.{Bool, true, false, cond}
use mathlib.Core.Logic.{inl, inr}
use mathlib.Core.List.{List, [], ◌∷◌}
use Prim.Native.Nat.{ℕ, ◌+◌, ◌*◌, ◌≤◌}
use native.Mathlib.Omega.{arith}
use lib.Dec.{eqb}
use borrow.Author.Tests.{eqb-true, eqb-false, eq-eqb, ne_eqb}
use Rattle.lists.specs.Lists.{In, Every}
use Rattle.ground.specs.Grid.{Link}
use Rattle.ground.specs.Accumulation.{total}
use Rattle.ground.proofs.Sums.{one, one_same}
use Rattle.ground.proofs.Network.{times}
use Rattle.ground.proofs.Agreement.{no_outlet}
use Rattle.filling.specs.Packed.{one_each}

-- a function changed at one place
abbrev pub put_at : (ℕ → ℕ) → ℕ → ℕ → ℕ → ℕ
put_at f z v x = cond (eqb x z) v (f x)

pub put_same : (f : ℕ → ℕ) (z v x : ℕ) → x ≡ z → put_at f z v x ≡ v
put_same f z v x h = rw (eq-eqb x z h)

pub put_other : (f : ℕ → ℕ) (z v x : ℕ) → (x ≡ z → ⊥) → put_at f z v x ≡ f x
put_other f z v x h = rw (ne_eqb x z h)

module _ {S : Type 0} (ups : ℕ → List (Link S)) where
  -- two sums that skip the same, and are the same where they do not
  pub total_where : (skip skip' : ℕ → Bool) (f f' : ℕ → ℕ) → ((c : ℕ) → skip c ≡ skip' c)
      → ((c : ℕ) → skip c ≡ false → f c ≡ f' c) → (ks : List (Link S)) → total ups skip f ks ≡ total ups skip' f' ks
  total_where skip skip' f f' s h [] = refl
  total_where skip skip' f f' s h (k ∷ ks) = go (skip k.cell) refl (total_where skip skip' f f' s h ks)
    where
      go : (b : Bool) → skip k.cell ≡ b → total ups skip f ks ≡ total ups skip' f' ks
          → total ups skip f (k ∷ ks) ≡ total ups skip' f' (k ∷ ks)
      go true e ih = rw (e, total) (rw (sym (s k.cell) ∙ e, total) ih)
      go false e ih = rw (e, total) (rw (sym (s k.cell) ∙ e, total) (ap₂ ◌+◌ (h k.cell e) ih))

  -- ONE MORE: a cell that is skipped no more
  pub total_add : (skip skip' : ℕ → Bool) (f : ℕ → ℕ) (y : ℕ) → skip y ≡ true → skip' y ≡ false
      → ((c : ℕ) → (c ≡ y → ⊥) → skip' c ≡ skip c)
      → (ks : List (Link S)) → total ups skip' f ks ≡ times y ks * f y + total ups skip f ks
  total_add skip skip' f y a b s [] = omega arith
  total_add skip skip' f y a b s (k ∷ ks) = go (eqb k.cell y) refl (total_add skip skip' f y a b s ks)
    where
      Rest : Type 0
      Rest = total ups skip' f ks ≡ times y ks * f y + total ups skip f ks

      Goal : Type 0
      Goal = total ups skip' f (k ∷ ks) ≡ times y (k ∷ ks) * f y + total ups skip f (k ∷ ks)

      same : (t : Bool) → skip k.cell ≡ t → skip' k.cell ≡ t → eqb k.cell y ≡ false → Rest → Goal
      same true u v e ih = rw (u, total) (rw (v, total) (rw (e, one) (omega arith)))
      same false u v e ih = rw (u, total) (rw (v, total) (rw (e, one) (omega arith)))

      go : (t : Bool) → eqb k.cell y ≡ t → Rest → Goal
      go true e ih =
          let q = eqb-true k.cell y e in
          let u : skip k.cell ≡ true = ap skip q ∙ a in
          let v : skip' k.cell ≡ false = ap skip' q ∙ b in
          rw (u, total) (rw (v, total) (rw (e, one) (omega (arith, ap f q))))
      go false e ih = same (skip k.cell) refl (s k.cell (eqb-false k.cell y e)) e ih

  -- all are skipped
  pub total_none : (f : ℕ → ℕ) (ks : List (Link S)) → total ups (λ c. true) f ks ≡ 0
  total_none f [] = refl
  total_none f (k ∷ ks) = total_none f ks

  pub ones_none : (skip : ℕ → Bool) (ks : List (Link S)) → Every (λ k. skip k.cell ≡ true) ks
      → total ups skip one_each ks ≡ 0
  ones_none skip [] h = refl
  ones_none skip (k ∷ ks) h = rw (h.0, total) (ones_none skip ks h.1)

  -- no more than all
  pub ones_few : (skip : ℕ → Bool) (ks : List (Link S)) → total ups skip one_each ks ≤ total ups no_outlet one_each ks
  ones_few skip [] = omega arith
  ones_few skip (k ∷ ks) = go (skip k.cell) refl (ones_few skip ks)
    where
      go : (b : Bool) → skip k.cell ≡ b → total ups skip one_each ks ≤ total ups no_outlet one_each ks
          → total ups skip one_each (k ∷ ks) ≤ total ups no_outlet one_each (k ∷ ks)
      go true e ih = rw (e, total) (omega arith)
      go false e ih = rw (e, total) (omega arith)

-- a cell that stands in a list is counted there
pub times_in : {S : Type 0} (k : Link S) (ks : List (Link S)) → In k ks → 1 ≤ times k.cell ks
times_in k [] i = absurd i
times_in k (j ∷ ks) (inl e) = omega (arith, one_same j.cell k.cell (sym (ap (λ (l : Link _). l.cell) e)))
times_in k (j ∷ ks) (inr i) = omega (arith, times_in k ks i)
