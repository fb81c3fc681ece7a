-- A cut network is a network, and what it gathers is what is gathered with the cut cells left out.
-- Assumes nothing.
use mathlib.Core.Path.{◌≡◌, refl, sym, ap, ◌∙◌}
use mathlib.Core.Bool.{Bool, true, false, not}
use mathlib.Core.List.{List, [], ◌∷◌}
use mathlib.Core.Option.{Option, none, some}
use Prim.Native.Nat.{ℕ, zero, suc, ◌+◌, ◌≤◌}
use native.Mathlib.Omega.{arith}
use borrow.Author.Tests.{not-true}
use Rattle.ground.specs.Grid.{Link}
use Rattle.ground.specs.Accumulation.{total, gathered}
use Rattle.lists.proofs.Lists.{every_in, every_is, in_only, only_in}
use Rattle.ground.proofs.Network.{Network, times, total_same}
use Rattle.ground.proofs.Agreement.{no_outlet}
use Rattle.filling.specs.Cut.{cut_next, uncut, cut_ups}

module _ {S : Type 0} (isCut : ℕ → Bool) where
  pub total_uncut : (ups ups' : ℕ → List (Link S)) (f : ℕ → ℕ) (ks : List (Link S))
      → total ups' no_outlet f (uncut isCut ks) ≡ total ups isCut f ks
  total_uncut ups ups' f [] = refl
  total_uncut ups ups' f (k ∷ ks) = go (isCut k.cell) refl (total_uncut ups ups' f ks)
    where
      go : (b : Bool) → isCut k.cell ≡ b → total ups' no_outlet f (uncut isCut ks) ≡ total ups isCut f ks
          → total ups' no_outlet f (uncut isCut (k ∷ ks)) ≡ total ups isCut f (k ∷ ks)
      go true e ih = rw (e, total) ih
      go false e ih = rw (e, total) (ap (λ (n : ℕ). f k.cell + n) ih)

  times_uncut : (c : ℕ) (ks : List (Link S)) → times c (uncut isCut ks) ≤ times c ks
  times_uncut c [] = omega arith
  times_uncut c (k ∷ ks) = go (isCut k.cell) refl (times_uncut c ks)
    where
      go : (b : Bool) → isCut k.cell ≡ b → times c (uncut isCut ks) ≤ times c ks
          → times c (uncut isCut (k ∷ ks)) ≤ times c (k ∷ ks)
      go true e ih = rw e (omega arith)
      go false e ih = rw e (omega arith)

  module _ (next : ℕ → Option (Link S)) where
    pub next_uncut : (y : ℕ) → isCut y ≡ false → cut_next isCut next y ≡ next y
    next_uncut y e = rw e

    pub next_cut_lem : (y : ℕ) → isCut y ≡ true → cut_next isCut next y ≡ none
    next_cut_lem y e = rw e

    -- a step of the cut network is a step, from a cell that is not cut
    pub cut_step : (y : ℕ) (h : Link S) → cut_next isCut next y ≡ some h → (isCut y ≡ false) × (next y ≡ some h)
    cut_step y h e = go (isCut y) refl
      where
        go : (b : Bool) → isCut y ≡ b → (isCut y ≡ false) × (next y ≡ some h)
        go true v = let z : cut_next isCut next y ≡ none = next_cut_lem y v in let w : ◌≡◌ {A = ℕ} 0 1 = cc in
            absurd (omega arith)
        go false v = (v, sym (next_uncut y v) ∙ e)

  pub gathered_cut : (ups : ℕ → List (Link S)) (n x : ℕ)
      → gathered (cut_ups isCut ups) no_outlet n x ≡ gathered ups isCut n x
  gathered_cut ups zero x = refl
  gathered_cut ups (suc n) x = ap suc (total_uncut ups (cut_ups isCut ups) (gathered (cut_ups isCut ups) no_outlet n)
      (ups x)
      ∙ total_same ups isCut (gathered (cut_ups isCut ups) no_outlet n) (gathered ups isCut n) (ups x)
      (every_is (λ k. gathered (cut_ups isCut ups) no_outlet n k.cell ≡ gathered ups isCut n k.cell) (ups x)
      (λ k i. gathered_cut ups n k.cell)))

  pub cut : {next : ℕ → Option (Link S)} {ups : ℕ → List (Link S)} {ground : ℕ → Bool} {cell_count : ℕ}
      → Network next ups ground cell_count → Network (cut_next isCut next) (cut_ups isCut ups) ground cell_count
  cut {next} {ups} 𝓝 = record {
    sound = λ x. every_is (λ k. cut_next isCut next k.cell ≡ some (record { cell = x; step = k.step }))
        (uncut isCut (ups x)) (λ k i. let p = in_only (λ k. not (isCut k.cell)) k (ups x) i in
        next_uncut next k.cell (not-true (isCut k.cell) p.1)
        ∙ every_in (λ k. next k.cell ≡ some (record { cell = x; step = k.step })) k (ups x) (𝓝.sound x) p.0);
    complete = λ y h e. let p = cut_step next y h e in
        only_in (λ k. not (isCut k.cell)) (record { cell = y; step = h.step }) (ups h.cell)
        (𝓝.complete y h p.1) (ap not p.0);
    distinct = λ x c. omega (arith, times_uncut c (ups x), 𝓝.distinct x c);
    solid = λ y h e. 𝓝.solid y h (cut_step next y h e).1;
    lands = λ y h e. 𝓝.lands y h (cut_step next y h e).1;
    bounded = 𝓝.bounded;
  }
