-- A network whose walks all end has an accumulation that agrees, and where one agrees all walks end.
-- Assumes nothing.
use mathlib.Core.Path.{◌≡◌, refl, sym, ap, ◌∙◌}
use mathlib.Core.Bool.{Bool, true, false, true≢false}
use mathlib.Core.List.{List, [], ◌∷◌}
use mathlib.Core.Option.{Option, none, some}
use Prim.Native.Nat.{ℕ, zero, suc, ◌+◌, ◌≤◌, ◌<◌}
use native.Mathlib.Omega.{arith}
use Rattle.lists.specs.Lists.{Every}
use Rattle.ground.specs.Grid.{Link}
use Rattle.ground.specs.Walk.{ends}
use Rattle.ground.specs.Accumulation.{total, gathered}
use Rattle.lists.proofs.Lists.{every_map}
use Rattle.ground.proofs.Walks.{ends_next, ends_zero, ends_none}
use Rattle.ground.proofs.Network.{Network, total_same}
use Rattle.ground.proofs.Agreement.{Agrees, agrees_at_most, fewer_next, no_outlet}

module _ {S : Type 0} (next : ℕ → Option (Link S)) (ups : ℕ → List (Link S)) (ground : ℕ → Bool) (cell_count : ℕ)
    (𝓝 : Network next ups ground cell_count) where
  -- where every_cell walk ends within `cell_count` steps, as many steps up are enough: n steps up from what ends in m
  -- steps, if n + m is more than `cell_count`
  module _ (free : (x : ℕ) → ground x ≡ true → ends next cell_count x ≡ true) where
    -- the walk from x does not end within m steps
    Long : ℕ → ℕ → Type 0
    Long m x = (j : ℕ) → j < m → ends next j x ≡ false

    long_inflow : (m x y : ℕ) (s : S) → next y ≡ some (record { cell = x; step = s }) → Long m x → Long (suc m) y
    unfolding Long
    long_inflow m x y s e l zero h = ends_zero next y (record { cell = x; step = s }) e
    long_inflow m x y s e l (suc j) h = ends_next next j y (record { cell = x; step = s }) e ∙ l j (omega arith)

    inflows_long : (m x : ℕ) → Long m x → Every (λ k. (ground k.cell ≡ true) × Long (suc m) k.cell) (ups x)
    inflows_long m x l = every_map (λ k. next k.cell ≡ some (record { cell = x; step = k.step }))
        (λ k. (ground k.cell ≡ true) × Long (suc m) k.cell)
        (λ k e. (𝓝.solid k.cell (record { cell = x; step = k.step }) e, long_inflow m x k.cell k.step e l))
        (ups x) (𝓝.sound x)

    never : (m x : ℕ) → ground x ≡ true → Long m x → cell_count < m → ⊥
    unfolding Long
    never m x v l h = true≢false (sym (free x v) ∙ l cell_count h)

    -- at the last step allowed there are no ups
    no_inflows : (m x : ℕ) → Long m x → cell_count ≤ m → (f : ℕ → ℕ) → total ups no_outlet f (ups x) ≡ 0
    no_inflows m x l h f = go (ups x) (inflows_long m x l)
      where
        go : (ks : List (Link S)) → Every (λ k. (ground k.cell ≡ true) × Long (suc m) k.cell) ks
            → total ups no_outlet f ks ≡ 0
        go [] s = refl
        go (k ∷ ks) s = absurd (never (suc m) k.cell s.0.0 s.0.1 (omega arith))

    gathered_stable : (n k m x : ℕ) → Long m x → cell_count ≤ n + m → cell_count ≤ k + m
        → gathered ups no_outlet n x ≡ gathered ups no_outlet k x
    gathered_stable zero zero m x l h i = refl
    gathered_stable zero (suc k) m x l h i = sym (ap suc (no_inflows m x l (omega arith) (gathered ups no_outlet k)))
    gathered_stable (suc n) zero m x l h i = ap suc (no_inflows m x l (omega arith) (gathered ups no_outlet n))
    gathered_stable (suc n) (suc k) m x l h i =
        ap suc (total_same ups no_outlet (gathered ups no_outlet n) (gathered ups no_outlet k) (ups x)
        (every_map (λ k. (ground k.cell ≡ true) × Long (suc m) k.cell) (λ j. gathered ups no_outlet n j.cell
        ≡ gathered ups no_outlet k j.cell)
        (λ j f. gathered_stable n k (suc m) j.cell f.1 (omega arith) (omega arith)) (ups x) (inflows_long m x l)))

    -- the accumulation agrees
    pub free_agrees : Agrees ups ground (gathered ups no_outlet cell_count)
    unfolding Agrees Long
    free_agrees x v = gathered_stable cell_count (suc cell_count) zero x (λ j h. absurd (omega arith)) (omega arith)
        (omega arith)

  -- and where one agrees, every_cell walk ends
  module _ (A : ℕ → ℕ) (agrees : Agrees ups ground A) where
    ends_from : (n x : ℕ) → ground x ≡ true → cell_count ≤ n + A x → ends next n x ≡ true
    ends_from zero x v h = go (next x) refl
      where
        go : (o : Option (Link S)) → next x ≡ o → ends next zero x ≡ true
        go none e = ends_none next zero x e
        go (some k) e = absurd (omega (
          arith,
          fewer_next next ups ground cell_count 𝓝 A agrees x k e,
          agrees_at_most next ups ground cell_count 𝓝 A agrees k.cell (𝓝.lands x k e),
        ))
    ends_from (suc n) x v h = go (next x) refl (λ y. ends_from n y)
      where
        go : (o : Option (Link S)) → next x ≡ o
            → ((y : ℕ) → ground y ≡ true → cell_count ≤ n + A y → ends next n y ≡ true) → ends next (suc n) x ≡ true
        go none e ih = ends_none next (suc n) x e
        go (some k) e ih = ends_next next n x k e
            ∙ ih k.cell (𝓝.lands x k e) (omega (arith, fewer_next next ups ground cell_count 𝓝 A agrees x k e))

    pub agrees_free : (x : ℕ) → ground x ≡ true → ends next cell_count x ≡ true
    agrees_free x v = ends_from cell_count x v (omega arith)
