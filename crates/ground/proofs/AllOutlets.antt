-- The subwatersheds of all outlets together: different outlets share no cell, so they have no more cells than the grid has
-- cells of ground.
-- Assumes nothing.
use mathlib.Core.Path.{◌≡◌, refl, sym, ap, ◌∙◌, subst}
use mathlib.Core.Bool.{Bool, true, false, true≢false, cond}
use mathlib.Core.List.{List, [], ◌∷◌, map}
use mathlib.Core.Option.{Option, none, some}
use Prim.Native.Nat.{ℕ, zero, suc, ◌+◌, ◌≤◌, ◌<◌}
use native.Mathlib.Omega.{arith}
use lib.Dec.{eqb}
use borrow.Author.Tests.{eqb-true, ne_eqb}
use Rattle.lengths.specs.declared.Length.{Length}
use Rattle.lists.specs.Lists.{Every, Sorted, how_many, sum_of}
use Rattle.lists.proofs.Lists.{every_is, every_in}
use Rattle.lists.proofs.Members.{in_member, member_in}
use Rattle.lists.proofs.Counts.{many_le}
use Rattle.lists.proofs.Sums.{sum_alike}
use Rattle.ground.specs.Compass.{Dir, squares}
use Rattle.ground.specs.Grid.{Grid, Link, cell_count, ground, next}
use Rattle.ground.specs.Walk.{At, after}
use Rattle.ground.specs.Accumulation.{agrees, subaccumulation}
use Rattle.ground.specs.Subwatershed.{first_outlet, belongs, is_outlet, InSubwatershed, in_subwatershed}
use Rattle.ground.proofs.Sums.{sum_to, sum_add, sum_zero, sum_each, many_sum}
use Rattle.ground.proofs.Walks.{after_zero, after_end}
use Rattle.ground.proofs.Ground.{𝓝, sub_cells}

-- ---- sums over a list of outlets

abbrev sum_over : (ℕ → ℕ) → List ℕ → ℕ
sum_over f os = sum_of (map f os)

-- first over the cells, then over the outlets, is the other way round
sum_turned : (f : ℕ → ℕ → ℕ) (n : ℕ) (os : List ℕ)
    → sum_over (λ o. sum_to n (f o)) os ≡ sum_to n (λ c. sum_over (λ o. f o c) os)
unfolding sum_of
sum_turned f n [] = sym (sum_zero n)
sum_turned f n (o ∷ os) =
    ap (λ (m : ℕ). sum_to n (f o) + m) (sum_turned f n os) ∙ sym (sum_add n (f o) (λ c. sum_over (λ p. f p c) os))

-- ---- a cell belongs to one outlet at most

abbrev hit : ℕ → ℕ → ℕ
hit x o = cond (eqb x o) 1 0

none_hit : (x : ℕ) (os : List ℕ) → Every (λ o. x ≡ o → ⊥) os → sum_over (hit x) os ≡ 0
unfolding sum_of
none_hit x [] h = refl
none_hit x (o ∷ os) h = rw (ne_eqb x o h.0) (omega (arith, none_hit x os h.1))

one_hit : (x : ℕ) (os : List ℕ) → Sorted (λ o p. o ≡ p → ⊥) os → sum_over (hit x) os ≤ 1
unfolding sum_of
one_hit x [] h = omega arith
one_hit x (o ∷ os) h = go (eqb x o) refl (one_hit x os h.1)
  where
    go : (b : Bool) → eqb x o ≡ b → sum_over (hit x) os ≤ 1 → hit x o + sum_over (hit x) os ≤ 1
    go true e ih = rw (e, eqb-true x o e) (omega (arith, none_hit o os h.0))
    go false e ih = rw e (omega (arith, ih))

not_outlet : (os : List ℕ) → sum_over (λ o. 0) os ≡ 0
unfolding sum_of
not_outlet [] = refl
not_outlet (o ∷ os) = omega (arith, not_outlet os)

module _ (g : Grid) (outlets : List ℕ) where
  belongs_once : (os : List ℕ) → Sorted (λ o p. o ≡ p → ⊥) os → (c : ℕ)
      → sum_over (λ o. cond (in_subwatershed g outlets o c) 1 0) os ≤ 1
  unfolding in_subwatershed belongs
  belongs_once os h c = go (first_outlet squares (next g) (is_outlet g outlets) (cell_count g) c)
    where
      go : (a : Option (At Length))
          → sum_over (λ o. cond (elim a [ none ↦ false | some b ↦ eqb b.cell o ]) 1 0) os ≤ 1
      go none = rw (not_outlet os) (omega arith)
      go (some b) = one_hit b.cell os h

  module _ (v : Every (λ o. ground g o ≡ true) outlets) where
    -- a null cell belongs to none
    none_first : (c n : ℕ) → ground g c ≡ false → first_outlet squares (next g) (is_outlet g outlets) n c ≡ none
    none_first c n e = go n (is_outlet g outlets c) refl (next g c) refl
      where
        go : (n : ℕ) (b : Bool) → is_outlet g outlets c ≡ b → (t : Option (Link Dir)) → next g c ≡ t
            → first_outlet squares (next g) (is_outlet g outlets) n c ≡ none
        go n true i t k = absurd (true≢false (sym (every_in (λ o. ground g o ≡ true) c outlets v (member_in c outlets i)) ∙ e))
        go n false i (some h) k = absurd (true≢false (sym ((𝓝 g).solid c h k) ∙ e))
        go zero false i none k = rw (i, first_outlet)
        go (suc n) false i none k = rw (i, k, first_outlet)

    on_ground : (os : List ℕ) → Sorted (λ o p. o ≡ p → ⊥) os → (c : ℕ)
        → sum_over (λ o. cond (in_subwatershed g outlets o c) 1 0) os ≤ cond (ground g c) 1 0
    unfolding in_subwatershed belongs
    on_ground os d c = go (ground g c) refl (belongs_once os d c)
      where
        go : (b : Bool) → ground g c ≡ b → sum_over (λ o. cond (in_subwatershed g outlets o c) 1 0) os ≤ 1
            → sum_over (λ o. cond (in_subwatershed g outlets o c) 1 0) os ≤ cond b 1 0
        go true e h = h
        go false e h = subst
            (λ (a : Option (At Length)). sum_over (λ o. cond (elim a [ none ↦ false | some b ↦ eqb b.cell o ]) 1 0) os ≤ 0)
            (sym (none_first c (cell_count g) e)) (omega (arith, not_outlet os))

  module _ (a : List ℕ) (h : agrees g a ≡ true) (d : Sorted (λ o p. o ≡ p → ⊥) outlets)
      (v : Every (λ o. ground g o ≡ true) outlets) where
    -- ALL OUTLETS: their cells, added up, are no more than the grid has cells of ground,
    pub outlets_ground : sum_of (map (subaccumulation g outlets) outlets) ≤ how_many (ground g) (cell_count g)
    outlets_ground =
        rw (
          sum_alike (subaccumulation g outlets)
              (λ o. sum_to (cell_count g) (λ c. cond (in_subwatershed g outlets o c) 1 0))
              outlets (every_is _ outlets (λ o i. sym (sub_cells g a h outlets o (in_member o outlets i)
              (every_in (λ o. ground g o ≡ true) o outlets v i))
              ∙ many_sum (in_subwatershed g outlets o) (cell_count g))),
          sum_turned (λ o c. cond (in_subwatershed g outlets o c) 1 0) (cell_count g) outlets,
          many_sum (ground g) (cell_count g),
        )
        (sum_each (cell_count g) (λ c. sum_over (λ o. cond (in_subwatershed g outlets o c) 1 0) outlets)
        (λ c. cond (ground g c) 1 0) (on_ground v outlets d))

    -- so at most R × C
    pub outlets_cells : sum_of (map (subaccumulation g outlets) outlets) ≤ cell_count g
    outlets_cells = omega (arith, outlets_ground, many_le (ground g) (cell_count g))

  -- a cell of a subwatershed is one of the grid
  pub inside_bounded : (o c : ℕ) → ground g o ≡ true → InSubwatershed g outlets o c → c < cell_count g
  inside_bounded o c v m = go m.steps m.meets (next g c) refl
    where
      go : (k : ℕ) → after (next g) k c ≡ some o → (t : Option (Link Dir)) → next g c ≡ t → c < cell_count g
      go k e (some h) n = (𝓝 g).bounded c ((𝓝 g).solid c h n)
      go zero e none n =
          let p : some c ≡ some o = sym (after_zero (next g) c) ∙ e in
          let q : c ≡ o = cc in
          (𝓝 g).bounded c (ap (ground g) q ∙ v)
      go (suc k) e none n =
          let p : none ≡ some o = sym (after_end (next g) k c n) ∙ e in
          let w : ◌≡◌ {A = ℕ} 0 1 = cc in
          absurd (omega arith)
