-- Outlets that are far by their numbers are no neighbours, so that none of them flows in.
-- Assumes nothing.
use mathlib.Core.Path.{◌≡◌, refl, sym, ◌∙◌}
use mathlib.Core.Bool.{Bool, true, false, true≢false}
use mathlib.Core.List.{List, [], ◌∷◌}
use mathlib.Core.Option.{Option, none, some}
use Prim.Native.Nat.{ℕ, zero, suc, ◌+◌, ◌*◌, ◌≤◌, ◌<◌}
use native.Mathlib.Nat.{mul-le-mul, suc-mul}
use native.Mathlib.Numerals.{add-one}
use native.Mathlib.Omega.{arith}
use lib.Dec.{eqb, leb, ltb}
use borrow.Author.Tests.{eqb-true, leb-false}
use Rattle.lists.specs.Lists.{member}
use Rattle.ground.specs.Compass.{Dir, dirs, Shift, less, as_is, more, shifted, row_shift, col_shift}
use Rattle.ground.specs.Grid.{Grid, grid_of, cell_at, neighbour}
use Rattle.ground.proofs.Cells.{neighbour_at}
use Rattle.search.specs.Neighbours.{inflow_in}
use Rattle.stack.specs.Pending.{inflows_above}
use Rattle.std.specs.Int.{abs_diff}
use Rattle.stack.specs.Near.{any_near, NoneFlowsIn}

-- ---- the outlets one after another

module _ (at reach : ℕ) where
  -- where none is near, what is near is none of them
  far_member : (y : ℕ) → abs_diff y at ≤ reach → (os : List ℕ) → any_near at reach os ≡ false → member y os ≡ false
  far_member y n [] e = refl
  far_member y n (o ∷ os) e = go (leb (abs_diff o at) reach) refl (eqb o y) refl (far_member y n os)
    where
      go : (b : Bool) → leb (abs_diff o at) reach ≡ b → (c : Bool) → eqb o y ≡ c
          → (any_near at reach os ≡ false → member y os ≡ false) → member y (o ∷ os) ≡ false
      go true h c f ih = absurd (true≢false (sym (rw h) ∙ e))
      go false h true f ih = absurd (omega (arith, eqb-true o y f, leb-false (abs_diff o at) reach h))
      go false h false f ih = rw f (ih (rw h at e))

-- ---- a neighbour's number

none_some : {y : ℕ} → none ≡ some y → ⊥
none_some e = let w : ◌≡◌ {A = ℕ} 0 1 = cc in omega arith

shifted_near : (s : Shift) (bound x z : ℕ) → shifted s bound x ≡ some z → abs_diff z x ≤ 1
shifted_near less bound zero z e = absurd (none_some e)
shifted_near less bound (suc x) z e = let q : x ≡ z = cc in omega arith
shifted_near as_is bound x z e = let q : x ≡ z = cc in omega arith
shifted_near more bound x z e = go (ltb (suc x) bound) refl
  where
    go : (b : Bool) → ltb (suc x) bound ≡ b → abs_diff z x ≤ 1
    go true f = let p : some (suc x) ≡ some z = sym (rw f) ∙ e in let q : suc x ≡ z = cc in omega arith
    go false f = absurd (none_some (sym (rw f) ∙ e))

-- a row more is so many cells more
row_below : (r s cols : ℕ) → r ≤ s + 1 → r * cols ≤ s * cols + cols
row_below r s cols h =
    let e : (s + 1) * cols ≡ s * cols + cols = rw (add-one s) (suc-mul s cols) in
    let m : r * cols ≤ (s + 1) * cols = mul-le-mul h (omega arith) in omega (arith, e, m)

module _ (rows cols : ℕ) (codes outlets : List ℕ) (row col : ℕ) (within : col < cols) where
  abbrev g : Grid
  g = grid_of rows cols codes

  abbrev x : ℕ
  x = row * cols + col

  neighbour_near : (d : Dir) (y : ℕ) → neighbour g x d ≡ some y → abs_diff y x ≤ cols + 1
  neighbour_near d y n = go (shifted (row_shift d) rows row) refl (shifted (col_shift d) cols col) refl
      (sym (neighbour_at g row col d within) ∙ n)
    where
      go : (a : Option ℕ) → shifted (row_shift d) rows row ≡ a → (b : Option ℕ) → shifted (col_shift d) cols col ≡ b
          → cell_at cols a b ≡ some y → abs_diff y x ≤ cols + 1
      go none p b q e = absurd (none_some e)
      go (some r) p none q e = absurd (none_some e)
      go (some r) p (some c) q e =
          let at : r * cols + c ≡ y = cc in
          let u = shifted_near (row_shift d) rows row r p in
          omega (
            arith,
            at,
            row_below r row cols (omega arith),
            row_below row r cols (omega arith),
            shifted_near (col_shift d) cols col c q,
          )

  -- NO OUTLET IS NEAR, so none flows in
  module _ (far : any_near (row * cols + col) (cols + 1) outlets ≡ false) where
    same_inflow : (d : Dir) → inflow_in g [] x d ≡ inflow_in g outlets x d
    unfolding inflow_in
    same_inflow d = go (neighbour g x d) refl
      where
        go : (o : Option ℕ) → neighbour g x d ≡ o → inflow_in g [] x d ≡ inflow_in g outlets x d
        go none n = rw n
        go (some y) n = rw (n, far_member x (cols + 1) y (neighbour_near d y n) outlets far)

    pub none_near : NoneFlowsIn rows cols codes outlets row col
    unfolding inflows_above
    none_near len = same_above dirs
      where
        same_above : (ds : List Dir) → inflows_above g [] x len ds ≡ inflows_above g outlets x len ds
        same_above [] = refl
        same_above (d ∷ ds) = rw (same_inflow d, same_above ds)
