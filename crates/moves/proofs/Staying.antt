-- A walk that does not move is at its end: no step leads from a cell to itself.
-- Assumes nothing.
use mathlib.Core.Path.{◌≡◌, refl, sym, ap, ◌∙◌, subst}
use mathlib.Core.Bool.{Bool, true, false}
use mathlib.Core.Option.{Option, none, some}
use Prim.Native.Nat.{ℕ, zero, suc, ◌+◌, ◌*◌, ◌/◌, ◌%◌, ◌<◌}
use native.Mathlib.Nat.{div-add-mod', mod-lt, div-lt_iff_lt-mul}
use native.Mathlib.Omega.{arith}
use native.Mathlib.Decide.{dec_lt}
use lib.Arith.{digits_div, digits_mod}
use lib.Dec.{ltb}
use borrow.Author.Tests.{ltb-true}
use Rattle.ground.specs.Compass.{Dir, E, SE, S, SW, W, NW, N, NE}
use Rattle.ground.specs.Compass.{Shift, less, as_is, more, shifted, row_shift, col_shift}
use Rattle.ground.specs.Grid.{Grid, Link, cell_at, cell_count, neighbour, next}
use Rattle.ground.proofs.Cells.{neighbour_at, flow_ground, ground_within}
use Rattle.ground.proofs.GridNetwork.{Stepped, stepped}
use Rattle.moves.specs.Moves.{shift_number}

-- what a row or a column was shifted to
record ShiftedTo (s : Shift) (bound x y : ℕ) : Type 0 where
  by_number : y + 1 ≡ x + shift_number s
  within : y < bound

shifted_to : (s : Shift) (bound x y : ℕ) → x < bound → shifted s bound x ≡ some y → ShiftedTo s bound x y
shifted_to less bound zero y h e = let z : ◌≡◌ {A = ℕ} 0 1 = cc in absurd (omega arith)
shifted_to less bound (suc x) y h e = let q : x ≡ y = cc in record { by_number = omega arith; within = omega arith }
shifted_to as_is bound x y h e = let q : x ≡ y = cc in record { by_number = omega arith; within = omega arith }
shifted_to more bound x y h e = go (ltb (suc x) bound) refl
  where
    go : (b : Bool) → ltb (suc x) bound ≡ b → ShiftedTo more bound x y
    go true f =
        let p : some (suc x) ≡ some y = sym (rw f) ∙ e in
        let q : suc x ≡ y = cc in
        record { by_number = omega arith; within = omega (arith, ltb-true (suc x) bound f) }
    go false f =
        let p : none ≡ some y = sym (rw f) ∙ e in
        let z : ◌≡◌ {A = ℕ} 0 1 = cc in
        absurd (omega arith)

-- no direction keeps both the row and the column
moves_dir : (d : Dir) → shift_number (row_shift d) ≡ 1 → shift_number (col_shift d) ≡ 1 → ⊥
moves_dir E p q = omega arith
moves_dir SE p q = omega arith
moves_dir S p q = omega arith
moves_dir SW p q = omega arith
moves_dir W p q = omega arith
moves_dir NW p q = omega arith
moves_dir N p q = omega arith
moves_dir NE p q = omega arith

-- so a cell is no neighbour of itself
not_itself : (g : Grid) (row col : ℕ) (d : Dir) → row < g.rows → col < g.cols
    → neighbour g (row * g.cols + col) d ≡ some (row * g.cols + col) → ⊥
not_itself g row col d row_in col_in e =
    go (shifted (row_shift d) g.rows row) refl (shifted (col_shift d) g.cols col) refl
    (sym (neighbour_at g row col d col_in) ∙ e)
  where
    go : (o : Option ℕ) → shifted (row_shift d) g.rows row ≡ o
        → (q : Option ℕ) → shifted (col_shift d) g.cols col ≡ q
        → cell_at g.cols o q ≡ some (row * g.cols + col) → ⊥
    go none f q h k = let z : ◌≡◌ {A = ℕ} 0 1 = cc in omega arith
    go (some r) f none h k = let z : ◌≡◌ {A = ℕ} 0 1 = cc in omega arith
    go (some r) f (some c) h k =
        let u = shifted_to (row_shift d) g.rows row r row_in f in
        let v = shifted_to (col_shift d) g.cols col c col_in h in
        let q : r * g.cols + c ≡ row * g.cols + col = cc in
        let er : r ≡ row = sym (digits_div r v.within) ∙ ap (λ (x : ℕ). x / g.cols) q ∙ digits_div row col_in in
        let ec : c ≡ col = sym (digits_mod r v.within) ∙ ap (λ (x : ℕ). x % g.cols) q ∙ digits_mod row col_in in
        moves_dir d (omega (arith, u.by_number)) (omega (arith, v.by_number))

-- A STEP NEVER STAYS
pub next_moves : (g : Grid) (y : ℕ) (h : Link Dir) → next g y ≡ some h → h.cell ≡ y → ⊥
next_moves g y h e q =
    not_itself g (y / g.cols) (y % g.cols) s.dir ((div-lt_iff_lt-mul some_cols).1 within) (mod-lt y some_cols)
    (subst (λ (x : ℕ). neighbour g x s.dir ≡ some x) (sym (div-add-mod' y g.cols)) (s.leads ∙ ap some q))
  where
    s : Stepped g y h
    s = stepped g y h e

    within : y < cell_count g
    within = ground_within g y (flow_ground g y s.dir s.flows)

    some_cols : 0 < g.cols
    some_cols = elim (dec_lt 0 g.cols) [ yes k ↦ k | no k ↦ absurd (flat (omega arith)) ]
      where
        flat : g.cols ≡ 0 → ⊥
        flat k = omega (arith, rw k at within)
