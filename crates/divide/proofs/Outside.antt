-- THE DIVIDE: where the words tell which cells are inside, a cell of the subwatershed is on its divide if it is beside
-- an outside one. Assumes nothing.
use mathlib.Core.Path.{◌≡◌, refl, sym, ap₂, ◌∙◌}
use mathlib.Core.Bool.{Bool, true, false, not, ◌||◌, or-true}
use mathlib.Core.List.{List, [], ◌∷◌}
use mathlib.Core.Option.{Option, none, some}
use Prim.Native.Nat.{ℕ, zero, suc, ◌*◌, ◌/◌, ◌%◌, ◌<◌, ◌^◌}
use native.Mathlib.Nat.{mod-lt, div-lt_iff_lt-mul}
use native.Mathlib.Omega.{arith}
use native.Mathlib.Decide.{dec_lt}
use lib.ListN.{get_or}
use lib.Arith.{digits_lt}
use lib.Dec.{ltb}
use borrow.Author.Tests.{ltb-true}
use Rattle.ground.specs.Compass.{Dir, dirs, Shift, less, as_is, more, shifted, row_shift, col_shift}
use Rattle.ground.specs.Compass.{squares}
use Rattle.ground.specs.Grid.{Grid, cell_at, cell_count, ground, neighbour, next}
use Rattle.ground.specs.Subwatershed.{is_outlet, in_subwatershed}
use Rattle.ground.specs.Divide.{is_beyond, beyond_in, on_divide}
use Rattle.ground.proofs.Cells.{ground_within}
use Rattle.ground.proofs.GridNetwork.{network}
use Rattle.ground.proofs.Network.{first_induct}
use Rattle.ground.proofs.Subwatersheds.{true_belongs}
use Rattle.divide.specs.Divides.{is_outside, outside_in, beside_outside}

-- a number, if there is one, is below a bound
abbrev Below : ℕ → Option ℕ → Type 0
Below bound none = Unit {0}
Below bound (some y) = y < bound

shifted_below : (s : Shift) (bound x : ℕ) → x < bound → Below bound (shifted s bound x)
shifted_below less bound zero h = tt
shifted_below less bound (suc x) h = omega arith
shifted_below as_is bound x h = h
shifted_below more bound x h = go (ltb (suc x) bound) refl
  where
    go : (b : Bool) → ltb (suc x) bound ≡ b → Below bound (shifted more bound x)
    go true e = rw e (ltb-true (suc x) bound e)
    go false e = rw e tt

cell_below : (rows cols : ℕ) (a b : Option ℕ) → Below rows a → Below cols b → Below (rows * cols) (cell_at cols a b)
cell_below rows cols none b h k = tt
cell_below rows cols (some r) none h k = tt
cell_below rows cols (some r) (some c) h k = digits_lt h k

-- a neighbour is a cell of the grid
neighbour_below : (g : Grid) (x : ℕ) (d : Dir) → x < cell_count g → Below (cell_count g) (neighbour g x d)
unfolding neighbour
neighbour_below g x d h = cell_below g.rows g.cols (shifted (row_shift d) g.rows (x / g.cols))
    (shifted (col_shift d) g.cols (x % g.cols))
    (shifted_below (row_shift d) g.rows (x / g.cols) ((div-lt_iff_lt-mul some_cols).1 h))
    (shifted_below (col_shift d) g.cols (x % g.cols) (mod-lt x some_cols))
  where
    some_cols : 0 < g.cols
    some_cols = elim (dec_lt 0 g.cols) [ yes k ↦ k | no k ↦ absurd (flat (omega arith)) ]
      where
        flat : g.cols ≡ 0 → ⊥
        flat k = omega (arith, rw k at h)

module _ (g : Grid) (outlets : List ℕ) (o : ℕ) (solid : ground g o ≡ true) where
  -- a cell of the subwatershed has ground
  pub inside_ground : (c : ℕ) → in_subwatershed g outlets o c ≡ true → ground g c ≡ true
  unfolding in_subwatershed
  inside_ground c e =
      let r = true_belongs squares (next g) (is_outlet g outlets) (cell_count g) o c e in
      first_induct squares (next g) (is_outlet g outlets)
      (λ n c a. ground g a.cell ≡ true → ground g c ≡ true)
      (λ n c v h. h) (λ n c h a v f e ih k. (network g).solid c h f)
      (cell_count g) c (record { cell = o; len = r.0 }) r.1 solid

  pub inside_within : (c : ℕ) → in_subwatershed g outlets o c ≡ true → c < cell_count g
  inside_within c e = ground_within g c (inside_ground c e)

  beyond_is : (y : ℕ) → is_beyond g outlets o (some y) ≡ not (in_subwatershed g outlets o y)
  beyond_is y = go (in_subwatershed g outlets o y) refl
    where
      go : (b : Bool) → in_subwatershed g outlets o y ≡ b → (not (ground g y) || not b) ≡ not b
      go true e = rw (inside_ground y e)
      go false e = or-true (not (ground g y))

  module _ (grid : List ℕ)
      (tells : (y : ℕ) → y < cell_count g → ltb (get_or grid y 0) (2 ^ 31) ≡ not (in_subwatershed g outlets o y)) where
    outside_is : (n : Option ℕ) → Below (cell_count g) n → is_outside grid n ≡ is_beyond g outlets o n
    outside_is none h = refl
    outside_is (some y) h = tells y h ∙ sym (beyond_is y)

    outsides_are : (x : ℕ) → x < cell_count g → (ds : List Dir) → outside_in g grid x ds ≡ beyond_in g outlets o x ds
    outsides_are x h [] = refl
    outsides_are x h (d ∷ ds) = ap₂ ◌||◌ (outside_is (neighbour g x d) (neighbour_below g x d h)) (outsides_are x h ds)

    pub outside_divide : (x : ℕ) → x < cell_count g → beside_outside g grid x ≡ on_divide g outlets o x
    unfolding beside_outside on_divide
    outside_divide x h = outsides_are x h dirs
