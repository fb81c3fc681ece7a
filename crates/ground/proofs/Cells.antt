-- The grid's definitions by cases, and directions there and back.
-- Assumes nothing.
use mathlib.Core.Path.{◌≡◌, refl, sym, ap, ◌∙◌, subst}
use mathlib.Core.Bool.{Bool, true, false, not, true≢false}
use mathlib.Core.Logic.{inl}
use mathlib.Core.List.{List, [], ◌∷◌, map}
use mathlib.Core.Option.{Option, none, some}
use Prim.Native.Nat.{ℕ, zero, suc, ◌+◌, ◌*◌, ◌/◌, ◌%◌, ◌≤◌, ◌<◌}
use native.Mathlib.Nat.{div-add-mod', mod-lt, div-lt_iff_lt-mul}
use native.Mathlib.Omega.{arith}
use native.Mathlib.Decide.{dec_lt}
use lib.ListN.{get_or}
use lib.Arith.{digits_div, digits_mod}
use lib.Dec.{eqb, ltb}
use borrow.Author.Tests.{eqb-true, eq-eqb, ne_eqb, ltb-true, lt-ltb, le-ltb}
use Rattle.lists.specs.Lists.{sum_of, member}
use Rattle.ground.specs.Compass.{Dir, E, SE, S, SW, W, NW, N, NE, dirs, place_of, opposite, Shift, less, as_is}
use Rattle.ground.specs.Compass.{more, shifted, row_shift, col_shift}
use Rattle.ground.specs.Tables.{Table, table1, dir_of, points_in}
use Rattle.ground.specs.Grid.{Grid, cell_at, cell_count, code_at, ground, neighbour, flow, onto, next, inflow_record}
use Rattle.ground.specs.Grid.{grid_in, grid_of, inflows_from, inflows}
use Rattle.ground.specs.Accumulation.{gathered, balance, subaccumulation}
use Rattle.ground.proofs.Tables.{table_facts}

-- THE ORDER: `dirs` is the order of `place_of`, and both are E, SE, S, SW, W, NW, N, NE
pub dirs_in_order : map place_of dirs ≡ 0 ∷ 1 ∷ 2 ∷ 3 ∷ 4 ∷ 5 ∷ 6 ∷ 7 ∷ []
dirs_in_order = refl

pub opposite_twice : (d : Dir) → opposite (opposite d) ≡ d
opposite_twice E = refl
opposite_twice SE = refl
opposite_twice S = refl
opposite_twice SW = refl
opposite_twice W = refl
opposite_twice NW = refl
opposite_twice N = refl
opposite_twice NE = refl

-- a shift taken back
abbrev back : Shift → Shift
back less = more
back as_is = as_is
back more = less

row_back : (d : Dir) → row_shift (opposite d) ≡ back (row_shift d)
row_back E = refl
row_back SE = refl
row_back S = refl
row_back SW = refl
row_back W = refl
row_back NW = refl
row_back N = refl
row_back NE = refl

col_back : (d : Dir) → col_shift (opposite d) ≡ back (col_shift d)
col_back E = refl
col_back SE = refl
col_back S = refl
col_back SW = refl
col_back W = refl
col_back NW = refl
col_back N = refl
col_back NE = refl

record Shifted (s : Shift) (bound x y : ℕ) : Type 0 where
  within : y < bound
  undone : shifted (back s) bound y ≡ some x

shifted_back : (s : Shift) (bound x y : ℕ) → x < bound → shifted s bound x ≡ some y → Shifted s bound x y
shifted_back less bound zero y h e = let w : ◌≡◌ {A = ℕ} 0 1 = cc in absurd (omega arith)
shifted_back less bound (suc x) y h e = let q : x ≡ y = cc in
    record {
      within = omega arith;
      undone = rw (lt-ltb (suc y) bound (omega arith))
          (ap (λ (z : ℕ). some (suc z)) (sym q));
    }
shifted_back as_is bound x y h e = let q : x ≡ y = cc in record { within = omega arith; undone = ap some (sym q) }
shifted_back more bound x y h e = go (ltb (suc x) bound) refl
  where
    go : (b : Bool) → ltb (suc x) bound ≡ b → Shifted more bound x y
    go true f =
        let q : some (suc x) ≡ some y = sym (rw f) ∙ e in
        let r : suc x ≡ y = cc in
        record {
          within = omega (arith, ltb-true (suc x) bound f);
          undone = subst (λ (z : ℕ). shifted less bound z ≡ some x) r refl;
        }
    go false f = let q : none ≡ some y = sym (rw f) ∙ e in let w : ◌≡◌ {A = ℕ} 0 1 = cc in absurd (omega arith)

-- what a cell number is made of
record CellIs (cols : ℕ) (a b : Option ℕ) (y : ℕ) : Type 0 where
  row : ℕ
  col : ℕ
  is_row_lem : a ≡ some row
  is_col : b ≡ some col
  is_cell : row * cols + col ≡ y

cell_is : (cols : ℕ) (a b : Option ℕ) (y : ℕ) → cell_at cols a b ≡ some y → CellIs cols a b y
cell_is cols none b y e = let w : ◌≡◌ {A = ℕ} 0 1 = cc in absurd (omega arith)
cell_is cols (some r) none y e = let w : ◌≡◌ {A = ℕ} 0 1 = cc in absurd (omega arith)
cell_is cols (some r) (some c) y e = record { row = r; col = c; is_row_lem = refl; is_col = refl; is_cell = cc }

-- a grid of our table is made of its sides and codes
pub of_ours : (g : Grid) → g.table ≡ table1 → grid_of g.rows g.cols g.codes ≡ g
of_ours g e = ap (λ (t : Table). grid_in t g.rows g.cols g.codes) (sym e)

module _ (g : Grid) where
  pub code_inside : (x : ℕ) → x < cell_count g → code_at g x ≡ get_or g.codes x 0
  unfolding code_at
  code_inside x h = rw (lt-ltb x (cell_count g) h)

  -- ground by the code that stands in the list
  pub null_at : (x : ℕ) → x < cell_count g → get_or g.codes x 0 ≡ 0 → ground g x ≡ false
  null_at x h e = ap not (eq-eqb (code_at g x) 0 (code_inside x h ∙ e))

  pub ground_at : (x : ℕ) → x < cell_count g → (get_or g.codes x 0 ≡ 0 → ⊥) → ground g x ≡ true
  ground_at x h f = ap not (ne_eqb (code_at g x) 0 (λ e. f (sym (code_inside x h) ∙ e)))

  pub code_outside : (x : ℕ) → cell_count g ≤ x → code_at g x ≡ 0
  unfolding code_at
  code_outside x h = rw (le-ltb x (cell_count g) h)

  -- ground is within the grid
  pub ground_within : (x : ℕ) → ground g x ≡ true → x < cell_count g
  ground_within x v = elim (dec_lt x (cell_count g)) [ yes h ↦ h | no h ↦ absurd (go (omega arith)) ]
    where
      go : cell_count g ≤ x → ⊥
      go h = true≢false (sym v ∙ ap (λ (c : ℕ). not (eqb c 0)) (code_outside x h))

  -- the neighbour at a known row and column
  pub neighbour_at : (row col : ℕ) (d : Dir) → col < g.cols → neighbour g (row * g.cols + col) d ≡ cell_at g.cols
      (shifted (row_shift d) g.rows row) (shifted (col_shift d) g.cols col)
  unfolding neighbour
  neighbour_at row col d h = rw (digits_div row h, digits_mod row h)

  -- THERE AND BACK
  pub neighbour_back : (x : ℕ) (d : Dir) (y : ℕ) → x < cell_count g → neighbour g x d ≡ some y
      → neighbour g y (opposite d) ≡ some x
  unfolding neighbour
  neighbour_back x d y h e = subst (λ (z : ℕ). neighbour g z (opposite d) ≡ some x) j.is_cell
      (rw (
        row_back d,
        col_back d,
        digits_div j.row v.within,
        digits_mod j.row v.within,
        u.undone,
        v.undone,
      ) (ap some (div-add-mod' x g.cols)))
    where
      some_cols : 0 < g.cols
      some_cols = elim (dec_lt 0 g.cols) [ yes k ↦ k | no k ↦ absurd (flat (omega arith)) ]
        where
          flat : g.cols ≡ 0 → ⊥
          flat k = omega (arith, rw k at h)

      j : CellIs g.cols (shifted (row_shift d) g.rows (x / g.cols))
          (shifted (col_shift d) g.cols (x % g.cols)) y
      j = cell_is g.cols (shifted (row_shift d) g.rows (x / g.cols))
          (shifted (col_shift d) g.cols (x % g.cols)) y e

      u : Shifted (row_shift d) g.rows (x / g.cols) j.row
      u = shifted_back (row_shift d) g.rows (x / g.cols) j.row ((div-lt_iff_lt-mul some_cols).1 h) j.is_row_lem

      v : Shifted (col_shift d) g.cols (x % g.cols) j.col
      v = shifted_back (col_shift d) g.cols (x % g.cols) j.col (mod-lt x some_cols) j.is_col

  -- a cell that flows has ground
  pub flow_ground : (y : ℕ) (e : Dir) → flow g y ≡ some e → ground g y ≡ true
  flow_ground y e f = go (eqb (code_at g y) 0) refl
    where
      go : (b : Bool) → eqb (code_at g y) 0 ≡ b → not b ≡ true
      go true h = let z : flow g y ≡ none = ap (dir_of g.table) (eqb-true (code_at g y) 0 h)
          ∙ (table_facts g.table).gives_none 0 (inl refl) in cc
      go false h = refl

  -- a code that points in a direction
  pub points_flow : (d : Dir) (y : ℕ) → points_in g.table d (code_at g y) ≡ true → flow g y ≡ some d
  points_flow d y h = ap (dir_of g.table) (eqb-true (code_at g y) (g.table.code_of d) h)
      ∙ (table_facts g.table).found d

  pub flow_points : (d : Dir) (y : ℕ) → flow g y ≡ some d → points_in g.table d (code_at g y) ≡ true
  flow_points d y f = eq-eqb (code_at g y) (g.table.code_of d) ((table_facts g.table).only (code_at g y) d f)

  -- the walk's step by cases
  pub next_along : (x : ℕ) (d : Dir) → flow g x ≡ some d → next g x ≡ onto g d (neighbour g x d)
  unfolding next
  next_along x d e = rw e

  pub next_none : (x : ℕ) → flow g x ≡ none → next g x ≡ none
  unfolding next
  next_none x e = rw e

  pub next_is : (y : ℕ) (e : Dir) (x : ℕ) → flow g y ≡ some e → neighbour g y e ≡ some x → ground g x ≡ true
      → next g y ≡ some (record { cell = x; step = e })
  next_is y e x f n v = next_along y e f ∙ rw (n, v)

  -- the other definitions by cases
  pub ground_inflows : (x : ℕ) → ground g x ≡ true → inflows g x ≡ inflows_from g dirs x
  unfolding inflows
  ground_inflows x v = rw v

  pub null_inflows : (x : ℕ) → ground g x ≡ false → inflows g x ≡ []
  unfolding inflows
  null_inflows x v = rw v

  pub ground_sub : (outlets : List ℕ) (x : ℕ) → ground g x ≡ true
      → subaccumulation g outlets x ≡ gathered (inflows g) (λ c. member c outlets) (cell_count g) x
  unfolding subaccumulation
  ground_sub outlets x v = rw v

  pub null_sub : (outlets : List ℕ) (x : ℕ) → ground g x ≡ false → subaccumulation g outlets x ≡ 0
  unfolding subaccumulation
  null_sub outlets x v = rw v

  pub ground_balance : (a : List ℕ) (x : ℕ) → ground g x ≡ true → balance g a x ≡ suc (sum_of (inflow_record g a x))
  unfolding balance
  ground_balance a x v = rw v

  pub null_balance : (a : List ℕ) (x : ℕ) → ground g x ≡ false → balance g a x ≡ 0
  unfolding balance
  null_balance a x v = rw v
