-- A move to a neighbour, by the numbers of the source.
-- Assumes nothing.
use mathlib.Core.Path.{◌≡◌, refl, sym, ap, ◌∙◌}
use mathlib.Core.Bool.{Bool, true, false, cond}
use mathlib.Core.List.{List}
use mathlib.Core.Option.{Option, none, some}
use Prim.Native.Nat.{ℕ, zero, suc, ◌+◌, ◌-◌, ◌*◌, ◌%◌, ◌≤◌, ◌<◌}
use native.Mathlib.Omega.{arith}
use lib.ListN.{get_or}
use lib.Arith.{digits_lt}
use lib.Dec.{ltb}
use borrow.Author.Tests.{ltb-true}
use Rattle.moves.specs.declared.Neighbour.{Neighbour}
use Rattle.ground.specs.Compass.{Dir, E, SE, S, SW, W, NW, N, NE, place_of, opposite, Shift, less, as_is, more, shifted}
use Rattle.ground.specs.Compass.{row_shift, col_shift}
use Rattle.ground.specs.Tables.{table1, dir_of}
use Rattle.ground.specs.Grid.{Grid, grid_of, cell_at, neighbour, next}
use Rattle.ground.proofs.Cells.{code_inside, neighbour_at}
use Rattle.ground.proofs.GridNetwork.{Stepped, stepped}
use Rattle.moves.specs.Moves.{dir_at, shift_number, neighbour_of}
use Rattle.moves.proofs.Spots.{size, inside}
use Rattle.downstream.specs.Offsets.{place_by, offset_of, offsets_of}
use Rattle.downstream.specs.Flowing.{Numbered}
use Rattle.downstream.proofs.Steps.{place_in, offset_at, shift_is, number_after}
use Rattle.traversal.specs.Turns.{HasNeighbour, HasNext}
use Rattle.traversal.proofs.Traversing.{at_place}

-- a row or a column stays within its bound
shift_in : (s : Shift) (bound x z : ℕ) → x < bound → shifted s bound x ≡ some z → z < bound
shift_in less bound zero z h e = let w : ◌≡◌ {A = ℕ} 0 1 = cc in absurd (omega arith)
shift_in less bound (suc x) z h e = let q : x ≡ z = cc in omega arith
shift_in as_is bound x z h e = let q : x ≡ z = cc in omega arith
shift_in more bound x z h e = go (ltb (suc x) bound) refl e
  where
    go : (b : Bool) → ltb (suc x) bound ≡ b → cond b (some (suc x)) none ≡ some z → z < bound
    go true t f = let q : suc x ≡ z = cc in omega (arith, ltb-true (suc x) bound t)
    go false t f = let w : ◌≡◌ {A = ℕ} 0 1 = cc in absurd (omega arith)

-- the neighbours by their places
pub place_at : (k : ℕ) → k < 8 → place_of (dir_at k) ≡ k
place_at zero h = refl
place_at (suc zero) h = refl
place_at (suc (suc zero)) h = refl
place_at (suc (suc (suc zero))) h = refl
place_at (suc (suc (suc (suc zero)))) h = refl
place_at (suc (suc (suc (suc (suc zero))))) h = refl
place_at (suc (suc (suc (suc (suc (suc zero)))))) h = refl
place_at (suc (suc (suc (suc (suc (suc (suc zero))))))) h = refl
place_at (suc (suc (suc (suc (suc (suc (suc (suc k)))))))) h = absurd (omega arith)

-- row and column of a neighbour on the grid
record Lands (rows cols row col : ℕ) (d : Dir) (y : ℕ) : Type 0 where
  row_down : ℕ
  col_right : ℕ
  is_row_lem : row_down + 1 ≡ row + shift_number (row_shift d)
  is_col : col_right + 1 ≡ col + shift_number (col_shift d)
  row_in : row_down < rows
  col_in : col_right < cols
  is_cell : y ≡ row_down * cols + col_right

lands : (rows cols row col : ℕ) (d : Dir) (y : ℕ) → row < rows → col < cols
    → cell_at cols (shifted (row_shift d) rows row) (shifted (col_shift d) cols col) ≡ some y → Lands rows cols row col d y
lands rows cols row col d y h k e =
    go (shifted (row_shift d) rows row) (shifted (col_shift d) cols col) refl refl e
  where
    go : (r c : Option ℕ) → shifted (row_shift d) rows row ≡ r → shifted (col_shift d) cols col ≡ c
        → cell_at cols r c ≡ some y → Lands rows cols row col d y
    go none c p q f = let w : ◌≡◌ {A = ℕ} 0 1 = cc in absurd (omega arith)
    go (some r) none p q f = let w : ◌≡◌ {A = ℕ} 0 1 = cc in absurd (omega arith)
    go (some r) (some c) p q f = record {
      row_down = r;
      col_right = c;
      is_row_lem = shift_is (row_shift d) rows row r p;
      is_col = shift_is (col_shift d) cols col c q;
      row_in = shift_in (row_shift d) rows row r h p;
      col_in = shift_in (col_shift d) cols col c k q;
      is_cell = cc;
    }

module _ {rows cols row col at : ℕ} {codes offsets : List ℕ} (n : Numbered rows cols codes offsets row col at) where
  abbrev land : Grid
  land = grid_of rows cols codes

  pub at_inside : at < rows * cols
  at_inside = omega (arith, n.is_at, inside n.on)

  pub cells_small : rows * cols ≤ 4096 * 4096
  cells_small = size n.on.grid.sides

  module _ {k y : ℕ} (b : k < 8) (there : neighbour (grid_of rows cols codes) at (dir_at k) ≡ some y) where
    by_shift : cell_at cols (shifted (row_shift (dir_at k)) rows row) (shifted (col_shift (dir_at k)) cols col) ≡ some y
    by_shift = sym (neighbour_at land row col (dir_at k) n.on.col_in)
        ∙ ap (λ (x : ℕ). neighbour land x (dir_at k)) (sym n.is_at) ∙ there

    landed : Lands rows cols row col (dir_at k) y
    landed = lands rows cols row col (dir_at k) y n.on.row_in n.on.col_in by_shift

    offset_is : get_or offsets k 0 ≡ offset_of cols (dir_at k)
    offset_is = ap (λ (l : List ℕ). get_or l k 0) n.are_offsets
        ∙ ap (λ (j : ℕ). get_or (offsets_of cols) j 0) (sym (place_at k b)) ∙ offset_at cols (dir_at k)

    -- the offset leads to its number
    pub number_is : at + get_or offsets k 0 ≡ y + (cols + 1)
    number_is = omega (arith, number_after rows cols row col (dir_at k) y by_shift, offset_is, n.is_at)

    pub neighbour_inside : y < rows * cols
    neighbour_inside = omega (arith, landed.is_cell, digits_lt landed.row_in landed.col_in)

-- THE MOVE
module _ {rows cols row col x : ℕ} {codes offsets : List ℕ} (n : Numbered rows cols codes offsets row col x) {k : ℕ}
    (b : k < 8) (has : HasNeighbour (grid_of rows cols codes) x k) {m : Neighbour} (is_m : m ≡ neighbour_of (dir_at k))
  where
    to : Lands rows cols row col (dir_at k) has.0
    to = landed n b has.1

    down_is : m.row ≡ shift_number (row_shift (dir_at k))
    down_is = ap (λ (a : Neighbour). a.row) is_m

    right_is : m.col ≡ shift_number (col_shift (dir_at k))
    right_is = ap (λ (a : Neighbour). a.col) is_m

    pub row_some : 1 ≤ row + m.row
    row_some = omega (arith, to.is_row_lem, down_is)

    pub col_some : 1 ≤ col + m.col
    col_some = omega (arith, to.is_col, right_is)

    pub number_there : x + get_or offsets k 0 - (cols + 1) ≡ has.0
    number_there = omega (arith, number_is n b has.1)

    pub numbered_there : Numbered rows cols codes offsets (row + m.row - 1) (col + m.col - 1)
        (x + get_or offsets k 0 - (cols + 1))
    numbered_there =
        let r : row + m.row - 1 ≡ to.row_down = omega (arith, to.is_row_lem, down_is) in
        let c : col + m.col - 1 ≡ to.col_right = omega (arith, to.is_col, right_is) in
        record {
          on = record {
            grid = n.on.grid;
            row_in = omega (arith, r, to.row_in);
            col_in = omega (arith, c, to.col_in);
          };
          is_at = number_there ∙ to.is_cell ∙ sym (rw (r, c));
          are_offsets = n.are_offsets;
        }

-- THE WAY DOWN: the neighbour is at the place of the code, and the way back at the opposite one
back_place : (d : Dir) → (place_of d + 4) % 8 ≡ place_of (opposite d)
back_place E = refl
back_place SE = refl
back_place S = refl
back_place SW = refl
back_place W = refl
back_place NW = refl
back_place N = refl
back_place NE = refl

module _ {rows cols row col x : ℕ} {codes offsets : List ℕ} (n : Numbered rows cols codes offsets row col x) {k : ℕ}
    (is-k : k ≡ place_by (dir_of table1 (get_or codes x 0))) (has : HasNext (grid_of rows cols codes) x) where
  s : Stepped (grid_of rows cols codes) x has.0
  s = stepped (grid_of rows cols codes) x has.0 has.1

  place_is : k ≡ place_of has.0.step
  place_is = is-k ∙ ap (λ (c : ℕ). place_by (dir_of table1 c)) (sym (code_inside (grid_of rows cols codes) x (at_inside n)))
      ∙ ap place_by s.flows ∙ ap place_of s.is_step

  pub place_below : k < 8
  place_below = omega (arith, is-k, place_in (dir_of table1 (get_or codes x 0)))

  dir_below : dir_at k ≡ s.dir
  dir_below = ap dir_at place_is ∙ at_place has.0.step ∙ sym s.is_step

  pub next_beside : HasNeighbour (grid_of rows cols codes) x k
  next_beside = (has.0.cell, ap (neighbour (grid_of rows cols codes) x) dir_below ∙ s.leads)

  pub next_there : {y : ℕ} → neighbour (grid_of rows cols codes) x (dir_at k) ≡ some y
      → next (grid_of rows cols codes) x ≡ some (record { cell = y; step = has.0.step })
  unfolding next_beside
  next_there {y} e =
      let q : some has.0.cell ≡ some y = sym next_beside.1 ∙ e in
      let r : has.0.cell ≡ y = cc in
      has.1 ∙ ap (λ (z : ℕ). some (record { cell = z; step = has.0.step })) r

  pub turn_back : (k + 4) % 8 + 1 ≡ place_of (opposite has.0.step) + 1
  turn_back = ap (λ (j : ℕ). (j + 4) % 8 + 1) place_is ∙ ap (λ (j : ℕ). j + 1) (back_place has.0.step)
