-- The first cells of a walk, and the places while they are written.
-- Assumes nothing.
use mathlib.Core.Path.{◌≡◌, refl, sym, ap, ◌∙◌}
use mathlib.Core.Bool.{Bool}
use mathlib.Core.List.{List, [], ◌∷◌, ◌++◌, map-append, append-nil}
use Prim.Native.Nat.{ℕ, zero, suc, ◌+◌, ◌≤◌, ◌<◌, ◌^◌}
use native.Mathlib.Numerals.{add-one}
use native.Mathlib.Omega.{arith}
use lib.ListN.{length, get_or, set, take, drop, drop_of_length-le}
use lib.Arith.{digits_lt}
use lib.Seq.{ext_get_or, drop-cons, set_at, append_snoc, length-take-le}
use Rattle.lists.specs.Lists.{up_to}
use Rattle.lists.specs.Slices.{overlaid}
use Rattle.lists.proofs.Overlaid.{overlaid_front}
use Rattle.cells.proofs.Numbers.{row_inside}
use Rattle.ground.specs.Grid.{Grid, next}
use Rattle.ground.proofs.Ground.{grid_length, grid_at}
use Rattle.moves.specs.declared.Walk.{Walk}
use Rattle.moves.specs.Walks.{OnGrid, WalkedOn}
use Rattle.moves.proofs.Spots.{size}
use Rattle.flowpath.specs.FlowPath.{FlowPath}
use Rattle.flowpath.specs.Cells.{cell_of, BeginsAt, cell_on}
use Rattle.flowpath.proofs.Stepping.{steps, on_cell, at_most_one}
use Rattle.drawing.specs.Cells.{cell_after, first_cells, Drawable}

module _ (g : Grid) (start : ℕ) where
  pub cells_length : (n : ℕ) → length (first_cells g start n) ≡ n
  unfolding first_cells
  cells_length n = grid_length (cell_after g start) n

  cells_more : (n : ℕ) → first_cells g start (suc n) ≡ first_cells g start n ++ (cell_after g start n ∷ [])
  unfolding first_cells
  cells_more n = map-append (cell_after g start) (up_to n) (n ∷ [])

  -- A FLOW PATH is the first cells of its walk
  module _ (outlet : ℕ → Bool) {o : ℕ} {cells : List ℕ} (p : FlowPath (next g) outlet o start cells) where
    path_at : (k : ℕ) → k < length cells → get_or cells k 0 ≡ cell_after g start k
    unfolding cell_after cell_on
    path_at zero h = p.begins
    path_at (suc k) h =
        let f = p.flows k h in
        sym (ap (cell_on g) (sym (path_at k (omega arith))) ∙ rw (f.1, cell_on))

    pub path_cells : cells ≡ first_cells g start (length cells)
    unfolding first_cells
    path_cells = ext_get_or 0 cells (first_cells g start (length cells)) (sym (cells_length (length cells)))
        (λ k h. path_at k h ∙ sym (grid_at (cell_after g start) (length cells) k h))

  -- the first n places are written, the others are as they were
  module _ (old : List ℕ) where
    abbrev pub written : ℕ → List ℕ
    written n = first_cells g start n ++ drop n old

    written_none : old ≡ written 0
    unfolding first_cells
    written_none = refl

    written_more : (n : ℕ) → n < length old → set (written n) n (cell_after g start n) ≡ written (suc n)
    written_more n h =
        let d : drop n old ≡ get_or old n 0 ∷ drop (suc n) old = drop-cons old n 0 h in
        rw (d, set_at (first_cells g start n) (get_or old n 0) (drop (suc n) old) (cell_after g start n) n (cells_length n))
        (sym (append_snoc (first_cells g start n) (cell_after g start n) (drop (suc n) old))
        ∙ ap (λ (l : List ℕ). l ++ drop (suc n) old) (sym (cells_more n)))

    pub written_all : (n : ℕ) → n ≤ length old → written n ≡ overlaid (first_cells g start n) old
    written_all n h = ap (λ (m : ℕ). first_cells g start n ++ drop m old) (sym (cells_length n))
        ∙ sym (overlaid_front (first_cells g start n) old (omega (arith, cells_length n)))

-- the walk once k cells are written
pub record Writing (g : Grid) (start : ℕ) (old new : List ℕ) (w : Walk) (k : ℕ) : Type 0 where
  pub is_cell : cell_of g.cols w ≡ cell_after g start k
  pub row_in : w.cell.row < g.rows
  pub col_in : w.cell.col < g.cols
  pub few : steps w ≤ k
  pub is_written : new ≡ written g start old k

-- into as many of the lent places as there are cells to write
module _ {g : Grid} {start count : ℕ} (lent : List ℕ) (d : Drawable g start count (length lent)) where
  abbrev places : List ℕ
  places = take count lent

  many : length places ≡ count
  many = length-take-le count lent d.has_room

  pub writing_none : {w : Walk} → BeginsAt g.cols start w → Writing g start places places w 0
  unfolding cell_after
  writing_none {w} b =
      let z : steps w ≡ 0 = rw b.no_steps in
      record {
        is_cell = b.cell.is_number;
        row_in = row_inside b.cell d.start_in;
        col_in = b.cell.col_in;
        few = omega (arith, z);
        is_written = written_none g start places;
      }

  module _ {new : List ℕ} {w : Walk} {k : ℕ} (i : Writing g start places new w k) where
    pub inside : cell_of g.cols w < 2 ^ 24
    inside = omega (arith, size d.grid.sides, digits_lt i.row_in i.col_in)

    module _ (h : k < length places) where
      pub writing_on_grid : OnGrid g.rows g.cols g.codes w
      writing_on_grid = record {
        on = record { grid = d.grid; row_in = i.row_in; col_in = i.col_in };
        straight_small = omega (arith, size d.grid.sides, i.few, h, many, d.few);
        diagonal_small = omega (arith, size d.grid.sides, i.few, h, many, d.few);
      }

      pub writing_more : {cell : ℕ} → cell ≡ cell_of g.cols w → {r : Walk} → WalkedOn g w r
          → Writing g start places (set new k cell) r (k + 1)
      unfolding cell_after
      writing_more {cell} is {r} on = rw add-one (record {
        is_cell = on_cell g on ∙ ap (cell_on g) i.is_cell;
        row_in = on.row_in;
        col_in = on.col_in;
        few = omega (arith, at_most_one g on, i.few);
        is_written = rw (is, i.is_cell, i.is_written) (written_more g start places k h);
      })

    -- all of them, before the places that stay as they were
    pub writing_all : k ≤ length places → length places ≤ k
        → new ++ drop count lent ≡ overlaid (first_cells g start count) lent
    writing_all most least =
        let e : k ≡ count = omega (arith, most, least, many) in
        let all : new ≡ first_cells g start count = i.is_written ∙ ap (written g start places) e
        ∙ ap (λ (l : List ℕ). first_cells g start count ++ l) (drop_of_length-le places (omega (arith, many)))
        ∙ append-nil (first_cells g start count) in
        ap (λ (l : List ℕ). l ++ drop count lent) all ∙ written_all g start lent count d.has_room
