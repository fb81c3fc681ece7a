-- The divide of one outlet, step by step: what each step may ask for, and what is noted at the end.
-- Assumes nothing.
use mathlib.Core.Path.{◌≡◌, sym, ap, ◌∙◌, subst}
use mathlib.Core.Bool.{true}
use mathlib.Core.List.{List}
use Prim.Native.Nat.{ℕ, ◌+◌, ◌*◌, ◌≤◌}
use lib.ListN.{length, get_or}
use Rattle.lists.specs.Lists.{member}
use Rattle.lists.proofs.Members.{member_at}
use Rattle.cells.specs.Numbers.{RowAndColumn}
use Rattle.cells.proofs.Numbers.{row_inside}
use Rattle.ground.specs.Grid.{grid_of, ground}
use Rattle.ground.specs.Accumulation.{subaccumulation}
use Rattle.ground.proofs.Cells.{ground_within}
use Rattle.gathering.specs.Gathering.{CanGather, Gathers}
use Rattle.divide.specs.Divides.{NotesCells, LeavesCells, CanNote, NotesEnclosed}
use Rattle.divide.proofs.Noting.{enclosed_noted}

module _ {rows cols place : ℕ} {codes outlets grid list : List ℕ}
    (can : CanNote rows cols codes outlets place grid list) {row col : ℕ}
    (cell : RowAndColumn cols (get_or outlets place 0) row col) where
  outlet_solid : ground (grid_of rows cols codes) (row * cols + col) ≡ true
  outlet_solid = ap (ground (grid_of rows cols codes)) cell.is_number ∙ can.solid

  pub can_gather : CanGather rows cols codes outlets row col grid list
  can_gather = record {
    grid_lent = can.grid_lent;
    accumulation = can.accumulation;
    agreed = can.agreed;
    row_in = row_inside cell (ground_within (grid_of rows cols codes) (get_or outlets place 0) can.solid);
    col_in = cell.col_in;
    solid = outlet_solid;
    outlet_is = ap (λ (x : ℕ). member x outlets) cell.is_number ∙ member_at outlets place can.in_list;
    noted = can.noted;
    room = subst (λ (x : ℕ). subaccumulation (grid_of rows cols codes) outlets x ≤ length list)
        (sym cell.is_number) can.room;
  }

  module _ {r : ℕ} {grid' list' : List ℕ}
      (gathers : Gathers rows cols codes outlets (row * cols + col) grid list r grid' list') where
    pub enclosed_made : {words last : List ℕ} → NotesCells rows cols codes r list' grid' words
        → LeavesCells rows cols r list' words last
        → NotesEnclosed (grid_of rows cols codes) outlets (get_or outlets place 0) (rows * cols) grid list last list'
    enclosed_made {words} {last} notes leaves =
        subst (λ (o : ℕ). NotesEnclosed (grid_of rows cols codes) outlets o (rows * cols) grid list last list')
        cell.is_number (record {
          notes = enclosed_noted (grid_of rows cols codes) outlets (row * cols + col) outlet_solid can.none_inside
              gathers.cells gathers.enters notes leaves;
          kept = gathers.kept;
        })
