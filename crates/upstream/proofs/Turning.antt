-- What the search turns to, by the neighbour that flows in: none, an outlet, or another cell.
-- Assumes nothing.
use mathlib.Core.Path.{◌≡◌, refl, sym, ap, ◌∙◌}
use mathlib.Core.Bool.{Bool, true, false, cond}
use mathlib.Core.List.{List}
use mathlib.Core.Option.{Option as Maybe, none, some}
use Prim.Native.Nat.{ℕ, ◌+◌, ◌*◌}
use Rattle.lists.specs.Lists.{member}
use Rattle.ground.specs.Compass.{Dir}
use Rattle.ground.specs.Grid.{Grid, grid_of, neighbour, flows_in}
use Rattle.std.specs.Prelude.{Option, Some, None}
use Rattle.std.proofs.lemmas.Option.{none-some}
use Rattle.cells.specs.declared.Cell.{Cell}
use Rattle.moves.specs.Moves.{spot_cell, dir_at}
use Rattle.moves.specs.Walks.{if_flows_in, inflow_from, FlowsFrom}
use Rattle.search.specs.Neighbours.{unless_outlet, inflow_in}
use Rattle.upstream.specs.Turns.{TurnsTo}

-- of a neighbour that flows in, whether it is an outlet
abbrev pub unless_among : List ℕ → Maybe ℕ → Maybe ℕ
unless_among outlets o = elim o [ none ↦ none | some y ↦ cond (member y outlets) none (some y) ]

unless_of : (g : Grid) (outlets : List ℕ) (d : Dir) (o : Maybe ℕ)
    → unless_outlet g outlets d o ≡ unless_among outlets (if_flows_in g d o)
unless_of g outlets d none = refl
unless_of g outlets d (some y) = go (flows_in g d (some y)) refl (member y outlets) refl
  where
    go : (b : Bool) → flows_in g d (some y) ≡ b → (m : Bool) → member y outlets ≡ m
        → unless_outlet g outlets d (some y) ≡ unless_among outlets (if_flows_in g d (some y))
    go true e true f = rw (e, f)
    go true e false f = rw (e, f)
    go false e m f = rw e

module _ {rows cols : ℕ} {codes : List ℕ} {row col k : ℕ} (outlets : List ℕ)
    {s : Option Cell} (p : FlowsFrom rows cols codes row col k s) where
  abbrev land : Grid
  land = grid_of rows cols codes

  pub turns_is : inflow_in land outlets (row * cols + col) (dir_at k) ≡ unless_among outlets (spot_cell cols s)
  unfolding inflow_in inflow_from
  turns_is = unless_of land outlets (dir_at k) (neighbour land (row * cols + col) (dir_at k))
      ∙ ap (unless_among outlets) (sym p.is_cell)

  none_turned : inflow_in land outlets (row * cols + col) (dir_at k) ≡ none
      → TurnsTo rows cols codes outlets row col k None
  none_turned e = record {
    is_cell = sym e;
    row_in = λ x q. absurd (none-some x q);
    col_in = λ x q. absurd (none-some x q);
  }

  pub turns_off : s ≡ None → TurnsTo rows cols codes outlets row col k None
  turns_off e = none_turned (turns_is ∙ rw e)

  module _ {x : Cell} (e : s ≡ Some x) where
    pub turns_outlet : member (x.row * cols + x.col) outlets ≡ true → TurnsTo rows cols codes outlets row col k None
    turns_outlet o = none_turned (turns_is ∙ rw (e, o))

    pub turns_in : member (x.row * cols + x.col) outlets ≡ false → TurnsTo rows cols codes outlets row col k (Some x)
    turns_in o = record {
      is_cell = sym (turns_is ∙ rw (e, o));
      row_in = λ y q. p.row_in y (e ∙ q);
      col_in = λ y q. p.col_in y (e ∙ q);
    }

-- ---- what an engine knows of what it found

-- in a direction there is nothing to turn to
pub nothing_there : {rows cols : ℕ} {codes outlets : List ℕ} {row col n : ℕ} {s : Option Cell}
    → TurnsTo rows cols codes outlets row col n s → s ≡ None
    → inflow_in (grid_of rows cols codes) outlets (row * cols + col) (dir_at n) ≡ none
nothing_there {cols = cols} t e = sym t.is_cell ∙ ap (spot_cell cols) e

pub found_there : {rows cols : ℕ} {codes outlets : List ℕ} {row col n : ℕ} {x : Cell} {s : Option Cell}
    → TurnsTo rows cols codes outlets row col n s → s ≡ Some x
    → inflow_in (grid_of rows cols codes) outlets (row * cols + col) (dir_at n) ≡ some (x.row * cols + x.col)
found_there {cols = cols} t e = sym t.is_cell ∙ ap (spot_cell cols) e
