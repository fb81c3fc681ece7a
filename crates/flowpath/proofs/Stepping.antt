-- One step of the code's walk: its cell, and how many steps it has taken.
-- Assumes nothing.
use mathlib.Core.Path.{◌≡◌, refl, sym, ap, ◌∙◌}
use mathlib.Core.Option.{Option, none, some}
use Prim.Native.Nat.{ℕ, ◌+◌, ◌≤◌}
use native.Mathlib.Omega.{arith}
use Rattle.lengths.specs.declared.Length.{Length}
use Rattle.lengths.specs.declared.Step.{Step}
use Rattle.lengths.specs.declared.Step.TheVariants.{Straight, Diagonal}
use Rattle.lengths.specs.Rule.{plus_step}
use Rattle.ground.specs.Compass.{Dir, step_of}
use Rattle.ground.specs.Grid.{Grid, Link, next}
use Rattle.ground.specs.Walk.{At}
use Rattle.moves.specs.declared.Walk.{Walk}
use Rattle.moves.specs.Walks.{state_of, WalkedOn}
use Rattle.moves.proofs.Walking.{state_ends, state_goes}
use Rattle.moves.proofs.Staying.{next_moves}
use Rattle.flowpath.specs.Cells.{cell_of, cell_on}

-- a step counts one
plus_one : (l : Length) (s : Step) → (plus_step l s).straight + (plus_step l s).diagonal ≡ l.straight + l.diagonal + 1
plus_one l Straight = omega arith
plus_one l Diagonal = omega arith

-- the steps that a walk has taken
abbrev pub steps : Walk → ℕ
steps w = w.length.straight + w.length.diagonal

-- the walk has gone on along a link
pub record Onward (g : Grid) (w r : Walk) : Type 0 where
  pub link : Link Dir
  pub is_next : next g (cell_of g.cols w) ≡ some link
  pub to_cell : cell_of g.cols r ≡ link.cell
  pub one_more : steps r ≡ steps w + 1

module _ (g : Grid) {w r : Walk} (on : WalkedOn g w r) where
  along : (h : Link Dir) → next g (cell_of g.cols w) ≡ some h → Onward g w r
  along h e = record {
    link = h;
    is_next = e;
    to_cell = ap (λ (s : At Length). s.cell) state;
    one_more = ap (λ (s : At Length). s.len.straight + s.len.diagonal) state ∙ plus_one _ (step_of h.step);
  }
    where
      state : state_of g.cols r ≡ record { cell = h.cell; len = plus_step w.length (step_of h.step) }
      state = on.is_state ∙ state_goes g (state_of g.cols w) h.cell h.step e

  stays : next g (cell_of g.cols w) ≡ none → state_of g.cols r ≡ state_of g.cols w
  stays e = on.is_state ∙ state_ends g (state_of g.cols w) e

  -- ANOTHER CELL: it has gone on
  pub onward : (cell_of g.cols r ≡ cell_of g.cols w → ⊥) → Onward g w r
  onward f = go (next g (cell_of g.cols w)) refl
    where
      go : (o : Option (Link Dir)) → next g (cell_of g.cols w) ≡ o → Onward g w r
      go none e = absurd (f (ap (λ (s : At Length). s.cell) (stays e)))
      go (some h) e = along h e

  -- THE SAME CELL: it has come to its end
  pub ended : cell_of g.cols r ≡ cell_of g.cols w → next g (cell_of g.cols w) ≡ none
  unfolding along
  ended q = go (next g (cell_of g.cols w)) refl
    where
      go : (o : Option (Link Dir)) → next g (cell_of g.cols w) ≡ o → o ≡ none
      go none e = refl
      go (some h) e = absurd (next_moves g (cell_of g.cols w) h e (sym (along h e).to_cell ∙ q))

  -- either way
  pub on_cell : cell_of g.cols r ≡ cell_on g (cell_of g.cols w)
  unfolding cell_on along
  on_cell = go (next g (cell_of g.cols w)) refl
    where
      go : (o : Option (Link Dir)) → next g (cell_of g.cols w) ≡ o
          → cell_of g.cols r ≡ cell_on g (cell_of g.cols w)
      go none e = rw (e, cell_on) (ap (λ (s : At Length). s.cell) (stays e))
      go (some h) e = rw (e, cell_on) (along h e).to_cell

  pub at_most_one : steps r ≤ steps w + 1
  at_most_one = go (next g (cell_of g.cols w)) refl
    where
      go : (o : Option (Link Dir)) → next g (cell_of g.cols w) ≡ o → steps r ≤ steps w + 1
      go none e = omega (arith, ap (λ (s : At Length). s.len.straight + s.len.diagonal) (stays e))
      go (some h) e = omega (arith, (along h e).one_more)
