-- The walk while it is followed to its first outlet: what lies before it is what the whole walk has, less the cells
-- passed.
-- Assumes nothing.
use mathlib.Core.Path.{◌≡◌, refl, sym, ap, ◌∙◌, subst}
use mathlib.Core.Bool.{Bool, true, false, true≢false}
use mathlib.Core.List.{List}
use mathlib.Core.Option.{Option, none, some}
use Prim.Native.Nat.{ℕ, zero, suc, ◌+◌, ◌<◌}
use native.Mathlib.Omega.{arith}
use lib.ListN.{length, get_or}
use Rattle.std.specs.Prelude.{Some, None}
use lib.Dec.{ltb}
use borrow.Author.Tests.{eq-eqb, ne_eqb, lt-ltb}
use Rattle.lists.specs.Lists.{member}
use Rattle.lists.proofs.Lists.{and_both}
use Rattle.lists.proofs.Members.{position_of}
use Rattle.cells.proofs.Numbers.{row_inside}
use Rattle.ground.specs.Compass.{Dir, squares}
use Rattle.ground.specs.Grid.{Grid, Link, cell_count, ground, next, inflows}
use Rattle.ground.specs.Subwatershed.{walked, belongs, is_outlet, in_subwatershed, path_from}
use Rattle.ground.proofs.Agreement.{Agrees, fewer_next}
use Rattle.ground.proofs.Walks.{walked_out, walked_next}
use Rattle.ground.proofs.Ground.{𝓝, lent, at_most_cells}
use Rattle.moves.specs.declared.Walk.{Walk}
use Rattle.moves.specs.Walks.{OnGrid, WalkedOn}
use Rattle.moves.proofs.Spots.{size}
use Rattle.answers.specs.Entries.{Catchment}
use Rattle.checks.specs.Tests.{is_placed}
use Rattle.flowpath.specs.Measuring.{Surveyed, OutletsIn, NoneBetween, MarkedAt, path_length}
use Rattle.flowpath.specs.Cells.{cell_of, BeginsAt}
use Rattle.flowpath.proofs.Marks.{none_higher}
use Rattle.flowpath.proofs.Walked.{belongs_out, belongs_next, belongs_end}
use Rattle.flowpath.proofs.Stepping.{steps, Onward, onward, ended}

-- the outlets of a catchment
abbrev out : Catchment → ℕ → Bool
out c = is_outlet c.grid c.outlets

-- the walk from start, on its way
pub record Following (c : Catchment) (o start : ℕ) (w : Walk) (cell mark : ℕ) : Type 0 where
  pub is_cell : cell_of c.grid.cols w ≡ cell
  pub row_in : w.cell.row < c.grid.rows
  pub col_in : w.cell.col < c.grid.cols
  pub solid : ground c.grid cell ≡ true
  pub grown : steps w < get_or c.accumulation cell 0
  pub none_between : NoneBetween (length c.outlets) c.accumulation c.outlets (get_or c.accumulation cell 0)
      mark
  pub left : ℕ
  pub all_steps : left + steps w ≡ cell_count c.grid
  pub same_end : in_subwatershed c.grid c.outlets o start
      ≡ belongs squares (next c.grid) (out c) left o cell
  pub same_cells : length (path_from c.grid c.outlets start)
      ≡ steps w + length (walked (next c.grid) (out c) left cell)

module _ {c : Catchment} (s : Surveyed c) where
  -- outlets have an accumulation
  pub outlets_in : OutletsIn c.accumulation c.outlets
  outlets_in j h = omega (arith, (𝓝 c.grid).bounded (get_or c.outlets j 0) (s.placed j h), s.has_accumulation)

  pub positive : (x : ℕ) → ground c.grid x ≡ true → 0 < get_or c.accumulation x 0
  unfolding Agrees
  positive x v = omega (arith, lent c.grid c.accumulation s.agreement x v)

  -- it grows with each step
  pub grows : (x : ℕ) (h : Link Dir) → next c.grid x ≡ some h
      → get_or c.accumulation x 0 < get_or c.accumulation h.cell 0
  grows x h e = fewer_next (next c.grid) (inflows c.grid) (ground c.grid) (cell_count c.grid) (𝓝 c.grid)
      (λ y. get_or c.accumulation y 0) (lent c.grid c.accumulation s.agreement) x h e

  -- IT BEGINS at a cell of ground
  pub begun : (o start : ℕ) {w : Walk} → ground c.grid start ≡ true → BeginsAt c.grid.cols start w
      → Following c o start w start 0
  unfolding in_subwatershed
  begun o start {w} solid b =
      let z : steps w ≡ 0 = rw b.no_steps in
      record {
        is_cell = b.cell.is_number;
        row_in = row_inside b.cell ((𝓝 c.grid).bounded start solid);
        col_in = b.cell.col_in;
        solid = solid;
        grown = omega (arith, z, positive start solid);
        none_between = record { below = λ j i h. absurd (omega (arith, h)) };
        left = cell_count c.grid;
        all_steps = omega (arith, z);
        same_end = refl;
        same_cells = omega (arith, z);
      }

  -- a null start is in no subwatershed: it is no outlet, and its walk ends there
  not_inside : (o start : ℕ) → ground c.grid start ≡ false → in_subwatershed c.grid c.outlets o start ≡ false
  unfolding in_subwatershed
  not_inside o start z = belongs_end (next c.grid) (out c) squares start
      (listed (member start c.outlets) refl) (cell_count c.grid) o (flows (next c.grid start) refl)
    where
      listed : (b : Bool) → member start c.outlets ≡ b → b ≡ false
      listed true e =
          let p = position_of start c.outlets e in
          absurd (true≢false (sym (s.placed p.at p.inside) ∙ ap (ground c.grid) p.holds ∙ z))
      listed false e = refl

      flows : (t : Option (Link Dir)) → next c.grid start ≡ t → t ≡ none
      flows none e = refl
      flows (some h) e = absurd (true≢false (sym ((𝓝 c.grid).solid start h e) ∙ z))

  -- so a start from which there is something to draw is a cell of ground
  pub start_solid : (o start : ℕ) → in_subwatershed c.grid c.outlets o start ≡ true → ground c.grid start ≡ true
  start_solid o start e = go (ground c.grid start) refl
    where
      go : (b : Bool) → ground c.grid start ≡ b → b ≡ true
      go true v = refl
      go false v = absurd (true≢false (sym e ∙ not_inside o start v))

  -- a start as it is tested
  pub not_placed : (o start : ℕ) → is_placed c.grid start ≡ false → None ≡ path_length c.grid c.outlets o start
  unfolding path_length
  not_placed o start z = sym (rw (not_inside o start (null (ground c.grid start) refl)))
    where
      null : (b : Bool) → ground c.grid start ≡ b → b ≡ false
      null true v =
          let placed : is_placed c.grid start ≡ true
          = rw (lt-ltb start (cell_count c.grid) ((𝓝 c.grid).bounded start v), v) in
          absurd (true≢false (sym placed ∙ z))
      null false v = refl

pub placed_solid : (g : Grid) (start : ℕ) → is_placed g start ≡ true → ground g start ≡ true
placed_solid g start e = (and_both (ltb start (cell_count g)) (ground g start) e).1

module _ {c : Catchment} {o start : ℕ} {w : Walk} {cell mark : ℕ} (f : Following c o start w cell mark) where
  module _ (s : Surveyed c) where
    -- its steps are fewer than the cells
    pub few_steps : steps w < cell_count c.grid
    few_steps = omega (arith, at_most_cells c.grid c.accumulation s.agreement cell f.solid, f.grown)

    pub marked_at : MarkedAt c.accumulation c.outlets cell mark
    marked_at = record {
      cell_in = omega (arith, (𝓝 c.grid).bounded cell f.solid, s.has_accumulation);
      none_between = f.none_between;
    }

    pub on_grid : OnGrid c.grid.rows c.grid.cols c.grid.codes w
    on_grid = record {
      on = record { grid = s.grid; row_in = f.row_in; col_in = f.col_in };
      straight_small = omega (arith, size s.grid.sides, few_steps);
      diagonal_small = omega (arith, size s.grid.sides, few_steps);
    }

  -- AT AN OUTLET: the one asked for, or another
  module _ (v : member cell c.outlets ≡ true) where
    pub arrived : cell ≡ o → Some (steps w + 1) ≡ path_length c.grid c.outlets o start
    unfolding path_length
    arrived e =
        sym (rw (f.same_end, belongs_out (next c.grid) (out c) squares f.left o cell v, eq-eqb cell o e)
        (ap (λ (n : ℕ). Some n) (f.same_cells ∙ ap (λ (l : List ℕ). steps w + length l)
        (walked_out (next c.grid) (out c) f.left cell v))))

    pub elsewhere : (cell ≡ o → ⊥) → None ≡ path_length c.grid c.outlets o start
    unfolding path_length
    elsewhere e =
        sym (rw (f.same_end, belongs_out (next c.grid) (out c) squares f.left o cell v, ne_eqb cell o e))

  -- AT ANOTHER CELL it ends, or goes on
  module _ {r : Walk} (on : WalkedOn c.grid w r) where
    pub lost : member cell c.outlets ≡ false → cell_of c.grid.cols r ≡ cell
        → None ≡ path_length c.grid c.outlets o start
    unfolding path_length
    lost v e =
        let z : next c.grid cell ≡ none = subst (λ (x : ℕ). next c.grid x ≡ none) f.is_cell
        (ended c.grid on (e ∙ sym f.is_cell)) in
        sym (rw (f.same_end, belongs_end (next c.grid) (out c) squares cell v f.left o z))

    module _ (moved : cell_of c.grid.cols r ≡ cell → ⊥) where
      ahead : Onward c.grid w r
      ahead = onward c.grid on (λ e. moved (e ∙ f.is_cell))

      pub one_step : steps r ≡ steps w + 1
      one_step = ahead.one_more

      flows : next c.grid cell ≡ some ahead.link
      flows = subst (λ (x : ℕ). next c.grid x ≡ some ahead.link) f.is_cell ahead.is_next

      pub goes_on : Surveyed c → member cell c.outlets ≡ false → (higher : ℕ)
          → NoneBetween (length c.outlets) c.accumulation c.outlets (get_or c.accumulation cell 0 + 1) higher
          → Following c o start r (cell_of c.grid.cols r) higher
      goes_on s v higher between =
          subst (λ (x : ℕ). Following c o start r x higher) (sym ahead.to_cell) (go f.left refl)
        where
          more : get_or c.accumulation cell 0 < get_or c.accumulation ahead.link.cell 0
          more = grows s cell ahead.link flows

          go : (n : ℕ) → f.left ≡ n → Following c o start r ahead.link.cell higher
          go zero e = absurd (omega (arith, f.all_steps, e, few_steps s))
          go (suc n) e = record {
            is_cell = ahead.to_cell;
            row_in = on.row_in;
            col_in = on.col_in;
            solid = (𝓝 c.grid).lands cell ahead.link flows;
            grown = omega (arith, f.grown, one_step, more);
            none_between = none_higher _ (omega (arith, more)) between;
            left = n;
            all_steps = omega (arith, f.all_steps, e, one_step);
            same_end = f.same_end
                ∙ ap (λ (m : ℕ). belongs squares (next c.grid) (out c) m o cell) e
                ∙ belongs_next (next c.grid) (out c) squares cell v n ahead.link flows o;
            same_cells =
                let q : length (walked (next c.grid) (out c) f.left cell)
                ≡ suc (length (walked (next c.grid) (out c) n ahead.link.cell))
                = ap (λ (m : ℕ). length (walked (next c.grid) (out c) m cell)) e
                ∙ ap length (walked_next (next c.grid) (out c) cell v n ahead.link flows) in
                omega (arith, f.same_cells, q, one_step);
          }
