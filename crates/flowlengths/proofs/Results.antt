-- What the grids hold before the first outlet and after the last.
-- Assumes nothing.
use mathlib.Core.Path.{◌≡◌, refl, sym, ap, ap₂, ◌∙◌, subst}
use mathlib.Core.Bool.{Bool, true, false, cond, true≢false}
use mathlib.Core.Logic.{◌⊎◌, inl, inr}
use mathlib.Core.List.{List, [], ◌++◌}
use mathlib.Core.Option.{Option, none, some}
use Prim.Native.Nat.{ℕ, ◌*◌, ◌%◌, ◌≤◌, ◌<◌, ◌^◌}
use native.Mathlib.Omega.{arith}
use lib.ListN.{length, get_or}
use lib.Seq.{take-length}
use borrow.Author.Tests.{ne_eqb}
use Rattle.lists.specs.Lists.{member}
use Rattle.lists.specs.Slices.{Kept, overlaid, Within}
use Rattle.lists.proofs.Kept.{kept_then}
use Rattle.lists.proofs.Overlaid.{front_is}
use Rattle.lengths.specs.declared.Length.{Length}
use Rattle.lengths.specs.Rule.{counts}
use Rattle.ground.specs.Compass.{squares}
use Rattle.ground.specs.Tables.{table1}
use Rattle.ground.specs.Grid.{Grid, grid_of, next}
use Rattle.ground.specs.Walk.{At}
use Rattle.ground.specs.Subwatershed.{is_outlet}
use Rattle.ground.specs.FlowLengths.{FlowLengths, upstream_length, arrival, lengths_by, flow_lengths, length_grid}
use Rattle.ground.proofs.Cells.{of_ours, ground_within}
use Rattle.ground.proofs.Ground.{grid_length, grid_at}
use Rattle.ground.proofs.FlowLengths.{arrival_outlet}
use Rattle.answers.specs.Checks.{first_failed}
use Rattle.answers.specs.Entries.{Catchment, outlet_checks}
use Rattle.answers.specs.FlowLengths.{LengthGrids, length_grids, grid_lengths, lengths_over}
use Rattle.answers.specs.FlowLengths.{flow_lengths_number, flow_lengths_leaves, TellsFlowLengths}
use Rattle.moves.specs.Lent.{LentGrid}
use Rattle.checks.proofs.Passed.{Listed, sized, listed}
use Rattle.traversal.specs.Traversal.{Traversal}
use Rattle.traversal.proofs.Traversing.{untouched, left_all}
use Rattle.lengthgrids.specs.Grids.{GridsKept, MarkedWith, Prepared}
use Rattle.climbing.specs.Giving.{Climbable, down_at, up_at, Given}
use Rattle.climbing.specs.Giving.{Resting}
use Rattle.climbing.proofs.Greatest.{greatest_zero, greatest_all}
use Rattle.climbing.proofs.Giving.{entered_ground, given_none}
use Rattle.climbing.proofs.Climbing.{placed}

never : {P : Type 0} {b : At Length} → none ≡ some b → P
never e = let w : ◌≡◌ {A = ℕ} 0 1 = cc in absurd (omega arith)

module _ {rows cols : ℕ} {codes outlets : List ℕ} {old : LengthGrids} (can : Climbable rows cols codes outlets old)
  where
    abbrev land : Grid
    land = grid_of rows cols codes

    pub outlets_within : Within (rows * cols) outlets
    outlets_within j h = ground_within land (get_or outlets j 0) (can.on_ground j h)

    -- BEFORE THE FIRST OUTLET
    pub resting_none : {new : LengthGrids} → Prepared (rows * cols) outlets old new
        → Resting (grid_of rows cols codes) outlets 0 new
    resting_none {new} p = record {
      traversal = untouched (next land) (is_outlet land outlets);
      given = given_none land outlets new p.down_straight
          (λ c i e. p.down_diagonal c i ∙ ap (λ (b : Bool). cond b (2 ^ 31) 0) e)
          (λ c e. p.down_diagonal c (ground_within land c (placed can c e)) ∙ ap (λ (b : Bool). cond b (2 ^ 31) 0) e)
          (λ c i. ap₂ counts (p.up_straight c i) (p.up_diagonal c i));
      are_left = λ c e. absurd (true≢false (sym e));
      are_begun = λ c u e. absurd (true≢false (sym e));
    }

    -- AFTER THE LAST, and without the marks
    module _ {ds dd us ud dd' : List ℕ} (rest : Resting (grid_of rows cols codes) outlets (length outlets)
        (length_grids ds dd us ud)) (m : MarkedWith (rows * cols) outlets (length outlets) 0 dd dd') where
      abbrev t : Traversal (next land) (is_outlet land outlets)
      t = rest.traversal

      abbrev v : Given land outlets t (length_grids ds dd us ud)
      v = rest.given

      outlets_left : (o : ℕ) → is_outlet land outlets o ≡ true → t.left o ≡ true
      outlets_left o e = rest.are_left o (ap (member o) (take-length outlets) ∙ e)

      -- the diagonal steps without the mark
      diagonal_is : (c : ℕ) → get_or dd' c 0 ≡ cond (is_outlet land outlets c) 0 (get_or dd c 0)
      diagonal_is c = m.marks c ∙ ap (λ (l : List ℕ). cond (member c l) 0 (get_or dd c 0)) (take-length outlets)

      clean : (c : ℕ) → c < rows * cols → get_or dd' c 0 ≡ get_or dd c 0 % 2 ^ 31
      clean c i = go (is_outlet land outlets c) refl
        where
          go : (b : Bool) → is_outlet land outlets c ≡ b → get_or dd' c 0 ≡ get_or dd c 0 % 2 ^ 31
          go true e = diagonal_is c ∙ ap (λ (b : Bool). cond b 0 (get_or dd c 0)) e
              ∙ sym (ap (λ (n : ℕ). n % 2 ^ 31) (v.marked c e))
          go false e = diagonal_is c ∙ ap (λ (b : Bool). cond b 0 (get_or dd c 0)) e
              ∙ omega (arith, v.unmarked c i e)

      -- a cell that arrives is left, and so entered
      left_is : (c : ℕ) (b : At Length) → arrival land outlets c ≡ some b → t.left c ≡ true
      unfolding arrival
      left_is c b e = left_all (next land) (is_outlet land outlets) squares t outlets_left (rows * cols) c b e

      -- what the grids hold of a cell
      abbrev held : ℕ → FlowLengths
      held c = record { down = counts (get_or ds c 0) (get_or dd' c 0); up = counts (get_or us c 0) (get_or ud c 0) }

      held_by : (c : ℕ) → c < rows * cols → (o : Option (At Length)) → arrival land outlets c ≡ o
          → held c ≡ lengths_by land outlets c o
      held_by c i none e =
          let f : t.entered c ≡ false = fresh (t.entered c) refl in
          let u : up_at (length_grids ds dd us ud) c ≡ counts 0 0 = greatest_zero land outlets (v.reached c i)
          (λ d y w l. true≢false (sym (t.from_below c d y w (t.left_entered y l)) ∙ f)) in
          let s = v.no_straight c i f in
          let d = clean c i ∙ ap (λ (n : ℕ). n % 2 ^ 31) (v.no_diagonal c i f (outside (is_outlet land outlets c) refl))
          in
          ap₂ (λ (l k : Length). record { down = l; up = k }) (ap₂ counts s d) u
        where
          fresh : (b : Bool) → t.entered c ≡ b → t.entered c ≡ false
          fresh true w = never (sym e ∙ (v.arrived c w).arrives)
          fresh false w = w

          outside : (b : Bool) → is_outlet land outlets c ≡ b → is_outlet land outlets c ≡ false
          outside true w = never (sym e ∙ arrival_outlet land outlets c w)
          outside false w = w
      held_by c i (some b) e =
          let left = left_is c b e in
          let a = v.arrived c (t.left_entered c left) in
          let q : ◌≡◌ {A = Option (At Length)} (some (record {
            cell = a.outlet;
            len = down_at (length_grids ds dd us ud)
                c;
          }))
          (some b) = sym a.arrives ∙ e in
          let l : down_at (length_grids ds dd us ud) c ≡ b.len =
          ap (λ (o : Option (At Length)). elim o [ none ↦ counts 0 0 | some z ↦ z.len ]) q in
          let u : up_at (length_grids ds dd us ud) c ≡ upstream_length land outlets c =
          greatest_all land outlets can.accumulation can.agreement (v.reached c i)
          (entered_ground land outlets (placed can) t c (t.left_entered c left))
          (λ d y w. t.above_left c d y w left) in
          ap₂ (λ (x y : Length). record { down = x; up = y }) (ap (counts (get_or ds c 0)) (clean c i) ∙ l) u

      held_is : (c : ℕ) → c < rows * cols → held c ≡ flow_lengths land outlets c
      unfolding flow_lengths
      held_is c i = held_by c i (arrival land outlets c) refl

      over_part : (part : FlowLengths → ℕ) {list new : List ℕ} → rows * cols ≤ length list → Kept (rows * cols) list new
          → ((c : ℕ) → get_or new c 0 ≡ part (held c)) → new ≡ overlaid (length_grid land outlets part) list
      over_part part {list} {new} r k h =
          let f : ℕ → ℕ = λ c. part (flow_lengths land outlets c) in
          let n : length (length_grid land outlets part) ≡ rows * cols = grid_length f (rows * cols) in
          front_is (length_grid land outlets part) (omega (arith, r, n))
          (subst (λ (i : ℕ). Kept i list new) (sym n) k)
          (λ c i. let j : c < rows * cols = omega (arith, i, n) in
          h c ∙ ap part (held_is c j) ∙ sym (grid_at f (rows * cols) c j))

      -- THE FOUR GRIDS over what was lent
      pub lengths_over_lem : GridsKept (rows * cols) old (length_grids ds dd us ud)
          → length_grids ds dd' us ud ≡ lengths_over (grid_of rows cols codes) outlets old
      unfolding lengths_over
      lengths_over_lem k =
          let r = can.room in
          let a = over_part (λ f. f.down.straight) r.down_straight k.down_straight (λ c. refl) in
          let b = over_part (λ f. f.down.diagonal) r.down_diagonal (kept_then k.down_diagonal m.kept)
          (λ c. refl) in
          let c = over_part (λ f. f.up.straight) r.up_straight k.up_straight (λ c. refl) in
          let d = over_part (λ f. f.up.diagonal) r.up_diagonal k.up_diagonal (λ c. refl) in
          rw (a, b, c, d)

-- ---- by the number
module _ (c : Catchment) (old : LengthGrids) {number : ℕ} (is : number ≡ first_failed
    (outlet_checks c (grid_lengths c old))) where
  -- REFUSED
  pub refused : (number ≡ 0 → ⊥) → TellsFlowLengths c old number old
  unfolding flow_lengths_number flow_lengths_leaves
  refused f = record { answers = is; leaves = rw (sym is, ne_eqb number 0 f) }

  -- THE GRID, where the number is none of 10 and 11
  pub grid_lent : (number < 10) ⊎ (11 < number) → LentGrid c.grid.rows c.grid.cols c.grid.codes
  grid_lent late = (sized c.grid (grid_lengths c old) _ number late (sym is)).grid

  -- ACCEPTED
  module _ (z : number ≡ 0) where
    pub climbable : c.grid.table ≡ table1
        → Climbable c.grid.rows c.grid.cols c.grid.codes c.outlets old
    climbable ours =
        let e : first_failed (outlet_checks c (grid_lengths c old) ++ []) ≡ 0 = sym is ∙ z in
        let s = sized c.grid (grid_lengths c old) _ 0 (inl (omega arith)) e in
        let l = subst (λ g. Listed g c.accumulation c.outlets) (sym (of_ours c.grid ours))
        (listed c (grid_lengths c old) [] 0 (inl (omega arith)) e) in
        record {
          grid = s.grid;
          some_cols = s.some_cols;
          room = record {
            down_straight = s.reach (length old.down_straight) (inr (inl refl));
            down_diagonal = s.reach (length old.down_diagonal) (inr (inr (inl refl)));
            up_straight = s.reach (length old.up_straight) (inr (inr (inr (inl refl))));
            up_diagonal = s.reach (length old.up_diagonal) (inr (inr (inr (inr (inl refl)))));
          };
          on_ground = l.at_ground;
          few_outlets = l.few_outlets;
          are_different = l.are_different;
          accumulation = c.accumulation;
          agreement = l.agreement;
        }

    pub told : {new : LengthGrids} → new ≡ lengths_over c.grid c.outlets old → TellsFlowLengths c old 0 new
    unfolding flow_lengths_number flow_lengths_leaves
    told e = record { answers = sym (sym is ∙ z); leaves = e ∙ rw (sym is ∙ z) }
