-- FLOW LENGTHS in what a caller sees, of every accepted call.
-- Assumes nothing.
use mathlib.Core.Path.{◌≡◌, refl, sym, ap, ◌∙◌}
use mathlib.Core.Bool.{Bool, true, false, not, cond, ◌&&◌}
use mathlib.Core.Logic.{inl, ◌↔◌}
use mathlib.Core.List.{List, [], ◌∷◌}
use mathlib.Core.Option.{some}
use Prim.Native.Nat.{ℕ, ◌≤◌, ◌<◌}
use native.Mathlib.Omega.{arith}
use lib.ListN.{length, get_or}
use lib.Dec.{ltb, leb}
use borrow.Author.Tests.{leb-true, not-true}
use Rattle.lengths.specs.declared.Length.{Length}
use Rattle.lengths.specs.Rule.{counts}
use Rattle.lists.specs.Lists.{Every, In, member}
use Rattle.lists.specs.Slices.{overlaid}
use Rattle.lists.proofs.Lists.{and_both, every_in, every_is, in_only, map_alike}
use Rattle.lists.proofs.Members.{member_at, member_in}
use Rattle.lists.proofs.Overlaid.{overlaid_at}
use Rattle.ground.specs.Compass.{Dir, squares}
use Rattle.ground.specs.Grid.{Grid, Link, cell_count, ground, next, inflows}
use Rattle.ground.specs.Accumulation.{agrees, is_headwater}
use Rattle.ground.specs.Subwatershed.{InSubwatershed, is_outlet}
use Rattle.ground.specs.FlowLengths.{FlowLengths, through_length, greatest, upstream_length, arrival, flow_lengths}
use Rattle.ground.specs.FlowLengths.{length_grid, tributaries, upstream_by}
use Rattle.ground.proofs.Ground.{𝓝, grid_length, grid_at}
use Rattle.ground.proofs.FlowLengths.{length_arrives, inside_arrives, arrival_up, upstream_law}
use Rattle.ground.proofs.Through.{flow_at, flow_outside, arrival_ground}
use Rattle.search.specs.Tracing.{Tracing, longest_length, tracing}
use Rattle.search.proofs.FlowLengths.{smith_laws}
use Rattle.answers.specs.Checks.{check10, check11, check12, check14, check15, check16, check17}
use Rattle.answers.specs.declared.Traced.{Traced}
use Rattle.answers.specs.declared.Answer.{Answer}
use Rattle.answers.specs.Answers.{number_of, in_numbers}
use Rattle.answers.specs.Entries.{Catchment, outlet_checks}
use Rattle.answers.specs.FlowLengths.{LengthGrids, grid_lengths, flow_lengths_number, lengths_over, flow_lengths_leaves}
use Rattle.answers.specs.FlowLengths.{TellsFlowLengths}
use Rattle.answers.specs.Tracings.{Lent, chosen}
use Rattle.answers.specs.Seen.{Way}
use Rattle.answers.specs.LengthsSeen.{held_at, told_length, OnPathOf, by_edition1, LengthsSeen}
use Rattle.answers.proofs.FirstFailed.{all_every, passes_of, passed}
use Rattle.answers.proofs.Accepted.{way_placed, way_plain}

module _ (c : Catchment) {old new : LengthGrids} (t : TellsFlowLengths c old 0 new) where
  abbrev g : Grid
  g = c.grid

  abbrev outlets : List ℕ
  outlets = c.outlets

  passes : (number : ℕ) → passes_of number (outlet_checks c (grid_lengths c old)) ≡ true
  unfolding flow_lengths_number check10 check11 check12 check14 check15 check16 check17
  passes = passed 17 0 (outlet_checks c (grid_lengths c old)) [] refl (inl (omega arith)) (sym t.answers)

  agreed : agrees g c.accumulation ≡ true
  unfolding check10 check11 check12 check14 check15 check16 check17
  agreed = passes 14

  -- every listed outlet is ground
  on_ground : (o : ℕ) → member o outlets ≡ true → ground g o ≡ true
  unfolding check10 check11 check12 check14 check15 check16 check17
  on_ground o m = (and_both (ltb o (cell_count g)) (ground g o)
      (every_in (λ p. (ltb p (cell_count g) && ground g p) ≡ true) o outlets
      (all_every (λ p. ltb p (cell_count g) && ground g p) outlets (passes 16)) (member_in o outlets m))).1

  -- ---- the four numbers of a cell

  number_at : (ls : List ℕ) → cell_count g ≤ length ls → (f : FlowLengths → ℕ) (x : ℕ) → x < cell_count g
      → get_or (overlaid (length_grid g outlets f) ls) x 0 ≡ f (flow_lengths g outlets x)
  number_at ls h f x i =
      let long = grid_length (λ y. f (flow_lengths g outlets y)) (cell_count g) in
      overlaid_at (length_grid g outlets f) ls (omega (arith, long, h)) x (omega (arith, long, i))
      ∙ grid_at (λ y. f (flow_lengths g outlets y)) (cell_count g) x i

  -- the lent grids have a place for each cell
  places : Every (λ n. leb (cell_count g) n ≡ true) (length g.codes ∷ grid_lengths c old)
  unfolding check10 check11 check12 check14 check15 check16 check17
  places = all_every (λ n. leb (cell_count g) n) (length g.codes ∷ grid_lengths c old) (passes 11)

  over : new ≡ lengths_over g outlets old
  unfolding flow_lengths_leaves
  over = t.leaves ∙ rw (sym t.answers)

  held : (x : ℕ) → x < cell_count g → held_at new x ≡ flow_lengths g outlets x
  unfolding lengths_over
  held x i =
      let four = places.1.1 in
      let fits : (n : ℕ) → leb (cell_count g) n ≡ true → cell_count g ≤ n = λ n. leb-true (cell_count g) n in
      rw (
        over,
        number_at old.down_straight (fits _ four.0) (λ f. f.down.straight) x i,
        number_at old.down_diagonal (fits _ four.1.0) (λ f. f.down.diagonal) x i,
        number_at old.up_straight (fits _ four.1.1.0) (λ f. f.up.straight) x i,
        number_at old.up_diagonal (fits _ four.1.1.1.0) (λ f. f.up.diagonal) x i,
      )

  -- ---- a cell of a subwatershed

  module _ (o : ℕ) (m : member o outlets ≡ true) where
    abbrev Comes : ℕ → Length → Type 0
    Comes x l = arrival g outlets x ≡ some (record { cell = o; len = l })

    comes : (x : ℕ) → InSubwatershed g outlets o x → (l : Length) × Comes x l
    comes = inside_arrives g c.accumulation agreed outlets o m (on_ground o m)

    solid : (x : ℕ) (l : Length) → Comes x l → ground g x ≡ true
    solid x l k = arrival_ground g outlets x (record { cell = o; len = l }) k (on_ground o m)

    held_there : (x : ℕ) (l : Length) → Comes x l → held_at new x ≡ record { down = l; up = upstream_length g outlets x }
    held_there x l k = held x ((𝓝 g).bounded x (solid x l k)) ∙ flow_at g outlets x (record { cell = o; len = l }) k

    module _ (x : ℕ) (l : Length) (k : Comes x l) where
      -- what is held of its tributaries
      tributary_held : (j : Link Dir) → In j (tributaries g outlets x)
          → upstream_length g outlets j.cell ≡ (held_at new j.cell).up
      tributary_held j i =
          let p = in_only (λ y. not (is_outlet g outlets y.cell)) j (inflows g x) i in
          let f = every_in (λ y. next g y.cell ≡ some (record { cell = x; step = y.step })) j (inflows g x)
          ((𝓝 g).sound x) p.0 in
          let above = arrival_up g c.accumulation agreed outlets j.cell (record { cell = x; step = j.step })
          (record { cell = o; len = l }) (not-true (is_outlet g outlets j.cell) p.1) f k in
          sym (ap (λ (w : FlowLengths). w.up) (held_there j.cell _ above))

      held_law : (held_at new x).up ≡ upstream_by g outlets (λ y. (held_at new y).up) x
      held_law =
          let from : (ℕ → Length) → Link Dir → Length = λ up j. squares.◌▹◌ (up j.cell) j.step in
          let up : ℕ → Length = λ y. (held_at new y).up in
          ap (λ (w : FlowLengths). w.up) (held_there x l k)
          ∙ upstream_law g c.accumulation agreed outlets x (solid x l k)
          ∙ ap (λ (ls : List Length). cond (is_headwater g outlets x) (counts 0 0) (greatest squares ls))
          (map_alike (from (upstream_length g outlets)) (from up) (tributaries g outlets x)
          (every_is (λ j. from (upstream_length g outlets) j ≡ from up j) (tributaries g outlets x)
          (λ j i. ap (λ (w : Length). squares.◌▹◌ w j.step) (tributary_held j i))))

  -- ---- beside a tracing

  module _ (place : ℕ) (dropping : Bool) {r : Traced} {left : Lent} (w : Way (by_edition1 c place dropping) r left)
      (z : number_of r.answer ≡ 0) where
    abbrev outlet : ℕ
    outlet = chosen (by_edition1 c place dropping)

    abbrev plain : Tracing
    plain = tracing 1 false g outlets outlet

    listed : member outlet outlets ≡ true
    listed = member_at outlets place (way_placed (by_edition1 c place dropping) w z)

    told : told_length r ≡ longest_length plain
    told = ap (λ (a : Answer). counts (in_numbers a).straight (in_numbers a).diagonal)
        (way_plain (by_edition1 c place dropping) w z).0

    adds_up : (x : ℕ) → InSubwatershed g outlets outlet x
        → (through_length (held_at new x) ≡ told_length r) ↔ OnPathOf c r left x
    adds_up x i =
        let k = comes outlet listed x i in
        let sums = ap through_length (held x ((𝓝 g).bounded x (solid outlet listed x k.0 k.1))) in
        let list = (way_plain (by_edition1 c place dropping) w z).1 in
        let law = (smith_laws g c.accumulation agreed outlets outlet listed (on_ground outlet listed) false).smith x i
        in (
          λ e. let p = law.0 (sym sums ∙ e ∙ told) in (p.0, rw list p.1, p.2),
          λ p. sums ∙ law.1 (p.0, rw list at p.1, p.2) ∙ sym told,
        )

  -- WHAT A CALLER SEES
  pub lengths_seen : LengthsSeen c new
  lengths_seen = record {
    downstream = λ o x l m h. ap (λ (w : FlowLengths). w.down) (held_there o m x l
        ((length_arrives g c.accumulation agreed outlets o m (on_ground o m) x l).0 h));
    upstream = λ o x m i. let k = comes o m x i in held_law o m x k.0 k.1;
    outside = λ x i out. held x i ∙ flow_outside g outlets x out;
    adds_up = λ place dropping w z. adds_up place dropping w z;
  }
