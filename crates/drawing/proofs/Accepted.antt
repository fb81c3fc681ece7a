-- What an accepted drawing draws: a flow path from the start to the outlet; and what is left in the places.
-- Assumes nothing.
use mathlib.Core.Path.{◌≡◌, refl, sym, ap, ◌∙◌}
use mathlib.Core.Bool.{Bool, true, false}
use mathlib.Core.List.{List, []}
use Prim.Native.Nat.{ℕ, zero, suc, ◌-◌, ◌^◌, ◌≤◌, ◌<◌}
use native.Mathlib.Omega.{arith}
use lib.ListN.{length, get_or, take, drop, length-take}
use lib.Seq.{take_at}
use lib.Dec.{eqb}
use borrow.Author.Tests.{eqb-true, ne_eqb}
use Rattle.std.specs.Prelude.{Ok}
use Rattle.lists.specs.Slices.{overlaid}
use Rattle.lists.proofs.Overlaid.{overlaid_front}
use Rattle.ground.specs.Grid.{cell_count, ground}
use Rattle.ground.specs.Subwatershed.{is_outlet}
use Rattle.ground.proofs.Ground.{𝓝, at_most_cells}
use Rattle.moves.proofs.Spots.{size}
use Rattle.answers.specs.Drawing.{Drawing, drawn_path, draw_number, draw_leaves, drawn_part, Draws}
use Rattle.flowpath.specs.FlowPath.{outlet_of, IsPath}
use Rattle.flowpath.specs.Measuring.{Surveyed}
use Rattle.flowpath.proofs.Following.{positive, grows, start_solid}
use Rattle.drawing.specs.Judging.{Judged}
use Rattle.drawing.specs.Cells.{first_cells, Drawable}
use Rattle.drawing.proofs.Judging.{chosen, inside_path, accepted_by}
use Rattle.drawing.proofs.Writing.{path_cells}

-- a flow path has no more cells than the grid: the accumulation grows with each
module _ (q : Drawing) (s : Surveyed q.catchment) {cells : List ℕ} (p : IsPath q cells)
    (from : ground q.catchment.grid q.start ≡ true) where
  grown : (k : ℕ) → k < length cells → k < get_or q.catchment.accumulation (get_or cells k 0) 0
  grown zero h = positive s (get_or cells 0 0) (ap (ground q.catchment.grid) p.begins ∙ from)
  grown (suc k) h =
      let f = p.flows k h in
      omega (
        arith,
        grown k (omega arith),
        grows s (get_or cells k 0) (record { cell = get_or cells (suc k) 0; step = f.0 }) f.1,
      )

  path_few : ground q.catchment.grid (outlet_of q) ≡ true → length cells ≤ cell_count q.catchment.grid
  path_few to = omega (
    arith,
    p.some_cell,
    grown (length cells - 1) (omega (arith, p.some_cell)),
    ap (λ (x : ℕ). get_or q.catchment.accumulation x 0) p.arrives,
    at_most_cells q.catchment.grid q.catchment.accumulation s.agreement (outlet_of q) to,
  )

module _ (q : Drawing) (lent : List ℕ) where
  module _ (z : draw_number q lent ≡ 0) where
    part_is : drawn_part q lent ≡ drawn_path q
    unfolding drawn_part
    part_is = rw z

    leaves_is : draw_leaves q lent ≡ overlaid (drawn_path q) lent
    unfolding draw_leaves
    leaves_is = rw z

    -- EVERY ACCEPTED DRAWING draws a flow path from the start to the outlet: the part that is handed back begins at the
    -- start, each next cell is where the one before flows, and the outlet is the last and the only one
    pub drawn_flow_path : IsPath q (drawn_part q lent)
    drawn_flow_path = rw part_is (inside_path q (accepted_by q lent z).inside)

    -- so there is room for its cells
    part_drawable : Drawable q.catchment.grid q.start (length (drawn_part q lent)) (length lent)
    part_drawable =
        let ok = accepted_by q lent z in
        let c = chosen q ok.passes in
        let s = c.surveyed in
        let from = start_solid s (outlet_of q) q.start ok.inside in
        record {
          grid = s.grid;
          some_cols = s.some_cols;
          start_in = (𝓝 q.catchment.grid).bounded q.start from;
          few = path_few q s drawn_flow_path from (s.placed q.place c.in_list);
          has_room = omega (arith, ap length part_is, ok.fits);
        }

    -- and the first cells of the walk, as many as it has, are what it leaves
    part_leaves : overlaid (first_cells q.catchment.grid q.start (length (drawn_part q lent))) lent
        ≡ draw_leaves q lent
    part_leaves = let g = q.catchment.grid in
        ap (λ (l : List ℕ). overlaid l lent)
        (sym (path_cells g q.start (is_outlet g q.catchment.outlets) drawn_flow_path) ∙ part_is)
        ∙ sym leaves_is

  -- THE PART has no more cells than a grid
  pub drawn_few : length (drawn_part q lent) ≤ 2 ^ 24
  unfolding drawn_part
  drawn_few = go (eqb (draw_number q lent) 0) refl
    where
      go : (b : Bool) → eqb (draw_number q lent) 0 ≡ b → length (drawn_part q lent) ≤ 2 ^ 24
      go true e =
          let d = part_drawable (eqb-true (draw_number q lent) 0 e) in
          omega (arith, d.few, size d.grid.sides)
      go false e = rw e (omega arith)

  -- ONCE IT IS JUDGED, a refusal writes nothing,
  pub nothing_written : {number : ℕ} {new : List ℕ} → number ≡ draw_number q lent → (number ≡ 0 → ⊥) → new ≡ lent
      → Draws q lent number 0 new
  unfolding draw_leaves drawn_part
  nothing_written e f same =
      let n = ne_eqb (draw_number q lent) 0 (λ z. f (e ∙ z)) in
      record { answers = e; counts = rw n; leaves = rw n same }

  -- and the cells of an accepted path are written
  module _ {count : ℕ} (judged : Judged q lent (Ok count)) where
    pub drawable : Drawable q.catchment.grid q.start count (length lent)
    drawable = rw judged.counts (part_drawable (sym judged.answers))

    pub drawable_in_part : {n : ℕ} → n ≤ count → Drawable q.catchment.grid q.start n (length lent)
    drawable_in_part h = record {
      grid = drawable.grid;
      some_cols = drawable.some_cols;
      start_in = drawable.start_in;
      few = omega (arith, h, drawable.few);
      has_room = omega (arith, h, drawable.has_room);
    }

    pub cells_written : {new : List ℕ} → new ≡ overlaid (first_cells q.catchment.grid q.start count) lent
        → Draws q lent 0 count new
    cells_written e = record {
      answers = judged.answers;
      counts = judged.counts;
      leaves = e ∙ rw judged.counts (part_leaves (sym judged.answers));
    }

  -- THE PART that is handed back
  module _ {number count : ℕ} {new : List ℕ} (draws : Draws q lent number count new) where
    pub part_taken : take count new ≡ drawn_part q lent
    unfolding drawn_part
    part_taken = go (eqb (draw_number q lent) 0) refl
      where
        go : (b : Bool) → eqb (draw_number q lent) 0 ≡ b → take count new ≡ drawn_part q lent
        go true e =
            let z = eqb-true (draw_number q lent) 0 e in
            let path = drawn_path q in
            ap (take count) (draws.leaves ∙ leaves_is z ∙ overlaid_front path lent (accepted_by q lent z).fits)
            ∙ take_at path (drop (length path) lent) count (sym (draws.counts ∙ ap length (part_is z)))
            ∙ sym (part_is z)
        go false e =
            let none : drawn_part q lent ≡ [] = rw e in
            ap (λ (n : ℕ). take n new) (draws.counts ∙ ap length none) ∙ sym none

    pub part_fits : count ≤ length new
    part_fits = omega (arith, draws.counts, ap length part_taken, length-take count new)
