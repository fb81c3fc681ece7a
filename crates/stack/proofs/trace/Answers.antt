-- `stack::trace` meets its contract: with each turn fewer cells are pending, and the rest of the search is the same.
-- Assumes nothing.
use mathlib.Core.Path.{◌≡◌, refl, ap, ◌∙◌}
use mathlib.Core.List.{List}
use Prim.Native.Nat.{ℕ, ◌+◌, ◌*◌}
use native.Mathlib.Omega.{arith}
use lib.ListN.{get_or}
use Rattle.ground.specs.Grid.{grid_of}
use Rattle.ground.specs.Accumulation.{subaccumulation}
use Rattle.notes.specs.Notes.{cells_held}
use Rattle.upstream.specs.Ready.{Ready, OnGround, met_in}
use Rattle.stack.proofs.Climbing.{read, small_cells}
use Rattle.stack.proofs.Turning.{drains_on, outlet_fits, outlet_stands, outlet_drains, traced}
use Rattle.stack.proofs.trace.Goals as goal

-- three numbers for each cell
end_is : {rows cols : ℕ} {codes outlets words : List ℕ} {row col : ℕ} → Ready rows cols codes outlets words
    → OnGround rows cols codes row col → {held : ℕ} → held ≡ cells_held (get_or words (row * cols + col) 0)
    → 3 * held ≡ 3 * subaccumulation (grid_of rows cols codes) outlets (row * cols + col)
end_is ready at e = ap (λ (n : ℕ). 3 * n) (e ∙ read ready at)

pub overflow_mul-end : goal.overflow_mul-end
overflow_mul-end c =
    let p = c.requires in
    omega (
      arith,
      end_is c.requires.ready p.on_ground c.cells_held.ensures,
      small_cells c.requires.ready p.on_ground,
    )

pub enter_outlet-s-requires : goal.enter_outlet-s-requires
enter_outlet-s-requires c =
    let p = c.requires in
    let i = end_is c.requires.ready p.on_ground c.cells_held.ensures in record {
      ready = p.ready;
      on_ground = p.on_ground;
      fits = outlet_fits c.requires.ready p.on_ground i c.begin.ensures c.none.ensures
          (omega (arith, i, p.col_in_bounds));
    }

pub loop-s-init : goal.loop-s-init
loop-s-init c =
    let p = c.requires in
    let i = end_is c.requires.ready p.on_ground c.cells_held.ensures in
    let e = c.enter_outlet-s in (
      refl,
      outlet_stands c.requires.ready p.on_ground i c.begin.ensures c.none.ensures e.ensures
          (omega (arith, i, p.col_in_bounds, e.auto.work)),
      refl,
      λ k h. refl,
    )

pub loop-s-preserved : goal.loop-s-preserved
loop-s-preserved c =
    let l = c.loop-s in
    let t = c.turn-s in (
      t.auto.work ∙ l.invariant.0,
      t.ensures.standing,
      drains_on t.ensures l.invariant.2,
      λ i h. t.ensures.beyond i h ∙ l.invariant.3 i h,
    )

pub returns : goal.returns
returns c =
    let a = c.args in
    let p = c.requires in
    let i = end_is c.requires.ready p.on_ground c.cells_held.ensures in
    let l = c.loop-s in
    let e = c.enter_outlet-s in
    traced c.requires.ready p.on_ground i (met_in a.edition a.filled.subaccumulation.now) a.dropping a.work.now
    l.invariant.1 (omega arith)
    (l.invariant.2
    ∙ outlet_drains c.requires.ready p.on_ground i c.begin.ensures c.none.ensures e.ensures a.dropping)
    (λ k h. l.invariant.3 k h ∙ e.ensures.beyond k h)
