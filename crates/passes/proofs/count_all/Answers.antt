-- `passes::count_all` meets its contract. The invariant: the outlets before the place are counted.
-- Assumes nothing.
use native.Mathlib.Omega.{arith}
use Rattle.lists.proofs.Kept.{kept_all}
use Rattle.ground.specs.Grid.{grid_of}
use Rattle.passes.proofs.Counting.{counting_none, counting_more, counting_fits, counted_all, few_counted}
use Rattle.passes.proofs.Counting.{searchable_at, kept_search}
use Rattle.passes.proofs.count_all.Goals as goal

pub loop-place-init : goal.loop-place-init
loop-place-init c =
    let a = c.args in
    (counting_none a.edition (grid_of a.filled.grid.rows a.filled.grid.cols a.filled.grid.codes.now) a.filled.outlets.now, kept_all)

pub search_at-p-requires : goal.search_at-p-requires
search_at-p-requires c =
    let s = searchable_at c.requires c.loop-place.invariant.1 c.loop-place.place c.loop-place-test.true in
    record { ready = s.0; chosen = s.1.0; place_in_bounds = s.1.1 }

pub overflow_add-s : goal.overflow_add-s
overflow_add-s c =
    let a = c.args in
    let f = counting_fits a.edition (grid_of a.filled.grid.rows a.filled.grid.cols a.filled.grid.codes.now) a.filled.outlets.now
    c.loop-place-test.true c.loop-place.invariant.0 c.search_at-p.ensures c.requires.list.few_cells in
    omega (arith, f.0)

pub overflow_add-s-in-loop-place : goal.overflow_add-s-in-loop-place
overflow_add-s-in-loop-place c =
    let a = c.args in
    let f = counting_fits a.edition (grid_of a.filled.grid.rows a.filled.grid.cols a.filled.grid.codes.now) a.filled.outlets.now
    c.loop-place-test.true c.loop-place.invariant.0 c.search_at-p.ensures c.requires.list.few_cells in
    omega (arith, f.1)

pub overflow_add-s-in-loop-place-2 : goal.overflow_add-s-in-loop-place-2
overflow_add-s-in-loop-place-2 c =
    let a = c.args in
    let f = counting_fits a.edition (grid_of a.filled.grid.rows a.filled.grid.cols a.filled.grid.codes.now) a.filled.outlets.now
    c.loop-place-test.true c.loop-place.invariant.0 c.search_at-p.ensures c.requires.list.few_cells in
    omega (arith, f.1)

pub loop-place-preserved : goal.loop-place-preserved
loop-place-preserved c =
    let l = c.loop-place in
    let a = c.args in (
      counting_more a.edition (grid_of a.filled.grid.rows a.filled.grid.cols a.filled.grid.codes.now) a.filled.outlets.now c.loop-place-test.true
          l.invariant.0
          c.search_at-p.ensures,
      kept_search c.requires.list l.invariant.1 c.loop-place-test.true c.search_at-p.ensures.only,
    )

pub returns : goal.returns
returns c =
    let a = c.args in
    let g = grid_of a.filled.grid.rows a.filled.grid.cols a.filled.grid.codes.now in
    let e = a.edition in
    let l = c.loop-place in
    record {
      counts = counted_all e g a.filled.outlets.now c.loop-place-test.false l.invariant.0;
      few_paths = few_counted e g a.filled.outlets.now c.loop-place-test.false l.invariant.0 c.requires.list.few_cells;
      kept = l.invariant.1;
    }
