-- `tracing::by_recursion` meets its contract.
-- Assumes nothing.
use mathlib.Core.Path.{ap, ◌∙◌}
use mathlib.Core.List.{List}
use Prim.Native.Nat.{ℕ}
use native.Mathlib.Omega.{arith}
use Rattle.lists.specs.Slices.{overlaid}
use Rattle.noting.proofs.Readying.{few, restored}
use Rattle.tracing.proofs.Searching.{at_outlet, cells_there, searched_there, counted, starts_are}
use Rattle.tracing.proofs.Searching.{answers_counted}
use Rattle.tracing.proofs.Noted.{own_place, own_met, own_list}
use Rattle.tracing.proofs.by_recursion.Goals as goal

pub make_ready-requires : goal.make_ready-requires
make_ready-requires c =
    let a = c.args in record { fresh = c.requires.fresh; places = own_place a.grid.rows a.grid.cols a.grid.codes.now a.outlets.now a.place c.requires.chosen.in_list c.requires.place_bound }

pub trace-p-requires : goal.trace-p-requires
trace-p-requires c =
    let a = c.args in
    let r = c.make_ready.ensures in
    let e = c.split_number-outlet.ensures in record {
      ready = r.ready;
      on_ground = at_outlet r.ready c.requires.chosen e;
      cells_bound = (
        omega (arith, cells_there r.ready c.requires.chosen e, c.requires.place_bound),
        (own_list a.grid.rows a.grid.cols a.grid.codes.now a.outlets.now a.place r).same_length,
      );
    }

pub overflow_mul-grid : goal.overflow_mul-grid
overflow_mul-grid c =
    omega (arith, few c.requires.fresh)

pub list_starts-requires : goal.list_starts-requires
list_starts-requires c =
    let q = (searched_there c.make_ready.ensures.ready c.requires.chosen c.split_number-outlet.ensures
    c.trace-p.ensures.searched) in
    (omega (arith, q.few_paths, q.all_cells, c.requires.place_bound), omega (arith, c.trace-p.ensures.room))

pub returns : goal.returns
returns c =
    let a = c.args in
    let q = (searched_there c.make_ready.ensures.ready c.requires.chosen c.split_number-outlet.ensures
    c.trace-p.ensures.searched) in
    let r = c.make_ready.ensures in
    let told = own_met a.grid.rows a.grid.cols a.grid.codes.now a.outlets.now a.place r in record {
      lists = answers_counted (counted r.ready c.requires.chosen a.edition told q) c.answer_for.ensures
          (c.list_starts.ensures ∙ ap (λ (cs : List ℕ). overlaid cs a.starts.now)
          (starts_are r.ready c.requires.chosen a.edition told q));
      subaccumulation_unchanged = restored c.requires.fresh r c.make_plain.ensures;
    }
