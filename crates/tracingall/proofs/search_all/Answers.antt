-- `tracingall::search_all` meets its contract.
-- Assumes nothing.
use mathlib.Core.Path.{refl}
use native.Mathlib.Omega.{arith}
use Rattle.lists.proofs.Kept.{kept_then}
use Rattle.ground.specs.Grid.{grid_of}
use Rattle.passes.proofs.Counting.{kept_traceable}
use Rattle.tracingall.proofs.Deciding.{clears_all, total, searched_21, searched_0}
use Rattle.tracingall.proofs.search_all.Goals as goal

pub clear-requires : goal.clear-requires
clear-requires c =
    omega (arith, c.requires.end_value.0, c.requires.searchable.list.room, c.count_all-s.ensures.kept.same_length)

pub returns-then-starts-s : goal.returns-then-starts-s
returns-then-starts-s c =
    let a = c.args in
    let g = grid_of a.filled.grid.rows a.filled.grid.cols a.filled.grid.codes.now in
    rw c.number.ensures (searched_21 g a.filled.outlets.now a.edition c.count_all-s.ensures.counts refl
    (clears_all g a.filled.outlets.now c.requires.end_value.0 c.requires.searchable.list.room c.count_all-s.ensures.kept c.clear.ensures)
    c.if-starts-s.true)

pub list_all-requires : goal.list_all-requires
list_all-requires c =
    let a = c.args in
    let g = grid_of a.filled.grid.rows a.filled.grid.cols a.filled.grid.codes.now in record {
      searchable = record {
        ready = c.requires.searchable.ready;
        met = c.requires.searchable.met;
        list = kept_traceable c.requires.searchable.list c.count_all-s.ensures.kept;
      };
      outlets_in_bounds = (
        omega (
          arith,
          c.if-starts-s.false,
          total g a.filled.outlets.now a.edition c.count_all-s.ensures.counts
              refl,
        ),
        c.count_all-s.ensures.few_paths,
        c.requires.end_value.1,
      );
    }

pub clear-requires-2 : goal.clear-requires-2
clear-requires-2 c =
    omega (
      arith,
      c.requires.end_value.0,
      c.requires.searchable.list.room,
      c.count_all-s.ensures.kept.same_length,
      c.list_all.ensures.kept.same_length,
    )

pub returns : goal.returns
returns c =
    let a = c.args in
    let g = grid_of a.filled.grid.rows a.filled.grid.cols a.filled.grid.codes.now in
    let k = kept_then c.count_all-s.ensures.kept c.list_all.ensures.kept in
    searched_0 g a.filled.outlets.now a.edition c.count_all-s.ensures.counts refl
    (clears_all g a.filled.outlets.now c.requires.end_value.0 c.requires.searchable.list.room k c.clear-2.ensures) c.if-starts-s.false
    c.list_all.ensures
