-- `tracing::search_at` meets its contract.
-- Assumes nothing.
use native.Mathlib.Omega.{arith}
use Rattle.tracing.proofs.Searching.{at_outlet, cells_there, searched_within, counted, starts_are}
use Rattle.tracing.proofs.search_at.Goals as goal

pub trace-requires : goal.trace-requires
trace-requires c =
    let e = c.split_number-cell.ensures in record { ready = c.requires.ready; on_ground = at_outlet c.requires.ready c.requires.chosen.0 e; col_in_bounds = omega (arith, cells_there c.requires.ready c.requires.chosen.0 e, c.requires.place_in_bounds) }

pub returns : goal.returns
returns c =
    let e = c.split_number-cell.ensures in
    let q = searched_within c.requires.ready c.requires.chosen.0 e c.trace.ensures.searched in
    record {
      counted = counted c.requires.ready c.requires.chosen.0 c.args.edition c.requires.chosen.1 q;
      starts = starts_are c.requires.ready c.requires.chosen.0 c.args.edition c.requires.chosen.1 q;
      all_cells = q.all_cells;
      few_paths = q.few_paths;
      only = record {
        same_length = c.trace.auto.work;
        rest = λ x h. c.trace.ensures.beyond x (omega (arith, h, cells_there c.requires.ready c.requires.chosen.0 e));
      };
    }
