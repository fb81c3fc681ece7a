-- `flowpath::path_length` meets its contract: beyond the grid and at a null cell there is nothing to draw.
-- Assumes nothing.
use mathlib.Core.Path.{sym, ◌∙◌}
use Rattle.moves.specs.Grids.{ground_of}
use Rattle.flowpath.proofs.Following.{placed_solid, not_placed}
use Rattle.flowpath.proofs.path_length.Goals as goal

pub follow-requires : goal.follow-requires
follow-requires c =
    let land = ground_of c.args.grid in
    record {
      surveyed = c.requires;
      start_value = placed_solid land c.args.start (sym c.is_placed.ensures ∙ c.if-not-is_placed.false);
    }

pub returns-then-not-is_placed : goal.returns-then-not-is_placed
returns-then-not-is_placed c =
    not_placed c.requires c.args.outlet c.args.start (sym c.is_placed.ensures ∙ c.if-not-is_placed.true)
