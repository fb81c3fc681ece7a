-- `flowpath::meets_outlet` meets its contract: below the mark there is no outlet, and else the list tells.
-- Assumes nothing.
use mathlib.Core.Path.{sym}
use borrow.Author.Tests.{lt-leb}
use Rattle.flowpath.proofs.Marks.{no_outlet_below}
use Rattle.flowpath.proofs.meets_outlet.Goals as goal

pub returns-else-mark-accumulation : goal.returns-else-mark-accumulation
returns-else-mark-accumulation c =
    rw (lt-leb c.args.mark _ c.if-mark-accumulation.false)
    (sym (no_outlet_below c.args.cell c.requires.none_between c.if-mark-accumulation.false))
