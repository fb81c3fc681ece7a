-- `lines::put_catchment` meets its contract.
-- Assumes nothing.
use Rattle.lines.specs.Line.{catchment_line}
use Rattle.lines.proofs.Appending.{appends_both}
use Rattle.lines.proofs.put_catchment.Goals as goal

pub returns : goal.returns
unfolding catchment_line
returns c =
    appends_both c.put_labelled-a.ensures (appends_both c.put_labelled-b.ensures
    (appends_both c.put_labelled-c.ensures c.put_word.ensures))
