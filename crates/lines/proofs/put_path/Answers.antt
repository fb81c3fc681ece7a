-- `lines::put_path` meets its contract.
-- Assumes nothing.
use Rattle.lines.specs.Line.{path_line}
use Rattle.lines.proofs.Appending.{appends_both}
use Rattle.lines.proofs.put_path.Goals as goal

pub returns : goal.returns
unfolding path_line
returns c =
    appends_both c.put_labelled-a.ensures (appends_both c.put_labelled-b.ensures c.put_word.ensures)
