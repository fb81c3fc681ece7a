-- `lines::put_refused` meets its contract.
-- Assumes nothing.
use Rattle.lines.specs.Line.{refused_line}
use Rattle.lines.proofs.Appending.{appends_both}
use Rattle.lines.proofs.put_refused.Goals as goal

pub returns : goal.returns
unfolding refused_line
returns c =
    appends_both c.put_labelled-to.ensures c.put_word.ensures
