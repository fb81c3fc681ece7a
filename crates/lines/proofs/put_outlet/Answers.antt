-- `lines::put_outlet` meets its contract.
-- Assumes nothing.
use Rattle.lines.specs.Line.{outlet_line}
use Rattle.lines.proofs.Appending.{appends_both}
use Rattle.lines.proofs.put_outlet.Goals as goal

pub returns : goal.returns
unfolding outlet_line
returns c =
    appends_both c.put_labelled-a.ensures (appends_both c.put_labelled-b.ensures
    (appends_both c.put_labelled-c.ensures (appends_both c.put_labelled-d.ensures
    (appends_both c.put_labelled-e.ensures (appends_both c.put_labelled-f.ensures
    (appends_both c.put_labelled-g.ensures (appends_both c.put_labelled-h.ensures
    (appends_both c.put_labelled-i.ensures c.put_word.ensures))))))))
