-- `lines::put` meets its contract.
-- Assumes nothing.
use Rattle.lines.proofs.Appending.{put_in, put_out}
use Rattle.lines.proofs.put.Goals as goal

pub returns-then-at-text : goal.returns-then-at-text
returns-then-at-text c = let a = c.args in put_in a.byte a.at a.text.now c.if-at-text.true

pub returns : goal.returns
returns c = let a = c.args in put_out a.byte a.at a.text.now c.if-at-text.false
