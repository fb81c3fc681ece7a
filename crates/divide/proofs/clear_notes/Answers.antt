-- `divide::clear_notes` meets its contract. The invariant: the words so far have no notes.
-- Assumes nothing.
use native.Mathlib.Omega.{arith}
use lib.Seq.{length-take-le}
use Rattle.divide.proofs.Changing.{clears_none, clears_more, clears_all}
use Rattle.divide.proofs.clear_notes.Goals as goal

pub loop-word-init : goal.loop-word-init
loop-word-init c = clears_none

pub loop-word-preserved : goal.loop-word-preserved
loop-word-preserved c =
    let e = length-take-le c.args.n c.args.words.now c.requires in
    clears_more (omega arith) (omega arith) c.loop-word.invariant

pub returns : goal.returns
returns c = clears_all c.requires c.loop-word-test.false c.loop-word.invariant
