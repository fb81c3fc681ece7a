-- `reading::store_outlets` meets its contract: what is stored in the places lent is stored in the whole list.
-- Assumes nothing.
use mathlib.Core.Path.{◌≡◌, sym, ◌∙◌}
use Prim.Native.Nat.{◌+◌, ◌-◌}
use native.Mathlib.Omega.{arith}
use lib.ListN.{take, drop}
use lib.Seq.{length-take-le}
use Rattle.spelling.specs.Reading.{outlets_from}
use Rattle.spelling.proofs.Accepted.{outlets_long}
use Rattle.spelling.proofs.Parts.{part_stored}
use Rattle.reading.proofs.Stores.{outlets_next, outlets_stored, whole_stored}
use Rattle.reading.proofs.store_outlets.Goals as goal

pub loop-outlet-preserved : goal.loop-outlet-preserved
loop-outlet-preserved c =
    let a = c.args in
    let l = c.loop-outlet in
    let size = length-take-le a.count a.outlets.now (omega (arith, c.requires.1)) in
    let n : a.count - (l.outlet-index + 1) ≡ a.count - l.outlet-index - 1 = omega arith in (
      omega (arith, l.invariant.0),
      rw n
          (l.invariant.1
          ∙ outlets_next l.outlet-items a.file.now a.cols l.outlet-index l.here.at (a.count - l.outlet-index) _
          (omega arith) (rw (c.number.ensures.same, c.number-in-loop-outlet.ensures.same))),
    )

pub returns : goal.returns
returns c =
    let a = c.args in
    let l = c.loop-outlet in
    let new = outlets_from a.cols a.count (drop a.start.at a.file.now) in
    let size = length-take-le a.count a.outlets.now (omega (arith, c.requires.1)) in
    let long = outlets_long a.cols a.count (drop a.start.at a.file.now) in
    let same : l.outlet-items ≡ new =
    outlets_stored l.outlet-items a.file.now a.cols l.outlet-index l.here.at (a.count - l.outlet-index) (omega arith)
    ∙ sym l.invariant.1 ∙ whole_stored (take a.count a.outlets.now) new (omega arith) in
    part_stored 0 a.count a.outlets.now l.outlet-items (omega arith) (omega arith) ∙ rw same
