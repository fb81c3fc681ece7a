-- `reading::tail_from` meets its contract. The loop's invariant: the records still to come give the number of all, and
-- the rest of the outlets.
-- Assumes nothing.
use mathlib.Core.Path.{◌≡◌, ◌∙◌}
use Prim.Native.Nat.{◌+◌, ◌-◌}
use native.Mathlib.Omega.{arith}
use Rattle.std.proofs.lemmas.Result.{err_from_is_err_and}
use Rattle.reading.proofs.Walking.{tail_on, tail_ends, tail_stop, tail_full}
use Rattle.reading.proofs.tail_from.Goals as goal

pub loop-count-preserved : goal.loop-count-preserved
loop-count-preserved c =
    let a = c.args in
    let l = c.loop-count in
    let p = rw c.in-Some.is at c.in_ok-next.ensures in
    let n : 257 - (l.count + 1) ≡ 257 - l.count - 1 = omega arith in
    let t = tail_on a.file.now a.rows a.cols l.here.at (257 - l.count) (omega arith) _ p in (
      omega (arith, p.passes.lands, p.passes.fits),
      rw n (l.invariant.1 ∙ t.same),
      rw n (omega (arith, l.invariant.2, t.more)),
    )

pub returns-in_default : goal.returns-in_default
returns-in_default c =
    let a = c.args in
    let l = c.loop-count in
    let p = rw c.in_default.is at c.in_ok-next.ensures in
    let t = tail_ends a.file.now a.rows a.cols l.here.at (257 - l.count) (omega arith) p in
    record { number = l.invariant.1 ∙ t.number; counted = omega (arith, l.invariant.2, t.counted) }

pub returns-in_err-next : goal.returns-in_err-next
returns-in_err-next c =
    let a = c.args in
    let l = c.loop-count in
    let p = err_from_is_err_and c.from_residual.result c.from_residual.ensures.1 in
    rw (p.1, p.2)
    (l.invariant.1 ∙ tail_stop a.file.now a.rows a.cols l.here.at (257 - l.count) _ (omega arith) c.in_err-next.ensures)

pub returns : goal.returns
returns c =
    let a = c.args in
    let l = c.loop-count in
    l.invariant.1 ∙ tail_full a.file.now a.rows a.cols l.here.at (257 - l.count) (omega arith)
