-- `progress::visit` meets its contract: one more cell is counted, and a headwater meets its length.
-- Assumes nothing.
use Rattle.progress.proofs.Kept.{visited_met, visited_past}
use Rattle.progress.proofs.visit.Goals as goal

pub meet-requires : goal.meet-requires
meet-requires c =
    let r = c.requires.0 in
    record { one_more = r.one_more; within = r.within; few_paths = r.few_paths }

pub returns-then-met : goal.returns-then-met
returns-then-met c =
    let a = c.args in
    let m = c.meet in
    visited_met a.work.now m.new.work a.end a.cell a.met a.len a.p m.result
    c.if-met.true m.ensures

pub returns : goal.returns
returns c =
    let a = c.args in
    visited_past a.work.now a.end a.cell a.met a.len a.p c.if-met.false
