-- `progress::meet` meets its contract: each return is one case of a length met.
-- Assumes nothing.
use mathlib.Core.Path.{sym, ◌∙◌}
use Rattle.progress.specs.Starts.{kept}
use Rattle.progress.proofs.Kept.{
  met_shorter,
  met_longer,
  met_same,
  restarted,
  forgotten,
  joined,
  first_met,
  some_kept,
}
use Rattle.progress.proofs.meet.Goals as goal

pub returns-then-p-eq0 : goal.returns-then-p-eq0
returns-then-p-eq0 c =
    let a = c.args in
    let r = c.restart in
    restarted a.work.now a.end a.cell a.len a.p c.requires.one_more c.requires.within r.result
    r.new.work r.ensures.0 r.ensures.1
    (first_met a.work.now a.end a.cell a.len a.p c.requires.one_more c.requires.within
    c.if-p-eq0.true)

pub returns-in-Less : goal.returns-in-Less
returns-in-Less c =
    let a = c.args in
    forgotten a.work.now a.end a.cell a.len a.p c.requires.one_more c.requires.within
    (met_shorter a.p.greatest (kept a.work.now a.end a.p.paths)
    (some_kept a.work.now a.end a.cell a.len a.p c.requires.one_more c.requires.within
    c.if-p-eq0.false) a.len a.cell
    (sym c.compare.ensures ∙ c.in-Less.is))

pub returns-in-Greater : goal.returns-in-Greater
returns-in-Greater c =
    let a = c.args in
    let r = c.restart-in-Greater in
    restarted a.work.now a.end a.cell a.len a.p c.requires.one_more c.requires.within r.result
    r.new.work r.ensures.0 r.ensures.1
    (met_longer a.p.greatest (kept a.work.now a.end a.p.paths)
    (some_kept a.work.now a.end a.cell a.len a.p c.requires.one_more c.requires.within
    c.if-p-eq0.false) a.len a.cell
    (sym c.compare.ensures
    ∙ c.in-Greater.is))

pub returns-in-Equal : goal.returns-in-Equal
returns-in-Equal c =
    let a = c.args in
    let r = c.join in
    joined a.work.now a.end a.cell a.len a.p c.requires.one_more c.requires.within r.result
    r.new.work r.ensures.0 r.ensures.1
    (met_same a.p.greatest (kept a.work.now a.end a.p.paths)
    (some_kept a.work.now a.end a.cell a.len a.p c.requires.one_more c.requires.within
    c.if-p-eq0.false) a.len a.cell
    (sym c.compare.ensures
    ∙ c.in-Equal.is))
