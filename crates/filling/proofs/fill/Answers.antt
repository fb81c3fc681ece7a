-- `filling::fill` meets its contract: what each pass leaves is what the next asks.
-- Assumes nothing.
use mathlib.Core.Path.{sym}
use Rattle.lists.proofs.Kept.{kept_then}
use Rattle.counting.proofs.Rows.{counting_kept}
use Rattle.filling.proofs.Kept.{fillable_kept}
use Rattle.filling.proofs.Outlets.{flagged_none, looked_begin}
use Rattle.filling.proofs.Results.{outlets_within, settled_free, settled_filled, waits_ring, cleared_filled}
use Rattle.filling.proofs.fill.Goals as goal

-- beyond the cells every pass keeps what was lent
pub flag-requires : goal.flag-requires
flag-requires c =
    let f = fillable_kept (counting_kept c.count_all.ensures.counting) c.requires in
    record { fillable = f; flagged = flagged_none f c.count_all.ensures }

pub look_at_all-done-requires : goal.look_at_all-done-requires
look_at_all-done-requires c =
    let k = kept_then (counting_kept c.count_all.ensures.counting) c.flag.ensures.keeps in
    let f = fillable_kept k c.requires in
    record { fillable = f; looked = looked_begin f c.flag.ensures.flags }

pub returns-then-done-n : goal.returns-then-done-n
returns-then-done-n c =
    let k = kept_then (kept_then (counting_kept c.count_all.ensures.counting) c.flag.ensures.keeps)
    c.look_at_all-done.ensures.keeps in
    let f = fillable_kept k c.requires in
    record {
      answers = sym (waits_ring f _ c.look_at_all-done.ensures.looks
          (λ d. c.if-done-n.true d));
      leaves = cleared_filled f k c.clear.ensures;
    }

pub strip-requires : goal.strip-requires
strip-requires c =
    let k = kept_then (kept_then (counting_kept c.count_all.ensures.counting) c.flag.ensures.keeps)
    c.look_at_all-done.ensures.keeps in
    let f = fillable_kept k c.requires in
    (f.has_words, outlets_within f)

pub returns : goal.returns
returns c =
    let k = kept_then (kept_then (counting_kept c.count_all.ensures.counting) c.flag.ensures.keeps)
    c.look_at_all-done.ensures.keeps in
    let f = fillable_kept k c.requires in
    let d = c.if-done-n.false in
    let p = c.look_at_all-done.ensures.looks in
    record {
      answers = sym (settled_free f _ p d);
      leaves = settled_filled f _ p d k c.strip.ensures;
    }
