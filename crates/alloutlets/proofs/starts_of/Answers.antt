-- `alloutlets::starts_of` meets its contract.
-- Assumes nothing.
use mathlib.Core.Path.{ap}
use Prim.Native.Nat.{ℕ}
use native.Mathlib.Omega.{arith}
use borrow.Author.Rules.{rules}
use Rattle.alloutlets.proofs.Parts.{part_within, part_begins, part_some, part_is}
use Rattle.alloutlets.proofs.starts_of.Goals as goal

pub overflow_add-result : goal.overflow_add-result
overflow_add-result c =
    search (rules, part_within c.args.starts.now c.args.counts.now c.args.choice c.part_at-part.ensures)

pub offset_bounds-starts-part : goal.offset_bounds-starts-part
offset_bounds-starts-part c =
    search (rules, part_within c.args.starts.now c.args.counts.now c.args.choice c.part_at-part.ensures)

pub slice_bounds-result-end : goal.slice_bounds-result-end
slice_bounds-result-end c =
    search (rules, part_within c.args.starts.now c.args.counts.now c.args.choice c.part_at-part.ensures)

pub returns : goal.returns
returns c =
    let a = c.args in
    let e = c.part_at-part.ensures in
    record {
      holds = part_is a.starts.now a.counts.now a.choice e;
      begins = λ h. ap (λ (n : ℕ). (a.starts.ref_ptr.0, n)) (omega (
        arith,
        part_begins a.starts.now a.counts.now a.choice e
            (part_some a.starts.now a.counts.now a.choice e h),
      ));
    }
