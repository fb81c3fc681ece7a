-- `report::check_each` meets its contract: what is left to ask answers for all.
-- Assumes nothing.
use mathlib.Core.Path.{◌≡◌}
use Prim.Native.Nat.{◌-◌}
use lib.ListN.{length}
use Rattle.answers.specs.Entries.{catchment}
use Rattle.report.specs.Desk.{first_number, numbers_from}
use Rattle.report.proofs.check_each.Given as goal

abbrev pub invariant-loop-place : goal.invariant-loop-place
invariant-loop-place l =
    let judged = catchment l.rows l.cols l.codes l.accumulation l.outlets in
    first_number (numbers_from judged l.place (length l.outlets - l.place))
    ≡ first_number (numbers_from judged 0 (length l.outlets))
