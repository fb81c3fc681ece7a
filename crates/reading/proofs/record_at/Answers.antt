-- `reading::record_at` meets its contract: each test decides it, or leaves it to the next.
-- Assumes nothing.
use mathlib.Core.Path.{◌≡◌, refl, sym, ◌∙◌}
use mathlib.Core.Bool.{true}
use mathlib.Core.List.{List}
use Prim.Native.Nat.{ℕ, ◌+◌, ◌≤◌}
use native.Mathlib.Omega.{arith}
use lib.ListN.{length, drop}
use Rattle.spelling.specs.Reading.{is_outlet}
use Rattle.reading.proofs.Steps.{record_fits, more_after_end, not_outlet, beyond_rows, beyond_cols}
use Rattle.reading.proofs.Steps.{outlet_passes}
use Rattle.reading.proofs.record_at.Goals as goal
use Rattle.reading.proofs.record_at.Goals.{then-number-rows-via-then-number-rows}
use Rattle.reading.proofs.record_at.Goals.{then-number-rows-via-else-number-rows+then-number-cols}

fits : (file : List ℕ) (at : ℕ) → is_outlet (drop at file) ≡ true → at ≤ length file → at + 6 ≤ length file
fits file at e h = record_fits file at 6 79 84 e h

pub returns-then-file-here-ne2 : goal.returns-then-file-here-ne2
returns-then-file-here-ne2 c =
    let a = c.args in
    more_after_end a.file.now a.rows a.cols a.here.at (sym c.is_record.ensures ∙ c.if-is_record.true)
    c.if-file-here-ne2.true

pub returns-then-not-is_record : goal.returns-then-not-is_record
returns-then-not-is_record c =
    let a = c.args in
    not_outlet a.file.now a.rows a.cols a.here.at (sym c.is_record.ensures ∙ c.if-is_record.false)
    (sym c.is_record-2.ensures ∙ c.if-not-is_record.true)

pub number-requires : goal.number-requires
number-requires c =
    let a = c.args in
    omega (arith, fits a.file.now a.here.at (sym c.is_record-2.ensures ∙ c.if-not-is_record.false) c.requires)

pub number-requires-else-number-rows : goal.number-requires-else-number-rows
number-requires-else-number-rows c =
    let a = c.args in
    omega (arith, fits a.file.now a.here.at (sym c.is_record-2.ensures ∙ c.if-not-is_record.false) c.requires)

pub returns-then-number-rows : goal.returns-then-number-rows
returns-then-number-rows c =
    let a = c.args in
    let no_end = sym c.is_record.ensures ∙ c.if-is_record.false in
    let outlet = sym c.is_record-2.ensures ∙ c.if-not-is_record.false in
    elim c.then-number-rows.branch [
      | then-number-rows-via-then-number-rows w ↦
          beyond_rows a.file.now a.rows a.cols a.here.at no_end outlet
          (omega (arith, w.if-number-rows.true, c.number.ensures.same))
      | then-number-rows-via-else-number-rows+then-number-cols w ↦
          beyond_cols a.file.now a.rows a.cols a.here.at no_end outlet
          (omega (arith, w.if-number-rows.false, c.number.ensures.same))
          (omega (arith, w.if-number-cols.true, w.number-else-number-rows.ensures.same))
    ]

pub returns : goal.returns
returns c =
    let a = c.args in
    outlet_passes a.file.now a.rows a.cols a.here.at (sym c.is_record.ensures ∙ c.if-is_record.false)
    (sym c.is_record-2.ensures ∙ c.if-not-is_record.false)
    (omega (arith, c.if-number-rows.false, c.number.ensures.same))
    (omega (arith, c.if-number-cols.false, c.number-else-number-rows.ensures.same)) c.requires _ refl
