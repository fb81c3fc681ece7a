-- `reading::row_at` meets its contract: each test decides it, or leaves it to the next.
-- Assumes nothing.
use mathlib.Core.Path.{◌≡◌, refl, sym, ◌∙◌}
use mathlib.Core.Bool.{true}
use mathlib.Core.List.{List}
use Prim.Native.Nat.{ℕ, ◌+◌, ◌≤◌}
use native.Mathlib.Omega.{arith}
use lib.ListN.{length, drop}
use Rattle.spelling.specs.Format.{row_mark}
use Rattle.spelling.specs.Reading.{is_record}
use Rattle.reading.proofs.Steps.{record_fits, part_codes, no_row, other_row, other_code, row_passes}
use Rattle.reading.proofs.row_at.Goals as goal
use Rattle.reading.proofs.row_at.Goals.{then-not-is_record-via-then-not-is_record}
use Rattle.reading.proofs.row_at.Goals.{then-not-is_record-via-else-not-is_record+then-number-row}

fits : (file : List ℕ) (at cols : ℕ) → is_record row_mark (4 + cols) (drop at file) ≡ true → at ≤ length file
    → at + (4 + cols) ≤ length file
fits file at cols e h = record_fits file at (4 + cols) 82 87 e h

pub returns-then-not-is_record : goal.returns-then-not-is_record
returns-then-not-is_record c =
    let a = c.args in
    elim c.then-not-is_record.branch [
      | then-not-is_record-via-then-not-is_record w ↦
          no_row a.file.now a.cols a.row a.here.at (sym c.is_record.ensures ∙ w.if-not-is_record.true)
      | then-not-is_record-via-else-not-is_record+then-number-row w ↦
          other_row a.file.now a.cols a.row a.here.at (sym c.is_record.ensures ∙ w.if-not-is_record.false)
          (λ e. w.if-number-row.true (w.number.ensures.same ∙ e))
    ]

pub number-requires : goal.number-requires
number-requires c =
    let a = c.args in
    omega (arith, fits a.file.now a.here.at a.cols (sym c.is_record.ensures ∙ c.if-not-is_record.false) c.requires.0)

pub slice_bounds-all_ours-end : goal.slice_bounds-all_ours-end
slice_bounds-all_ours-end c =
    let a = c.args in
    omega (arith, fits a.file.now a.here.at a.cols (sym c.is_record.ensures ∙ c.if-not-is_record.false) c.requires.0)

pub returns-then-not-all_ours : goal.returns-then-not-all_ours
returns-then-not-all_ours c =
    let a = c.args in
    let whole = sym c.is_record.ensures ∙ c.if-not-is_record.false in
    other_code a.file.now a.cols a.row a.here.at whole (sym c.number.ensures.same ∙ c.if-number-row.false)
    (sym (part_codes a.file.now a.cols a.here.at (fits a.file.now a.here.at a.cols whole c.requires.0))
    ∙ sym c.all_ours.ensures ∙ c.if-not-all_ours.true)

pub returns : goal.returns
returns c =
    let a = c.args in
    let whole = sym c.is_record.ensures ∙ c.if-not-is_record.false in
    row_passes a.file.now a.cols a.row a.here.at whole (sym c.number.ensures.same ∙ c.if-number-row.false)
    (sym (part_codes a.file.now a.cols a.here.at (fits a.file.now a.here.at a.cols whole c.requires.0))
    ∙ sym c.all_ours.ensures ∙ c.if-not-all_ours.false)
    c.requires.0 _ refl
