-- `reading::judge` meets its contract: each return is at the first check that fails.
-- Assumes nothing.
use mathlib.Core.Path.{◌≡◌, sym, ◌∙◌}
use mathlib.Core.Bool.{true}
use mathlib.Core.List.{List}
use Prim.Native.Nat.{ℕ, ◌≤◌}
use native.Mathlib.Omega.{arith}
use lib.ListN.{length}
use Rattle.spelling.specs.Format.{header_mark}
use Rattle.spelling.specs.Reading.{is_header, file_rows, file_cols}
use Rattle.spelling.proofs.Records.{record_is, sized}
use Rattle.reading.proofs.Judged.{no_header, Begun, no_sides, no_grid, no_list, by_records}
use Rattle.reading.proofs.judge.Goals as goal
use Rattle.reading.proofs.judge.Goals.{then-grid-rows-via-then-grid-rows, then-grid-rows-via-else-grid-rows+then-list-lt256}

fits : (file : List ℕ) → is_header file ≡ true → 6 ≤ length file
fits file h = (record_is header_mark 6 file h).fits

begun : (file : List ℕ) (rows cols : ℕ) → is_header file ≡ true → rows ≡ file_rows file → cols ≡ file_cols file
    → Begun file rows cols
begun file rows cols h r c = record { header = h; rows_read = r; cols_read = c }

pub returns-then-not-is_record : goal.returns-then-not-is_record
returns-then-not-is_record c =
    let a = c.args in
    no_header a.file.now a.grid a.list (sym c.is_record.ensures ∙ c.if-not-is_record.true)

pub number-rows-requires : goal.number-rows-requires
number-rows-requires c =
    let f = fits c.args.file.now (sym c.is_record.ensures ∙ c.if-not-is_record.false) in omega (arith, f)

pub number-cols-requires : goal.number-cols-requires
number-cols-requires c =
    let f = fits c.args.file.now (sym c.is_record.ensures ∙ c.if-not-is_record.false) in omega (arith, f)

pub returns-then-not-are_sheet_sides : goal.returns-then-not-are_sheet_sides
returns-then-not-are_sheet_sides c =
    let a = c.args in
    let b = begun a.file.now c.number-rows.result c.number-cols.result
    (sym c.is_record.ensures ∙ c.if-not-is_record.false) c.number-rows.ensures.same c.number-cols.ensures.same in
    no_sides b a.grid a.list (sym c.are_sheet_sides.ensures ∙ c.if-not-are_sheet_sides.true)

pub returns-then-grid-rows : goal.returns-then-grid-rows
returns-then-grid-rows c =
    let a = c.args in
    let b = begun a.file.now c.number-rows.result c.number-cols.result
    (sym c.is_record.ensures ∙ c.if-not-is_record.false) c.number-rows.ensures.same c.number-cols.ensures.same in
    let sides = sym c.are_sheet_sides.ensures ∙ c.if-not-are_sheet_sides.false in
    elim c.then-grid-rows.branch [
      | then-grid-rows-via-then-grid-rows w ↦ no_grid b a.grid a.list sides w.if-grid-rows.true
      | then-grid-rows-via-else-grid-rows+then-list-lt256 w ↦
          no_list b a.grid a.list sides w.if-grid-rows.false w.if-list-lt256.true
    ]

pub judge_records-requires : goal.judge_records-requires
judge_records-requires c =
    let s = sized c.number-rows.result c.number-cols.result
    (sym c.are_sheet_sides.ensures ∙ c.if-not-are_sheet_sides.false) in
    (fits c.args.file.now (sym c.is_record.ensures ∙ c.if-not-is_record.false), s.rows_small, s.cols_small)

pub returns : goal.returns
returns c =
    let a = c.args in
    let b = begun a.file.now c.number-rows.result c.number-cols.result
    (sym c.is_record.ensures ∙ c.if-not-is_record.false) c.number-rows.ensures.same c.number-cols.ensures.same in
    c.judge_records.ensures
    ∙ by_records b a.grid a.list (sym c.are_sheet_sides.ensures ∙ c.if-not-are_sheet_sides.false) c.if-grid-rows.false
    c.if-list-lt256.false
