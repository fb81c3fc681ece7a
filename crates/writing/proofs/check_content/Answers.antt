-- `writing::check_content` meets its contract: each return is at the first check that fails.
-- Assumes nothing.
use mathlib.Core.Path.{sym, ◌∙◌}
use mathlib.Core.Bool.{true, false}
use native.Mathlib.Omega.{arith}
use Rattle.spelling.specs.Content.{content}
use Rattle.writing.proofs.Contents.{other_sides, few_codes, other_code, many_outlets, by_cells}
use Rattle.writing.proofs.check_content.Goals as goal

pub returns-then-not-are_sheet_sides : goal.returns-then-not-are_sheet_sides
returns-then-not-are_sheet_sides c =
    let a = c.args in
    let lent = content a.rows a.cols a.codes.now a.outlets.now in
    other_sides lent
    (sym c.are_sheet_sides.ensures ∙ c.if-not-are_sheet_sides.true)

pub returns-then-codes-cells : goal.returns-then-codes-cells
returns-then-codes-cells c =
    let a = c.args in
    let lent = content a.rows a.cols a.codes.now a.outlets.now in
    few_codes lent (sym c.are_sheet_sides.ensures ∙ c.if-not-are_sheet_sides.false) c.if-codes-cells.true

pub returns-then-not-all_ours : goal.returns-then-not-all_ours
returns-then-not-all_ours c =
    let a = c.args in
    let lent = content a.rows a.cols a.codes.now a.outlets.now in
    other_code lent (sym c.are_sheet_sides.ensures ∙ c.if-not-are_sheet_sides.false)
    (omega (arith, c.if-codes-cells.false))
    (sym c.all_ours.ensures ∙ c.if-not-all_ours.true)

pub returns-then-outlets-gt256 : goal.returns-then-outlets-gt256
returns-then-outlets-gt256 c =
    let a = c.args in
    let lent = content a.rows a.cols a.codes.now a.outlets.now in
    many_outlets lent (sym c.are_sheet_sides.ensures ∙ c.if-not-are_sheet_sides.false)
    (omega (arith, c.if-codes-cells.false))
    (sym c.all_ours.ensures ∙ c.if-not-all_ours.false) (omega (arith, c.if-outlets-gt256.true))

pub returns-then-not-are_cells : goal.returns-then-not-are_cells
returns-then-not-are_cells c =
    let a = c.args in
    let lent = content a.rows a.cols a.codes.now a.outlets.now in
    by_cells lent (sym c.are_sheet_sides.ensures ∙ c.if-not-are_sheet_sides.false)
    (omega (arith, c.if-codes-cells.false))
    (sym c.all_ours.ensures ∙ c.if-not-all_ours.false) (omega (arith, c.if-outlets-gt256.false)) false
    (sym c.are_cells.ensures ∙ c.if-not-are_cells.true)

pub returns : goal.returns
returns c =
    let a = c.args in
    let lent = content a.rows a.cols a.codes.now a.outlets.now in
    by_cells lent (sym c.are_sheet_sides.ensures ∙ c.if-not-are_sheet_sides.false)
    (omega (arith, c.if-codes-cells.false))
    (sym c.all_ours.ensures ∙ c.if-not-all_ours.false) (omega (arith, c.if-outlets-gt256.false)) true
    (sym c.are_cells.ensures ∙ c.if-not-are_cells.false)
