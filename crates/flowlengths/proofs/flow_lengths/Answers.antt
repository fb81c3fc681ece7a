-- `flowlengths::flow_lengths` meets its contract: refused by the checks, or the lengths given.
-- Assumes nothing.
use mathlib.Core.Path.{refl, ◌∙◌}
use mathlib.Core.Logic.{inl}
use native.Mathlib.Omega.{arith}
use Rattle.answers.specs.Entries.{catchment}
use Rattle.answers.specs.FlowLengths.{length_grids, TellsFlowLengths}
use Rattle.lengthgrids.specs.Grids.{held_by}
use borrow.Author.Rules.{rules}
use Rattle.checks.proofs.Refused.{told as refusal_told, not_0}
use Rattle.flowlengths.proofs.Results.{refused, grid_lent, climbable, told}
use Rattle.flowlengths.proofs.flow_lengths.Goals as goal

pub check_outlets-requires : goal.check_outlets-requires
check_outlets-requires c = inl refl

pub returns-in_err-check_outlets : goal.returns-in_err-check_outlets
returns-in_err-check_outlets c =
    let a = c.args in
    let q = catchment a.rows a.cols a.codes.now a.accumulation.now a.outlets.now in
    let lent = length_grids a.down_straight.now a.down_diagonal.now a.up_straight.now a.up_diagonal.now in
    let is = c.from_residual.ensures.1 in
    refused q lent (refusal_told _ c.from_residual.result is ∙ c.in_err-check_outlets.ensures)
    (not_0 _ c.from_residual.result is)

pub invariant_of-give_all : goal.invariant_of-give_all
invariant_of-give_all c =
    let a = c.args in
    let q = catchment a.rows a.cols a.codes.now a.accumulation.now a.outlets.now in
    let lent = length_grids a.down_straight.now a.down_diagonal.now a.up_straight.now a.up_diagonal.now in
    record { lent = grid_lent q lent c.check_outlets.ensures (grind arith) }

pub give_all-requires : goal.give_all-requires
give_all-requires c =
    let a = c.args in
    let q = catchment a.rows a.cols a.codes.now a.accumulation.now a.outlets.now in
    let lent = length_grids a.down_straight.now a.down_diagonal.now a.up_straight.now a.up_diagonal.now in
    climbable q lent c.check_outlets.ensures (grind arith) refl

pub returns : goal.returns
returns c =
    let a = c.args in
    let q = catchment a.rows a.cols a.codes.now a.accumulation.now a.outlets.now in
    let lent = length_grids a.down_straight.now a.down_diagonal.now a.up_straight.now a.up_diagonal.now in
    let e : TellsFlowLengths q lent 0 (held_by c.give_all.new.grids) =
    told q lent c.check_outlets.ensures (grind arith) c.give_all.ensures.given in
    let k = c.give_all.ensures.same in
    record {
      answers = grind arith ∙ e.answers;
      leaves = search (rules, e.leaves, k.down_straight, k.down_diagonal, k.up_straight, k.up_diagonal);
    }
