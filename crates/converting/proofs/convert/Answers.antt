-- `converting::convert` meets its contract: each return is at the first check that fails, and the last after all.
-- Assumes nothing.
use mathlib.Core.Path.{refl, ap, ◌∙◌}
use native.Mathlib.Omega.{arith}
use Rattle.ground.specs.Tables.{table_of, codes_of}
use Rattle.answers.specs.Converting.{conversion}
use Rattle.answers.specs.Refusals.{refusal_number}
use Rattle.checks.proofs.Refused as refusal
use Rattle.converting.proofs.Converted.{not_tables, refused, fits, readable, told}
use Rattle.converting.proofs.convert.Goals as goal

pub returns-in_err-try_from : goal.returns-in_err-try_from
returns-in_err-try_from c =
    let a = c.args in
    let e = c.in_err-try_from.ensures in
    not_tables (conversion a.from a.to a.rows a.cols a.codes.now) a.converted.now (rw e.0)
    (refusal.told _ c.from_residual.result c.from_residual.ensures.1 ∙ ap refusal_number e.1)

pub returns-in_err-try_from-2 : goal.returns-in_err-try_from-2
returns-in_err-try_from-2 c =
    let a = c.args in
    let e = c.in_err-try_from-2.ensures in
    let exit = c.from_residual-in_err-try_from-2 in
    not_tables (conversion a.from a.to a.rows a.cols a.codes.now) a.converted.now (rw (c.in_ok-try_from.ensures.0, e.0))
    (refusal.told _ exit.result exit.ensures.1 ∙ ap refusal_number e.1)

pub returns-in_err-check_grid_in : goal.returns-in_err-check_grid_in
returns-in_err-check_grid_in c =
    let a = c.args in
    let call = conversion a.from a.to a.rows a.cols a.codes.now in
    let source = c.codes-source.ensures ∙ ap codes_of c.in_ok-try_from.ensures.1 in
    let exit = c.from_residual-in_err-check_grid_in in
    refused call a.converted.now c.in_ok-try_from.ensures.0 c.in_ok-try_from-2.ensures.0
    (refusal.told _ exit.result exit.ensures.1 ∙ c.in_err-check_grid_in.ensures (table_of a.from) source)
    (refusal.not_0 _ exit.result exit.ensures.1)

-- the sizes pass, which is all that the next two ask
pub overflow_mul-rows : goal.overflow_mul-rows
overflow_mul-rows c =
    let a = c.args in
    let call = conversion a.from a.to a.rows a.cols a.codes.now in
    let source = c.codes-source.ensures ∙ ap codes_of c.in_ok-try_from.ensures.1 in
    let sizes = c.check_grid_in.ensures (table_of a.from) source in
    omega (arith, fits call a.converted.now c.in_ok-try_from.ensures.0 c.in_ok-try_from-2.ensures.0 sizes (grind arith))

pub rewrite-requires : goal.rewrite-requires
rewrite-requires c =
    let a = c.args in
    let call = conversion a.from a.to a.rows a.cols a.codes.now in
    let source = c.codes-source.ensures ∙ ap codes_of c.in_ok-try_from.ensures.1 in
    let target = c.codes-target.ensures ∙ ap codes_of c.in_ok-try_from-2.ensures.1 in
    let is = c.check_grid_in.ensures (table_of a.from) source in
    readable call a.converted.now c.in_ok-try_from.ensures.0 c.in_ok-try_from-2.ensures.0 is (grind arith) refl source target

pub returns : goal.returns
returns c =
    let a = c.args in
    let call = conversion a.from a.to a.rows a.cols a.codes.now in
    let source = c.codes-source.ensures ∙ ap codes_of c.in_ok-try_from.ensures.1 in
    let target = c.codes-target.ensures ∙ ap codes_of c.in_ok-try_from-2.ensures.1 in
    let passes = c.check_grid_in.ensures (table_of a.from) source in
    told call a.converted.now c.in_ok-try_from.ensures.0 c.in_ok-try_from-2.ensures.0 passes (grind arith) (grind arith) source
    target c.rewrite.ensures
