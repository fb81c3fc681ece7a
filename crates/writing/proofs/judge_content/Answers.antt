-- `writing::judge_content` meets its contract.
-- Assumes nothing.
use mathlib.Core.Path.{◌≡◌, sym}
use mathlib.Core.List.{List}
use Prim.Native.Nat.{ℕ}
use native.Mathlib.Omega.{arith}
use Rattle.std.proofs.lemmas.Result.{err_from_is_err_and}
use Rattle.answers.proofs.Refusals.{has_number}
use Rattle.answers.specs.Checks.{first_failed}
use Rattle.spelling.specs.Content.{content}
use Rattle.spelling.specs.Writing.{content_checks}
use Rattle.writing.proofs.Contents.{SmallSize, content_refused, size_small, no_room, has_room}
use Rattle.writing.proofs.judge_content.Goals as goal

small : (rows cols : ℕ) (codes outlets : List ℕ) → 0 ≡ first_failed (content_checks (content rows cols codes outlets))
    → SmallSize (content rows cols codes outlets)
small rows cols codes outlets e = size_small (content rows cols codes outlets) (sym e)

pub returns-in_err-check_content : goal.returns-in_err-check_content
returns-in_err-check_content c =
    let a = c.args in
    let p = err_from_is_err_and c.from_residual.result c.from_residual.ensures.1 in
    rw (p.1, p.2)
    (λ file q. content_refused (content a.rows a.cols a.codes.now a.outlets.now) _
    c.in_err-check_content.ensures (has_number c.in_err-check_content.field-0.0) file)

pub overflow_add-length : goal.overflow_add-length
overflow_add-length c =
    let a = c.args in
    omega (arith, (small a.rows a.cols a.codes.now a.outlets.now c.in_ok-check_content.ensures).cols)

pub overflow_mul-length : goal.overflow_mul-length
overflow_mul-length c =
    let a = c.args in
    omega (arith, (small a.rows a.cols a.codes.now a.outlets.now c.in_ok-check_content.ensures).rows)

pub overflow_add-length-2 : goal.overflow_add-length-2
overflow_add-length-2 c =
    let a = c.args in
    omega (arith, (small a.rows a.cols a.codes.now a.outlets.now c.in_ok-check_content.ensures).rows)

pub overflow_add-length-3 : goal.overflow_add-length-3
overflow_add-length-3 c =
    let a = c.args in
    let s = small a.rows a.cols a.codes.now a.outlets.now c.in_ok-check_content.ensures in
    omega (arith, s.rows, s.outlets)

pub returns-then-room-length : goal.returns-then-room-length
returns-then-room-length c =
    let a = c.args in
    λ file q. no_room (content a.rows a.cols a.codes.now a.outlets.now) (sym c.in_ok-check_content.ensures) file
    (omega (arith, c.if-room-length.true))

pub overflow_cast-result : goal.overflow_cast-result
overflow_cast-result c =
    let a = c.args in
    let s = small a.rows a.cols a.codes.now a.outlets.now c.in_ok-check_content.ensures in
    omega (arith, s.rows, s.outlets)

pub returns : goal.returns
returns c =
    let a = c.args in
    λ file q. has_room (content a.rows a.cols a.codes.now a.outlets.now) (sym c.in_ok-check_content.ensures) file
    (omega (arith, c.if-room-length.false))
