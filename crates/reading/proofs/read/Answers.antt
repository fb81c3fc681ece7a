-- `reading::read` meets its contract: refused, nothing is stored; accepted, all that the file holds.
-- Assumes nothing.
use mathlib.Core.Path.{◌≡◌, refl}
use mathlib.Core.List.{List}
use Prim.Native.Nat.{ℕ}
use native.Mathlib.Omega.{arith}
use lib.ListN.{length}
use Rattle.std.specs.Prelude.{Ok}
use Rattle.std.proofs.lemmas.Grind.{common_steps}
use Rattle.std.proofs.lemmas.Result.{err_from_is_err_and}
use Rattle.answers.proofs.Refusals.{has_number}
use Rattle.spelling.specs.declared.Sheet.{Sheet}
use Rattle.spelling.specs.Reading.{sheet_told, read_answer}
use Rattle.reading.proofs.Stored.{nothing_stored, Storable, storable, reads_as}
use Rattle.reading.proofs.read.Goals as goal

accepted : (file grid list : List ℕ) (s : Sheet) → sheet_told (Ok s) ≡ read_answer file (length grid) (length list)
    → Storable file grid list (Ok s) s.rows s.cols s.outlets
accepted file grid list s e = storable file grid list (Ok s) e refl s.rows s.cols s.outlets refl refl refl

pub returns-in_err-sheet : goal.returns-in_err-sheet
returns-in_err-sheet c =
    let a = c.args in
    let p = err_from_is_err_and c.from_residual.result c.from_residual.ensures.1 in
    rw (p.1, p.2)
    (reads_as (grind (arith, common_steps)) (grind (arith, common_steps))
    (nothing_stored a.file.now _ _ _ c.in_err-sheet.ensures (has_number c.in_err-sheet.field-0.0)))

pub overflow_mul-tail : goal.overflow_mul-tail
overflow_mul-tail c =
    let a = c.args in
    let s = accepted a.file.now _ _ c.in_ok-sheet.sheet c.in_ok-sheet.ensures in
    omega (arith, s.few_bytes)

pub overflow_add-tail-2 : goal.overflow_add-tail-2
overflow_add-tail-2 c =
    let a = c.args in
    let s = accepted a.file.now _ _ c.in_ok-sheet.sheet c.in_ok-sheet.ensures in
    omega (arith, s.few_bytes)

pub store_codes-requires : goal.store_codes-requires
store_codes-requires c =
    let a = c.args in
    let s = accepted a.file.now _ _ c.in_ok-sheet.sheet c.in_ok-sheet.ensures in
    (omega (arith, s.rows_fit), omega (arith, s.has_grid))

pub store_outlets-requires : goal.store_outlets-requires
store_outlets-requires c =
    let a = c.args in
    let s = accepted a.file.now _ _ c.in_ok-sheet.sheet c.in_ok-sheet.ensures in
    (omega (arith, s.outlets_fit), omega (arith, s.has_list), s.cols_small)

pub returns : goal.returns
returns c =
    let a = c.args in
    let s = accepted a.file.now _ _ c.in_ok-sheet.sheet c.in_ok-sheet.ensures in
    reads_as (grind (arith, common_steps)) (grind (arith, common_steps))
    (s.stored _ _ c.store_codes.ensures c.store_outlets.ensures)
