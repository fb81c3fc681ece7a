-- `writing::write` meets its contract: refused, nothing is written; accepted, the spelling.
-- Assumes nothing.
use mathlib.Core.Path.{refl}
use Prim.Native.Nat.{ℕ}
use native.Mathlib.Omega.{arith}
use lib.ListN.{length-replicate}
use Rattle.std.specs.Prelude.{Ok}
use Rattle.std.proofs.lemmas.Grind.{common_steps}
use Rattle.spelling.specs.Content.{content}
use Rattle.spelling.proofs.Writable.{content_spellable, room, write_accepted}
use Rattle.writing.proofs.WholeSheet.{accepted_number, sheet_written, spelling_few}
use Rattle.writing.proofs.write.Goals as goal

pub put_sheet-requires : goal.put_sheet-requires
put_sheet-requires c =
    let a = c.args in
    let lent = content a.rows a.cols a.codes.now a.outlets.now in
    let e = accepted_number lent a.file.now (Ok c.in_ok-length.length) (c.in_ok-length.ensures a.file.now refl) refl in
    let w = content_spellable lent a.file.now e in
    write_accepted lent _ w (omega (arith, room lent a.file.now e, spelling_few w, length-replicate {A = ℕ} 8192 0))

pub returns : goal.returns
returns c =
    let a = c.args in
    sheet_written (content a.rows a.cols a.codes.now a.outlets.now) a.file.now (Ok c.in_ok-length.length)
    (c.in_ok-length.ensures a.file.now refl) refl (grind (arith, common_steps))
