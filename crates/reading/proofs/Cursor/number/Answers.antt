-- `reading::Cursor::number` meets its contract: both bytes count.
-- Assumes nothing.
use native.Mathlib.Omega.{arith}
use Rattle.reading.proofs.Bytes.{number_is}
use Rattle.reading.proofs.Cursor.number.Goals as goal

pub returns : goal.returns
returns c =
    let a = c.args in
    let n = number_is a.file.now a.self.at a.skip in
    record { same = omega (arith, c.from_le_bytes.ensures, c.from.ensures, n); small = omega arith }
