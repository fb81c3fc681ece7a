-- `reading::Cursor::is_record` meets its contract.
-- Assumes nothing.
use mathlib.Core.Path.{◌∙◌}
use lib.ListN.{drop}
use Rattle.std.proofs.lemmas.List.{take_rest}
use Rattle.reading.proofs.Bytes.{no_room, by_mark}
use Rattle.reading.proofs.Cursor.is_record.Goals as goal

pub returns-then-size-rest : goal.returns-then-size-rest
returns-then-size-rest c =
    let a = c.args in
    let rest = take_rest a.file.now a.self.at in
    (rw rest at c.starts_with.ensures.value)
    ∙ by_mark (drop a.self.at a.file.now) a.letters.now a.size (rw rest at c.if-size-rest.true) c.requires.0 c.told-letters

pub returns-else-size-rest : goal.returns-else-size-rest
returns-else-size-rest c =
    let a = c.args in
    let rest = take_rest a.file.now a.self.at in
    rw rest (no_room (drop a.self.at a.file.now) a.letters.now a.size (rw rest at c.if-size-rest.false))
