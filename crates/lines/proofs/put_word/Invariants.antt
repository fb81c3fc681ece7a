-- `lines::put_word` meets its contract: as many bytes of the word as were turned to are put.
-- Assumes nothing.
use mathlib.Core.Path.{◌≡◌}
use lib.ListN.{length, take}
use Rattle.lines.specs.Appending.{Appends}
use Rattle.lines.proofs.put_word.Given as goal

abbrev pub invariant-loop-byte : goal.invariant-loop-byte
invariant-loop-byte l =
    Appends (take l.byte-index l.word) l.at l.initial.text l.to l.text × (length l.text ≡ length l.initial.text)
