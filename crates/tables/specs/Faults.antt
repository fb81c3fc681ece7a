-- Check 12 of one byte.
-- Assumes nothing.
use Rattle.std.specs.Prelude.{Bool, cond, ℕ}

-- in a number: 0 if it is passed, else 1
abbrev pub fault_of : Bool → ℕ
fault_of passes = cond passes 0 1
