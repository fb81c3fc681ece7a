-- The number of each refusal, and the number that a result tells.
-- Assumes nothing.
use Rattle.std.specs.Prelude.{ℕ, Result, Ok, Err}
use Rattle.answers.specs.declared.Refusal.{Refusal}
use Rattle.answers.specs.declared.Refusal.TheVariants.{Header, SheetSides, SheetRoom, Row, SheetCode, Record, OutletOutside, OutletCount, AfterEnd, Sides, GridRoom, Code, Ring}
use Rattle.answers.specs.declared.Refusal.TheVariants.{Accumulation, NoOutlets, OutletOffGround, OutletTwice, Place, TooManyCells, WorkingSpace, StartsRoom, Start, Room, Table, Edition}

-- 01 and 02, The checks
abbrev pub refusal_number : Refusal → ℕ
refusal_number Header = 1
refusal_number SheetSides = 2
refusal_number SheetRoom = 3
refusal_number Row = 4
refusal_number SheetCode = 5
refusal_number Record = 6
refusal_number OutletOutside = 7
refusal_number OutletCount = 8
refusal_number AfterEnd = 9
refusal_number Sides = 10
refusal_number GridRoom = 11
refusal_number Code = 12
refusal_number Ring = 13
refusal_number Accumulation = 14
refusal_number NoOutlets = 15
refusal_number OutletOffGround = 16
refusal_number OutletTwice = 17
refusal_number Place = 18
refusal_number TooManyCells = 19
refusal_number WorkingSpace = 20
refusal_number StartsRoom = 21
refusal_number Start = 22
refusal_number Room = 23
refusal_number Table = 24
refusal_number Edition = 25

-- 0 where a call is accepted
abbrev pub number_told : {A : Type 0} → Result A Refusal → ℕ
number_told (Ok x) = 0
number_told (Err refusal) = refusal_number refusal
