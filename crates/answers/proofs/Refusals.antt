-- No refusal has the number 0, so the number tells whether a call is accepted.
-- Assumes nothing.
use Rattle.std.proofs.Common.{◌≡◌, refl, ℕ, Result, Ok, Err}
use native.Mathlib.Omega.{arith}
use Rattle.answers.specs.declared.Refusal.{Refusal}
use Rattle.answers.specs.declared.Refusal.TheVariants.{Header, SheetSides, SheetRoom, Row, SheetCode, Record, OutletOutside, OutletCount, AfterEnd, Sides, GridRoom, Code, Ring}
use Rattle.answers.specs.declared.Refusal.TheVariants.{Accumulation, NoOutlets, OutletOffGround, OutletTwice, Place, TooManyCells, WorkingSpace, StartsRoom, Start, Room, Table, Edition}
use Rattle.answers.specs.Refusals.{refusal_number, number_told}

pub has_number : (refusal : Refusal) → refusal_number refusal ≡ 0 → ⊥
has_number Header e = omega (arith, e)
has_number SheetSides e = omega (arith, e)
has_number SheetRoom e = omega (arith, e)
has_number Row e = omega (arith, e)
has_number SheetCode e = omega (arith, e)
has_number Record e = omega (arith, e)
has_number OutletOutside e = omega (arith, e)
has_number OutletCount e = omega (arith, e)
has_number AfterEnd e = omega (arith, e)
has_number Sides e = omega (arith, e)
has_number GridRoom e = omega (arith, e)
has_number Code e = omega (arith, e)
has_number Ring e = omega (arith, e)
has_number Accumulation e = omega (arith, e)
has_number NoOutlets e = omega (arith, e)
has_number OutletOffGround e = omega (arith, e)
has_number OutletTwice e = omega (arith, e)
has_number Place e = omega (arith, e)
has_number TooManyCells e = omega (arith, e)
has_number WorkingSpace e = omega (arith, e)
has_number StartsRoom e = omega (arith, e)
has_number Start e = omega (arith, e)
has_number Room e = omega (arith, e)
has_number Table e = omega (arith, e)
has_number Edition e = omega (arith, e)

-- told as 0, a call is accepted
pub told_ok : {A : Type 0} (r : Result A Refusal) → number_told r ≡ 0 → (x : A) × (r ≡ Ok x)
told_ok (Ok x) e = (x, refl)
told_ok (Err refusal) e = absurd (has_number refusal e)
