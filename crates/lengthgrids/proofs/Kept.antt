-- Only the places of the cells changed.
-- Assumes nothing.
use mathlib.Core.Path.{◌≡◌, refl, ◌∙◌}
use mathlib.Core.Bool.{Bool, true, false, cond}
use mathlib.Core.List.{List}
use Prim.Native.Nat.{ℕ, ◌<◌}
use native.Mathlib.Omega.{arith}
use lib.ListN.{set}
use Rattle.lists.specs.Slices.{Kept}
use Rattle.lists.proofs.Kept.{kept_all, kept_then, kept_set}
use Rattle.answers.specs.FlowLengths.{LengthGrids}
use Rattle.lengthgrids.specs.declared.Grids.{Grids}
use Rattle.lengthgrids.specs.Grids.{SameGrids, Room, GridsKept}

pub same_grids : {grids : Grids} → SameGrids grids grids
same_grids = record { down_straight = refl; down_diagonal = refl; up_straight = refl; up_diagonal = refl }

pub same_on : {a b c : Grids} → SameGrids a b → SameGrids b c → SameGrids a c
same_on k l = record {
  down_straight = l.down_straight ∙ k.down_straight;
  down_diagonal = l.down_diagonal ∙ k.down_diagonal;
  up_straight = l.up_straight ∙ k.up_straight;
  up_diagonal = l.up_diagonal ∙ k.up_diagonal;
}

pub kept_grids : {n : ℕ} {lent : LengthGrids} → GridsKept n lent lent
kept_grids = record {
  down_straight = kept_all;
  down_diagonal = kept_all;
  up_straight = kept_all;
  up_diagonal =
      kept_all;
}

pub kept_on : {n : ℕ} {a b c : LengthGrids} → GridsKept n a b → GridsKept n b c → GridsKept n a c
kept_on k l = record {
  down_straight = kept_then k.down_straight l.down_straight;
  down_diagonal = kept_then k.down_diagonal l.down_diagonal;
  up_straight = kept_then k.up_straight l.up_straight;
  up_diagonal = kept_then k.up_diagonal l.up_diagonal;
}

pub kept_room : {n : ℕ} {old new : LengthGrids} → Room n old → GridsKept n old new → Room n new
kept_room r k = record {
  down_straight = omega (arith, r.down_straight, k.down_straight.same_length);
  down_diagonal = omega (arith, r.down_diagonal, k.down_diagonal.same_length);
  up_straight = omega (arith, r.up_straight, k.up_straight.same_length);
  up_diagonal = omega (arith, r.up_diagonal, k.up_diagonal.same_length);
}

pub kept_if : {n : ℕ} {l m : List ℕ} (b : Bool) (i v : ℕ) → i < n → m ≡ cond b (set l i v) l → Kept n l m
kept_if true i v h e = rw e (kept_set i v h)
kept_if false i v h e = rw e kept_all
