-- The words of the lent grid before the first outlet is flagged, and after the last.
-- Assumes nothing.
use mathlib.Core.Path.{◌≡◌, refl, ap, ◌∙◌}
use mathlib.Core.Bool.{true}
use mathlib.Core.List.{List, [], ◌∷◌}
use Prim.Native.Nat.{ℕ, ◌*◌}
use native.Mathlib.Omega.{arith}
use lib.ListN.{length}
use lib.Seq.{take-length}
use Rattle.lists.specs.Lists.{member}
use Rattle.ground.specs.Compass.{Dir}
use Rattle.ground.specs.Grid.{Grid, Link, grid_of, ground, inflows}
use Rattle.ground.specs.Accumulation.{total}
use Rattle.ground.specs.Subwatershed.{is_outlet}
use Rattle.ground.proofs.Cells.{ground_within}
use Rattle.ground.proofs.GridNetwork.{network}
use Rattle.ground.proofs.Agreement.{no_outlet}
use Rattle.moves.specs.Walks.{Flows}
use Rattle.counting.specs.Counting.{Counts}
use Rattle.counting.proofs.Words.{ground_word, null_word}
use Rattle.filling.specs.Packed.{one_each}
use Rattle.filling.specs.Filling.{Fillable, ups_cut, Flagged, Looked}
use Rattle.filling.proofs.Cut.{total_uncut}
use Rattle.filling.proofs.Flags.{cut_network}
use Rattle.filling.proofs.Passing.{begin}
use Rattle.filling.proofs.Flagging.{flagging_same}

-- a cell that another flows to
pub flows_ground : (g : Grid) (x y : ℕ) → Flows g x y → ground g y ≡ true
flows_ground g x y to = (network g).lands x (record { cell = y; step = to.0 }) to.1

module _ {rows cols : ℕ} {codes outlets l : List ℕ} (f : Fillable rows cols codes outlets l) where
  abbrev land : Grid
  land = grid_of rows cols codes

  -- ---- before the first outlet every word is as it was counted

  ones_all : (ks : List (Link Dir)) → total (inflows land) no_outlet one_each ks ≡ length ks
  ones_all [] = refl
  ones_all (k ∷ ks) = omega (arith, ones_all ks)

  pub flagged_none : {old : List ℕ} → Counts (grid_of rows cols codes) (rows * cols) old l
      → Flagged (grid_of rows cols codes) outlets l 0
  unfolding Flagged
  flagged_none c = record {
    is_word = λ x v. omega (
      arith,
      c.counted x (ground_within land x v),
      ground_word land x v,
      ones_all (inflows land x),
    );
    null_word = λ x h v. c.counted x h ∙ null_word land x v;
  }

  -- ---- and after the last the grid is looked at up to none

  pub looked_begin : Flagged (grid_of rows cols codes) outlets l (length outlets)
      → Looked (grid_of rows cols codes) outlets l 0 0
  unfolding Flagged Looked
  looked_begin p =
      let whole = flagging_same (λ c. ap (member c) (take-length outlets)) p in
      begin (cut_network land outlets)
      (λ x v. omega (
        arith,
        whole.is_word x v,
        total_uncut (is_outlet land outlets) (inflows land) (ups_cut land outlets) one_each (inflows land x),
      ))
      whole.null_word
