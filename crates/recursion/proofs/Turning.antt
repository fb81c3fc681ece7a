-- The search from one neighbour to the next, by the numbers of the source.
-- Assumes nothing.
use mathlib.Core.Path.{◌≡◌, refl, sym, subst}
use mathlib.Core.List.{List, ◌∷◌}
use Prim.Native.Nat.{ℕ, suc, ◌+◌, ◌≤◌, ◌<◌}
use native.Mathlib.Omega.{arith}
use native.Mathlib.Decide.{dec_lt}
use lib.ListN.{drop}
use lib.Seq.{drop-cons}
use Rattle.ground.specs.Compass.{NE, dirs}
use Rattle.std.specs.Prelude.{Option, Some}
use Rattle.cells.specs.declared.Cell.{Cell}
use Rattle.moves.specs.Moves.{dir_at}
use Rattle.upstream.specs.Turns.{TurnsTo}
use Rattle.upstream.proofs.Turning.{found_there}
use Rattle.recursion.specs.declared.Turn.{Turn}
use Rattle.recursion.specs.Tracing.{turn_at, NoneThere, IsNext}

-- the directions from k on
pub dirs_from : (k : ℕ) → k < 8 → drop k dirs ≡ dir_at k ∷ drop (suc k) dirs
dirs_from k h = drop-cons dirs k NE h

-- what holds below n and at n holds below n + 1
pub one_further : (P : ℕ → Type 0) (k n : ℕ) → ((i : ℕ) → k ≤ i → i < n → P i) → P n
    → (i : ℕ) → k ≤ i → i < n + 1 → P i
one_further P k n f p i h l = elim (dec_lt i n) [ yes m ↦ f i h m | no m ↦ subst P (omega arith) p ]

-- a neighbour is found, and none was before it
pub next_found : {rows cols : ℕ} {codes outlets subaccumulations : List ℕ} {row col k n : ℕ} → k ≤ n → n < 8
    → NoneThere rows cols codes outlets row col k n
    → {s : Option Cell} → TurnsTo rows cols codes outlets row col n s → {x : Cell} → s ≡ Some x
    → {t : Turn} → t ≡ turn_at cols subaccumulations n x.row x.col
    → IsNext rows cols codes outlets subaccumulations row col k t
next_found {rows} {cols} {codes} {outlets} {subaccumulations} {row} {col} {k} a b f t {x} e q =
    subst (λ u. IsNext rows cols codes outlets subaccumulations row col k u) (sym q) (record {
      from = a;
      last = b;
      skipped = f;
      there = found_there t e;
      row_in = t.row_in x e;
      col_in = t.col_in x e;
      is_turn = refl;
    })
