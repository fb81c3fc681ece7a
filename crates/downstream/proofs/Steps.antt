-- The offset of a step, and the number of the cell that it leads to.
-- Assumes nothing.
use mathlib.Core.Path.{◌≡◌, refl, ap}
use mathlib.Core.Bool.{Bool, true, false, cond}
use mathlib.Core.Option.{Option, none, some}
use Prim.Native.Nat.{ℕ, zero, suc, ◌+◌, ◌*◌, ◌<◌}
use native.Mathlib.Nat.{add-mul}
use native.Mathlib.Omega.{arith}
use lib.ListN.{get_or}
use lib.Dec.{ltb}
use Rattle.ground.specs.Compass.{Dir, E, SE, S, SW, W, NW, N, NE, place_of, Shift, less, as_is, more, shifted, row_shift}
use Rattle.ground.specs.Compass.{col_shift}
use Rattle.ground.specs.Grid.{cell_at}
use Rattle.moves.specs.Moves.{shift_number}
use Rattle.downstream.specs.Offsets.{place_by, offset_of, offsets_of}

pub place_small : (d : Dir) → place_of d < 8
place_small E = omega arith
place_small SE = omega arith
place_small S = omega arith
place_small SW = omega arith
place_small W = omega arith
place_small NW = omega arith
place_small N = omega arith
place_small NE = omega arith

pub place_in : (o : Option Dir) → place_by o < 8
place_in none = omega arith
place_in (some d) = place_small d

-- the offset at a direction's place is the direction's
pub offset_at : (cols : ℕ) (d : Dir) → get_or (offsets_of cols) (place_of d) 0 ≡ offset_of cols d
offset_at cols E = refl
offset_at cols SE = refl
offset_at cols S = refl
offset_at cols SW = refl
offset_at cols W = refl
offset_at cols NW = refl
offset_at cols N = refl
offset_at cols NE = refl

-- a row or a column after a shift
pub shift_is : (s : Shift) (bound x z : ℕ) → shifted s bound x ≡ some z → z + 1 ≡ x + shift_number s
shift_is less bound zero z e = let w : ◌≡◌ {A = ℕ} 0 1 = cc in absurd (omega arith)
shift_is less bound (suc x) z e = let q : x ≡ z = cc in omega arith
shift_is as_is bound x z e = let q : x ≡ z = cc in omega arith
shift_is more bound x z e = go (ltb (suc x) bound) e
  where
    go : (b : Bool) → cond b (some (suc x)) none ≡ some z → z + 1 ≡ x + 2
    go true f = let q : suc x ≡ z = cc in omega arith
    go false f = let w : ◌≡◌ {A = ℕ} 0 1 = cc in absurd (omega arith)

-- the number of the cell that a step leads to
pub number_after : (rows cols row col : ℕ) (d : Dir) (y : ℕ)
    → cell_at cols (shifted (row_shift d) rows row) (shifted (col_shift d) cols col) ≡ some y
    → y + (cols + 1) ≡ row * cols + col + offset_of cols d
number_after rows cols row col d y e =
    go (shifted (row_shift d) rows row) (shifted (col_shift d) cols col) refl refl e
  where
    go : (r c : Option ℕ) → shifted (row_shift d) rows row ≡ r → shifted (col_shift d) cols col ≡ c
        → cell_at cols r c ≡ some y → y + (cols + 1) ≡ row * cols + col + offset_of cols d
    go none c p q f = let w : ◌≡◌ {A = ℕ} 0 1 = cc in absurd (omega arith)
    go (some r) none p q f = let w : ◌≡◌ {A = ℕ} 0 1 = cc in absurd (omega arith)
    go (some r) (some c) p q f =
        let same : r * cols + c ≡ y = cc in
        let a = shift_is (row_shift d) rows row r p in
        let b = shift_is (col_shift d) cols col c q in
        let m : (r + 1) * cols ≡ (row + shift_number (row_shift d)) * cols = ap (λ (n : ℕ). n * cols) a in
        omega (arith, same, b, m, add-mul r 1 cols, add-mul row (shift_number (row_shift d)) cols)
