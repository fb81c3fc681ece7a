-- A traversal of subwatersheds without a stack, over any network: which cells it has entered and which it has left, and
-- where it is. It enters a cell by one of its tributaries before the next, and leaves it when all of them are left.
-- Assumes nothing.
use Rattle.std.specs.Prelude.{◌≡◌, Bool, true, false, ℕ, ◌≤◌, ◌<◌}
use Rattle.std.proofs.Math.Option.{Option, some}
use Rattle.ground.specs.Compass.{Dir, opposite, place_of}
use Rattle.ground.specs.Grid.{Link}

module _ (next : ℕ → Option (Link Dir)) (outlet : ℕ → Bool) where
  -- a cell flows in from the neighbour in a direction, and is no outlet
  pub record Tributary (x : ℕ) (d : Dir) (y : ℕ) : Type 0 where
    pub flows : next y ≡ some (record { cell = x; step = opposite d })
    pub not_outlet : outlet y ≡ false

  -- the cells that are entered, and of these the cells that are left
  pub record Traversal : Type 0 where
    pub entered : ℕ → Bool
    pub left : ℕ → Bool
    pub left_entered : (c : ℕ) → left c ≡ true → entered c ≡ true
    -- with a cell all above it is left
    pub above_left : (c : ℕ) (d : Dir) (y : ℕ) → Tributary c d y → left c ≡ true → left y ≡ true
    -- a cell is entered from the cell below it
    pub from_below : (c : ℕ) (d : Dir) (y : ℕ) → Tributary c d y → entered y ≡ true → entered c ≡ true
    pub has_below : (c : ℕ) → entered c ≡ true → outlet c ≡ false → (x : ℕ) × (d : Dir) × Tributary x d c
    -- when a tributary is entered, those before it are left
    pub in_order : (c : ℕ) (d e : Dir) (y z : ℕ) → Tributary c d y → Tributary c e z → place_of d < place_of e
        → entered z ≡ true → left y ≡ true

  -- it is at a cell, and turns to the neighbours from the k-th on
  pub record Here (t : Traversal) (x k : ℕ) : Type 0 where
    pub is_entered : t.entered x ≡ true
    pub not_left : t.left x ≡ false
    pub before : (d : Dir) (y : ℕ) → Tributary x d y → place_of d < k → t.left y ≡ true
    pub ahead : (d : Dir) (y : ℕ) → Tributary x d y → k ≤ place_of d → t.entered y ≡ false
