-- The four grids while the traversal goes through the subwatersheds. A cell has its downstream length when it is
-- entered; its upstream length grows with each tributary that is left. An outlet's mark stands in the grid of diagonal
-- steps downstream. Assumes nothing.
use Rattle.std.specs.Prelude.{◌≡◌, Bool, true, false, ◌⊎◌, List, ℕ, ◌+◌, ◌*◌, ◌≤◌, ◌<◌, ◌^◌, length, get_or, take, eqb}
use Rattle.std.proofs.Math.Option.{some}
use Rattle.lists.specs.Lists.{member, how_many, different}
use Rattle.lengths.specs.declared.Length.{Length}
use Rattle.lengths.specs.Rule.{counts, plus_step, is_shorter}
use Rattle.ground.specs.Compass.{Dir, opposite, step_of}
use Rattle.ground.specs.Grid.{Grid, grid_of, cell_count, ground, next}
use Rattle.ground.specs.Accumulation.{agrees}
use Rattle.ground.specs.Subwatershed.{is_outlet}
use Rattle.ground.specs.FlowLengths.{upstream_length, arrival}
use Rattle.answers.specs.FlowLengths.{LengthGrids}
use Rattle.moves.specs.Lent.{LentGrid}
use Rattle.traversal.specs.Traversal.{Tributary, Traversal, Here}
use Rattle.lengthgrids.specs.Grids.{Room, length_below, length_above}

-- a grid of which some accumulation agrees, few outlets on its ground, none of them twice, and room for the lengths
pub record Climbable (rows cols : ℕ) (codes outlets : List ℕ) (lent : LengthGrids) : Type 0 where
  pub grid : LentGrid rows cols codes
  pub some_cols : 0 < cols
  pub room : Room (rows * cols) lent
  pub on_ground : (j : ℕ) → j < length outlets → ground (grid_of rows cols codes) (get_or outlets j 0) ≡ true
  pub few_outlets : length outlets ≤ 256
  pub are_different : different outlets ≡ true
  pub accumulation : List ℕ
  pub agreement : agrees (grid_of rows cols codes) accumulation ≡ true

-- ---- the lengths that the grids hold

-- downstream, and upstream
abbrev pub down_at : LengthGrids → ℕ → Length
down_at lent c = length_below lent.down_straight lent.down_diagonal c

abbrev pub up_at : LengthGrids → ℕ → Length
up_at lent c = length_above lent.up_straight lent.up_diagonal c

-- how many cells have no length downstream, nor a mark
abbrev pub blanks : ℕ → List ℕ → List ℕ → ℕ
blanks n straights diagonals = how_many (λ c. eqb (get_or straights c 0 + get_or diagonals c 0) 0) n

module _ (g : Grid) (outlets : List ℕ) where
  -- a length is that of a tributary of c which is left, plus its step
  pub record FromLeft (left : ℕ → Bool) (c : ℕ) (l : Length) : Type 0 where
    pub dir : Dir
    pub cell : ℕ
    pub flows : Tributary (next g) (is_outlet g outlets) c dir cell
    pub is_left : left cell ≡ true
    pub is_length : l ≡ plus_step (upstream_length g outlets cell) (step_of (opposite dir))

  -- it is the greatest of these; 0 where none is left
  pub record GreatestLeft (left : ℕ → Bool) (c : ℕ) (l : Length) : Type 0 where
    pub bound : (d : Dir) (y : ℕ) → Tributary (next g) (is_outlet g outlets) c d y → left y ≡ true
        → is_shorter l (plus_step (upstream_length g outlets y) (step_of (opposite d))) ≡ false
    pub attained : (l ≡ counts 0 0) ⊎ FromLeft left c l

  -- the downstream length of a cell is held
  pub record Arrived (lent : LengthGrids) (c : ℕ) : Type 0 where
    pub outlet : ℕ
    pub arrives : arrival g outlets c ≡ some (record { cell = outlet; len = down_at lent c })

  -- what the grids hold of the cells that are entered, and of the others
  pub record Given (t : Traversal (next g) (is_outlet g outlets)) (lent : LengthGrids) : Type 0 where
    pub arrived : (c : ℕ) → t.entered c ≡ true → Arrived lent c
    pub no_straight : (c : ℕ) → c < cell_count g → t.entered c ≡ false → get_or lent.down_straight c 0 ≡ 0
    pub no_diagonal : (c : ℕ) → c < cell_count g → t.entered c ≡ false → is_outlet g outlets c ≡ false
        → get_or lent.down_diagonal c 0 ≡ 0
    pub marked : (c : ℕ) → is_outlet g outlets c ≡ true → get_or lent.down_diagonal c 0 ≡ 2 ^ 31
    pub unmarked : (c : ℕ) → c < cell_count g → is_outlet g outlets c ≡ false → get_or lent.down_diagonal c 0 < 2 ^ 31
    pub reached : (c : ℕ) → c < cell_count g → GreatestLeft t.left c (up_at lent c)

  -- the subwatersheds of the first j outlets are left, and no other is begun
  pub record Resting (j : ℕ) (lent : LengthGrids) : Type 0 where
    pub traversal : Traversal (next g) (is_outlet g outlets)
    pub given : Given traversal lent
    pub are_left : (c : ℕ) → member c (take j outlets) ≡ true → traversal.left c ≡ true
    pub are_begun : (c : ℕ) → is_outlet g outlets c ≡ true → traversal.entered c ≡ true → member c (take j outlets) ≡
        true

  -- and the next is begun, and the traversal at one of its cells
  pub record Climbing (j x k : ℕ) (lent : LengthGrids) : Type 0 where
    pub traversal : Traversal (next g) (is_outlet g outlets)
    pub here : Here (next g) (is_outlet g outlets) traversal x k
    pub given : Given traversal lent
    pub are_left : (c : ℕ) → member c (take j outlets) ≡ true → traversal.left c ≡ true
    pub are_begun : (c : ℕ) → is_outlet g outlets c ≡ true → traversal.entered c ≡ true
        → member c (take (j + 1) outlets) ≡ true
