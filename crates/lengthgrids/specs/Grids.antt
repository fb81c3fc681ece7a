-- The four grids of flow lengths while at work: what is lent, what they hold of a cell, and one length given.
-- Assumes nothing.
use Rattle.std.specs.Prelude.{◌≡◌, cond, List, ℕ, ◌%◌, ◌≤◌, ◌<◌, ◌^◌, length, get_or, take, set}
use Rattle.lists.specs.Lists.{member}
use Rattle.lists.specs.Slices.{Kept}
use Rattle.lengths.specs.declared.Step.{Step}
use Rattle.lengths.specs.declared.Length.{Length}
use Rattle.lengths.specs.Rule.{counts, plus_step, is_shorter}
use Rattle.answers.specs.FlowLengths.{LengthGrids, length_grids}
use Rattle.lengthgrids.specs.declared.Grids.{Grids}

-- ---- what is lent

-- what the four hold
abbrev pub held_by : Grids → LengthGrids
held_by grids = length_grids grids.down_straight.now grids.down_diagonal.now grids.up_straight.now grids.up_diagonal.now

-- they are still the same four
pub record SameGrids (old new : Grids) : Type 0 where
  pub down_straight : new.down_straight.ghost_name ≡ old.down_straight.ghost_name
  pub down_diagonal : new.down_diagonal.ghost_name ≡ old.down_diagonal.ghost_name
  pub up_straight : new.up_straight.ghost_name ≡ old.up_straight.ghost_name
  pub up_diagonal : new.up_diagonal.ghost_name ≡ old.up_diagonal.ghost_name

-- each grid has a place for each of n cells
pub record Room (n : ℕ) (lent : LengthGrids) : Type 0 where
  pub down_straight : n ≤ length lent.down_straight
  pub down_diagonal : n ≤ length lent.down_diagonal
  pub up_straight : n ≤ length lent.up_straight
  pub up_diagonal : n ≤ length lent.up_diagonal

-- only the first n places of each changed
pub record GridsKept (n : ℕ) (old new : LengthGrids) : Type 0 where
  pub down_straight : Kept n old.down_straight new.down_straight
  pub down_diagonal : Kept n old.down_diagonal new.down_diagonal
  pub up_straight : Kept n old.up_straight new.up_straight
  pub up_diagonal : Kept n old.up_diagonal new.up_diagonal

-- the first j outlets have this in their places
pub record MarkedWith (n : ℕ) (outlets : List ℕ) (j mark : ℕ) (old new : List ℕ) : Type 0 where
  pub kept : Kept n old new
  pub marks : (x : ℕ) → get_or new x 0 ≡ cond (member x (take j outlets)) mark (get_or old x 0)

-- the places of the cells are cleared, and then the outlets marked
pub record Prepared (n : ℕ) (outlets : List ℕ) (old new : LengthGrids) : Type 0 where
  pub kept : GridsKept n old new
  pub down_straight : (x : ℕ) → x < n → get_or new.down_straight x 0 ≡ 0
  pub down_diagonal : (x : ℕ) → x < n → get_or new.down_diagonal x 0 ≡ cond (member x outlets) (2 ^ 31) 0
  pub up_straight : (x : ℕ) → x < n → get_or new.up_straight x 0 ≡ 0
  pub up_diagonal : (x : ℕ) → x < n → get_or new.up_diagonal x 0 ≡ 0

-- ---- the lengths of a cell

-- downstream, without the mark
abbrev pub length_below : List ℕ → List ℕ → ℕ → Length
length_below straights diagonals c = counts (get_or straights c 0) (get_or diagonals c 0 % 2 ^ 31)

-- upstream
abbrev pub length_above : List ℕ → List ℕ → ℕ → Length
length_above straights diagonals c = counts (get_or straights c 0) (get_or diagonals c 0)

-- ---- one length given

-- to the cell above: that of the cell below and the step
pub record GivesDown (x y : ℕ) (step : Step) (ds dd ds' dd' : List ℕ) : Type 0 where
  pub straights : ds' ≡ set ds y (plus_step (length_below ds dd x) step).straight
  pub diagonals : dd' ≡ set dd y (plus_step (length_below ds dd x) step).diagonal

-- to the cell below: that of the cell above and the step, if it is longer
pub record GivesUp (x y : ℕ) (step : Step) (us ud us' ud' : List ℕ) : Type 0 where
  pub straights : us' ≡ cond (is_shorter (length_above us ud y) (plus_step (length_above us ud x) step))
      (set us y (plus_step (length_above us ud x) step).straight) us
  pub diagonals : ud' ≡ cond (is_shorter (length_above us ud y) (plus_step (length_above us ud x) step))
      (set ud y (plus_step (length_above us ud x) step).diagonal) ud

-- two cells of two lists, and counts that one step more fits
pub record Countable (x y : ℕ) (straights diagonals : List ℕ) : Type 0 where
  pub x_straight : x < length straights
  pub x_diagonal : x < length diagonals
  pub y_straight : y < length straights
  pub y_diagonal : y < length diagonals
  pub straight_small : get_or straights x 0 < 2 ^ 31
  pub diagonal_small : get_or diagonals x 0 < 2 ^ 32
