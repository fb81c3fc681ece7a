-- What the converter answers, and what it leaves in the lent grid.
-- Assumes nothing.
use Rattle.std.specs.Prelude.{◌≡◌, true, cond, List, [], ◌∷◌, ℕ, ◌*◌, ◌≤◌, length, take, eqb}
use Rattle.lists.specs.Slices.{overlaid}
use Rattle.ground.specs.Tables.{Table, is_table, table_of}
use Rattle.ground.specs.Grid.{Grid, grid_in, cell_count, ground, is_pond, flow, next}
use Rattle.ground.specs.Converting.{converted_codes}
use Rattle.answers.specs.Checks.{first_failed, check12, check24}
use Rattle.answers.specs.Entries.{grid_checks}

-- what the converter is lent to read: the numbers of two tables, and a grid of the first
pub record Conversion : Type 0 where
  pub from : ℕ
  pub to : ℕ
  pub rows : ℕ
  pub cols : ℕ
  pub codes : List ℕ

abbrev pub conversion : ℕ → ℕ → ℕ → ℕ → List ℕ → Conversion
conversion from to rows cols codes = record { from = from; to = to; rows = rows; cols = cols; codes = codes }

abbrev pub source : Conversion → Grid
source c = grid_in (table_of c.from) c.rows c.cols c.codes

-- 24; 10; 11 of two grids; 12
unfoldable pub convert_number : Conversion → List ℕ → ℕ
convert_number c lent = first_failed (check24 c.from c.to ∷ grid_checks (source c) (length lent ∷ []))

-- on 0 the codes of the other table; on refusal nothing changes
unfoldable pub convert_leaves : Conversion → List ℕ → List ℕ
convert_leaves c lent =
    cond (eqb (convert_number c lent) 0) (overlaid (converted_codes (source c) (table_of c.to)) lent) lent

pub record Converts (c : Conversion) (old : List ℕ) (number : ℕ) (new : List ℕ) : Type 0 where
  pub answers : number ≡ convert_number c old
  pub leaves : new ≡ convert_leaves c old

-- the converted grid, as it lies in the lent places
abbrev pub target : Conversion → List ℕ → Grid
target c new = grid_in (table_of c.to) c.rows c.cols new

-- WHAT AN ACCEPTED CALL COMES TO: the grid h converted from g
pub record Converted (g h : Grid) : Type 0 where
  -- each cell keeps its direction, or stays null or a pond
  pub same_direction : (x : ℕ) → flow h x ≡ flow g x
  pub same_ground : (x : ℕ) → ground h x ≡ ground g x
  pub same_ponds : (x : ℕ) → is_pond h x ≡ is_pond g x
  -- and flows where it flowed
  pub same_next : (x : ℕ) → next h x ≡ next g x
  -- 12 is passed in the new table
  pub passes_12 : (check12 h).passes ≡ true
  -- to every table it is the same by way of h as from g
  pub by_way : (to : Table) → converted_codes h to ≡ converted_codes g to
  -- there and back are the codes of g
  pub back : converted_codes h g.table ≡ take (cell_count g) g.codes

-- ---- two calls, one after the other

-- the call that converts the same codes directly to another table
abbrev pub direct : Conversion → ℕ → Conversion
direct c to = conversion c.from to c.rows c.cols c.codes

module _ (c : Conversion) (new : List ℕ) where
  -- after the call c, which left these codes: the call that goes on from them to another table
  abbrev pub onward : ℕ → Conversion
  onward to = conversion c.to to c.rows c.cols new

  -- 02, U2: "going by way of the third table gives the same grid". The onward and the direct call are lent the same
  pub record ByWay : Type 0 where
    -- to a table, and where there is room, the onward call is accepted
    pub accepted : {to number : ℕ} {old left : List ℕ} → is_table to ≡ true → c.rows * c.cols ≤ length old
        → Converts (onward to) old number left → number ≡ 0
    -- it answers what the direct call answers, and leaves the same in every place; on every refusal too
    pub as_direct : {to number number' : ℕ} {old left left' : List ℕ} → Converts (onward to) old number left
        → Converts (direct c to) old number' left' → (number ≡ number') × (left ≡ left')
