-- The tables of codes: which number in a grid stands for which direction.
-- Assumes nothing.
use Rattle.std.specs.Prelude.{◌≡◌, refl, Bool, true, cond, ◌&&◌, List, [], ◌∷◌, ◌++◌, map, ℕ, eqb, leb}
use Rattle.std.proofs.Math.Option.{Option, none, some}
use Rattle.lists.specs.Lists.{member, different}
use Rattle.ground.specs.Compass.{Dir, E, SE, S, SW, W, NW, N, NE, dirs}

-- 02, U4: the code of a pond, which is ground that drains nowhere
abbrev pub pond : ℕ
pond = 255

-- the codes that stand for no direction, the same in every table: 0, a null cell, and a pond's
abbrev pub undirected : List ℕ
undirected = 0 ∷ pond ∷ []

-- all ten codes of a table: those of no direction, then the directions' in 01's order
abbrev pub all_codes : (Dir → ℕ) → List ℕ
all_codes code_of = undirected ++ map code_of dirs

-- a table gives each direction a code, and all its codes are different
pub record Table : Type 0 where
  pub code_of : Dir → ℕ
  pub apart : different (all_codes code_of) ≡ true

-- 01's codes: the powers of two, clockwise from east
abbrev pub powers : Dir → ℕ
powers E = 1
powers SE = 2
powers S = 4
powers SW = 8
powers W = 16
powers NW = 32
powers N = 64
powers NE = 128

-- 1 to 8 counter-clockwise from north-east
abbrev pub counter_clockwise : Dir → ℕ
counter_clockwise NE = 1
counter_clockwise N = 2
counter_clockwise NW = 3
counter_clockwise W = 4
counter_clockwise SW = 5
counter_clockwise S = 6
counter_clockwise SE = 7
counter_clockwise E = 8

-- 1 to 8 clockwise from west
abbrev pub clockwise : Dir → ℕ
clockwise W = 1
clockwise NW = 2
clockwise N = 3
clockwise NE = 4
clockwise E = 5
clockwise SE = 6
clockwise S = 7
clockwise SW = 8

-- the tables by 02's numbers; each passes the test by computation
abbrev pub table1 : Table
table1 = record { code_of = powers; apart = refl }

abbrev pub table2 : Table
table2 = record { code_of = counter_clockwise; apart = refl }

abbrev pub table3 : Table
table3 = record { code_of = clockwise; apart = refl }

-- is this the number of a table?
abbrev pub is_table : ℕ → Bool
is_table number = leb 1 number && leb number 3

-- the table of a number; the last case is 1, since no entry takes a number that is no table's
abbrev pub table_of : ℕ → Table
table_of number = cond (eqb number 2) table2 (cond (eqb number 3) table3 table1)

module _ (t : Table) where
  abbrev pub codes_of : List ℕ
  codes_of = all_codes t.code_of

  -- is this one of the table's codes?
  unfoldable pub is_code : ℕ → Bool
  is_code code = member code codes_of

  abbrev pub find_dir : List Dir → ℕ → Option Dir
  find_dir [] code = none
  find_dir (d ∷ ds) code = cond (eqb (t.code_of d) code) (some d) (find_dir ds code)

  -- the direction that a code points in; none for a code of no direction and for what is no code
  unfoldable pub dir_of : ℕ → Option Dir
  dir_of code = find_dir dirs code

  -- is this the code of that direction?
  abbrev pub points_in : Dir → ℕ → Bool
  points_in d code = eqb code (t.code_of d)
