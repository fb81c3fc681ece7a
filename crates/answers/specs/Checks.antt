-- The checks of the grid entries, each once, and the order in which they are tried.
-- Assumes nothing.
use Rattle.std.specs.Prelude.{Bool, true, cond, ◌&&◌, List, [], ◌∷◌, ℕ, ◌*◌, length, get_or, ltb, leb}
use Rattle.lists.specs.Lists.{different, all_below}
use Rattle.ground.specs.Tables.{is_table, is_code}
use Rattle.ground.specs.Grid.{Grid, cell_count, ground}
use Rattle.ground.specs.Walk.{ring_free}
use Rattle.ground.specs.Accumulation.{agrees}
use Rattle.ground.specs.Subwatershed.{in_subwatershed}
use Rattle.search.specs.Editions.{is_edition}
use Rattle.search.specs.Tracing.{numbers_each}

-- a question with its number: does it pass?
pub record Check : Type 0 where
  pub number : ℕ
  pub passes : Bool

abbrev pub check : ℕ → Bool → Check
check number passes = record { number = number; passes = passes }

-- 01, The checks: the answer is the number of the first question that fails, and 0 if none does
unfoldable pub first_failed : List Check → ℕ
first_failed [] = 0
first_failed (c ∷ cs) = cond c.passes (first_failed cs) c.number

-- do all pass?
abbrev pub all_pass : {A : Type 0} → (A → Bool) → List A → Bool
all_pass f [] = true
all_pass f (x ∷ xs) = f x && all_pass f xs

-- 10: rows and columns are from 1 to 4,096 each. It is judged before any product of the two is taken
abbrev pub is_side : ℕ → Bool
is_side n = leb 1 n && leb n 4096

unfoldable pub check10 : ℕ → ℕ → Check
check10 rows cols = check 10 (is_side rows && is_side cols)

-- 11: every lent grid has a place for each cell, or more. The lengths of the lent grids are given
unfoldable pub check11 : ℕ → ℕ → List ℕ → Check
check11 rows cols lent = check 11 (all_pass (λ n. leb (rows * cols) n) lent)

-- 12: each of the first R × C codes is one of the grid's table
unfoldable pub check12 : Grid → Check
check12 g = check 12 (all_below (λ x. is_code g.table (get_or g.codes x 0)) (cell_count g))

-- 13, when accumulating only: no walk comes back to a cell
unfoldable pub check13 : Grid → Check
check13 g = check 13 (ring_free g)

-- 14, for all other entries: the lent accumulation fulfils its equation at every cell
unfoldable pub check14 : Grid → List ℕ → Check
check14 g accumulation = check 14 (agrees g accumulation)

-- 15: the list has from 1 to 256 outlets
unfoldable pub check15 : List ℕ → Check
check15 outlets = check 15 (leb 1 (length outlets) && leb (length outlets) 256)

-- 16: every outlet of the list is the number of a cell with ground
unfoldable pub check16 : Grid → List ℕ → Check
check16 g outlets = check 16 (all_pass (λ o. ltb o (cell_count g) && ground g o) outlets)

-- 17: no outlet stands in the list twice
unfoldable pub check17 : List ℕ → Check
check17 outlets = check 17 (different outlets)

-- 18, tracing and drawing: the place asked for, counted from 0, is one of the list
unfoldable pub check18 : List ℕ → ℕ → Check
check18 outlets place = check 18 (ltb place (length outlets))

-- 19, by recursion: the outlet has no more than 4,096 cells
unfoldable pub check19 : ℕ → Check
check19 cells = check 19 (leb cells 4096)

-- 20, by stack: the working space has its numbers for each of the outlet's cells
unfoldable pub check20 : ℕ → List ℕ → Check
check20 cells work = check 20 (leb (numbers_each * cells) (length work))

-- 21, tracing: the list has a place for each longest path that was found
unfoldable pub check21 : ℕ → List ℕ → Check
check21 paths starts = check 21 (leb paths (length starts))

-- 22, drawing: the start lies in the outlet's subwatershed
unfoldable pub check22 : Grid → List ℕ → ℕ → ℕ → Check
check22 g outlets o start = check 22 (in_subwatershed g outlets o start)

-- 23, drawing and writing: what is to be written fits the lent places
unfoldable pub check23 : List ℕ → List ℕ → Check
check23 whole lent = check 23 (leb (length whole) (length lent))

-- 24, converting: both are numbers of tables
unfoldable pub check24 : ℕ → ℕ → Check
check24 from to = check 24 (is_table from && is_table to)

-- 25, tracing: the number is that of an edition
unfoldable pub check25 : ℕ → Check
check25 edition = check 25 (is_edition edition)
