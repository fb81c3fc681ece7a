-- Small calls for all outlets by computation: the order of the last checks and what each leaves; and parts of lists.
-- Assumes nothing.
use mathlib.Core.Path.{◌≡◌, refl}
use mathlib.Core.List.{List, [], ◌∷◌, ◌++◌, map}
use Prim.Native.Nat.{ℕ}
use lib.ListN.{replicate}
use Rattle.lengths.specs.Rule.{compared, ruled, sign_of, is_shorter}
use Rattle.lists.specs.Lists.{sum_of, greatest_of, joined}
use Rattle.lists.specs.Slices.{overlaid, zeros}
use Rattle.ground.specs.Tables.{is_code, dir_of}
use Rattle.ground.specs.Grid.{code_at, neighbour, next, inflow_record, inflows}
use Rattle.ground.specs.Accumulation.{balance, agrees, subaccumulation}
use Rattle.ground.specs.Subwatershed.{belongs, in_subwatershed}
use Rattle.ground.specs.Divide.{on_divide}
use Rattle.ground.specs.Forest.{forest}
use Rattle.search.specs.Tracing.{tracing_by}
use Rattle.answers.specs.Checks.{first_failed, check10, check11, check12, check14, check15, check16, check17}
use Rattle.answers.specs.Checks.{check20, check21, check23, check25}
use Rattle.answers.specs.Entries.{Catchment, catchment}
use Rattle.alloutlets.specs.declared.TracedAll.{TracedAll}
use Rattle.alloutlets.specs.AllOutlets.{LentAll, lent_all, traced_all, trace_all_number, tells_all, leaves_all}
use Rattle.alloutlets.specs.Part.{part_count, starts_part}

-- what was lent holds nines
abbrev pub nines : ℕ → List ℕ
nines n = replicate {A = ℕ} n 9

--   0 SE   1 S   2 SW   3 S   4 null      0 and 2 flow to 6, and 5 to 1; 3, 6 and 7 flow to 8, and all to 9
--   5 NE   6 E   7 E    8 E   9 E
abbrev pub fan : List ℕ → Catchment
fan outlets = catchment 2 5 (2 ∷ 4 ∷ 8 ∷ 4 ∷ 0 ∷ 128 ∷ 1 ∷ 1 ∷ 1 ∷ 1 ∷ [])
    (1 ∷ 2 ∷ 1 ∷ 1 ∷ 0 ∷ 1 ∷ 5 ∷ 6 ∷ 8 ∷ 9 ∷ []) outlets

-- 01's M3: the side valley is dropped
abbrev pub m3 : Catchment
m3 = catchment 1 4 (1 ∷ 4 ∷ 16 ∷ 16 ∷ []) (1 ∷ 4 ∷ 2 ∷ 1 ∷ []) (1 ∷ [])

-- a snail into the corner 2, whose centre 4 is no divide cell
abbrev pub snail : List ℕ → Catchment
snail outlets = catchment 3 3 (1 ∷ 1 ∷ 64 ∷ 64 ∷ 1 ∷ 4 ∷ 64 ∷ 16 ∷ 16 ∷ []) (7 ∷ 8 ∷ 9 ∷ 6 ∷ 1 ∷ 2 ∷ 5 ∷ 4 ∷ 3 ∷ []) outlets

-- what is called with so many places of starts, counts and working space, and what it answers and leaves
pub record Row : Type 0 where
  pub edition : ℕ
  pub called : Catchment
  pub lent : LentAll
  pub answers : TracedAll
  pub leaves : LentAll

abbrev pub worked : Row → Row
worked r =
    let n = trace_all_number r.edition r.called r.lent in
    record {
      edition = r.edition;
      called = r.called;
      lent = r.lent;
      answers = tells_all r.edition r.called.grid r.called.outlets n;
      leaves = leaves_all r.edition r.called.grid r.called.outlets n r.lent;
    }

abbrev pub row_by : ℕ → Catchment → LentAll → TracedAll → LentAll → Row
row_by edition called lent answers leaves =
    record { edition = edition; called = called; lent = lent; answers = answers; leaves = leaves }

abbrev pub row : Catchment → LentAll → TracedAll → LentAll → Row
row = row_by 1

-- the fan's outlets are 6, of three cells and two paths, and 1, of two cells and one path; the cell 9 has four cells
abbrev pub fan_lent : ℕ → ℕ → ℕ → LentAll
fan_lent starts counts work = lent_all (nines 11) (nines starts) (nines counts) (nines work)

abbrev pub fan_filled : List ℕ
fan_filled = 1 ∷ 2 ∷ 1 ∷ 1 ∷ 0 ∷ 1 ∷ 3 ∷ 1 ∷ 3 ∷ 4 ∷ 9 ∷ []

abbrev pub rows : List Row
rows =
    -- places for all, and one more of each
    row (fan (6 ∷ 1 ∷ [])) (fan_lent 4 3 10) (traced_all 0 5 0)
    (lent_all fan_filled (0 ∷ 2 ∷ 5 ∷ 9 ∷ []) (2 ∷ 1 ∷ 9 ∷ []) (zeros 9 ++ nines 1))
    -- the other way round
    ∷ row (fan (1 ∷ 6 ∷ [])) (fan_lent 3 2 9) (traced_all 0 5 0)
    (lent_all fan_filled (5 ∷ 0 ∷ 2 ∷ []) (1 ∷ 2 ∷ []) (zeros 9))
    -- 21, where the first outlet's paths would have their places
    ∷ row (fan (6 ∷ 1 ∷ [])) (fan_lent 2 2 9) (traced_all 21 5 0)
    (lent_all fan_filled (nines 2) (nines 2) (zeros 9))
    -- 23, and the starts have no place either
    ∷ row (fan (6 ∷ 1 ∷ [])) (fan_lent 2 1 9) (traced_all 23 0 0)
    (lent_all fan_filled (nines 2) (nines 1) (nines 9))
    -- 20, and nothing else has its places
    ∷ row (fan (6 ∷ 1 ∷ [])) (fan_lent 2 1 8) (traced_all 20 0 0)
    (lent_all fan_filled (nines 2) (nines 1) (nines 8))
    -- 17, and nothing is filled
    ∷ row (fan (6 ∷ 6 ∷ [])) (fan_lent 2 1 8) (traced_all 17 0 0) (fan_lent 2 1 8)
    ∷ row m3 (lent_all (nines 4) (nines 1) (nines 1) (nines 12)) (traced_all 0 3 1)
    (lent_all (1 ∷ 4 ∷ 2 ∷ 1 ∷ []) (3 ∷ []) (1 ∷ []) (zeros 12))
    -- by edition 2: the snail starts at its last divide cell, and an outlet inside it has its own cell alone
    ∷ row_by 2 (snail (2 ∷ [])) (lent_all (nines 10) (nines 2) (nines 1) (nines 27)) (traced_all 0 9 0)
    (lent_all (7 ∷ 8 ∷ 9 ∷ 6 ∷ 1 ∷ 2 ∷ 5 ∷ 4 ∷ 3 ∷ 9 ∷ []) (5 ∷ 9 ∷ []) (1 ∷ []) (zeros 27))
    ∷ row_by 2 (snail (4 ∷ 2 ∷ [])) (lent_all (nines 9) (nines 2) (nines 2) (nines 24)) (traced_all 0 9 0)
    (lent_all (6 ∷ 7 ∷ 8 ∷ 5 ∷ 1 ∷ 1 ∷ 4 ∷ 3 ∷ 2 ∷ []) (4 ∷ 5 ∷ []) (1 ∷ 1 ∷ []) (zeros 24))
    -- 25, before 10 and all others
    ∷ row_by 3 (catchment 0 4 [] [] []) (fan_lent 2 1 8) (traced_all 25 0 0) (fan_lent 2 1 8)
    ∷ []

pub all_outlets : map worked rows ≡ rows
unfolding compared ruled sign_of is_shorter sum_of greatest_of joined overlaid is_code dir_of code_at neighbour next inflow_record
    inflows balance agrees subaccumulation forest tracing_by first_failed check10 check11 check12 check14 check15 check16
    check17 check20 check21 check23 check25 belongs in_subwatershed on_divide trace_all_number tells_all leaves_all
all_outlets = refl

-- of five starts: two of the first outlet, none of the second, three of the third; the fourth's run past the list, and so
-- do all that follow; a count before its own may be as great as a lent number can be
abbrev pub shown : List ℕ → ℕ → List ℕ
shown counts = starts_part (10 ∷ 11 ∷ 12 ∷ 13 ∷ 14 ∷ []) counts

pub parts : (map (shown (2 ∷ 0 ∷ 3 ∷ 1 ∷ 0 ∷ [])) (0 ∷ 1 ∷ 2 ∷ 3 ∷ 4 ∷ 5 ∷ [])
    ≡ (10 ∷ 11 ∷ []) ∷ [] ∷ (12 ∷ 13 ∷ 14 ∷ []) ∷ [] ∷ [] ∷ [] ∷ [])
    × (map (shown (4294967295 ∷ 1 ∷ [])) (0 ∷ 1 ∷ []) ≡ [] ∷ [] ∷ [])
unfolding sum_of part_count
parts = (refl, refl)
