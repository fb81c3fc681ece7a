-- The marked cases, the grids that catch mistakes, ponds and divides, as one table of calls.
-- Assumes nothing.
use Rattle.std.specs.Prelude.{true, List, [], ◌∷◌, ◌++◌, ℕ, ◌^◌, replicate}
use Rattle.lists.specs.Slices.{zeros}
use Rattle.std.specs.declared.cmp.Ordering.TheVariants.{Less, Greater}
use Rattle.lengths.specs.Rule.{counts}
use Rattle.answers.specs.Entries.{Catchment, catchment}
use Rattle.answers.specs.FlowLengths.{length_grids}
use Rattle.answers.specs.MarkedRows.{nines, found, no_place, refused, stack, wiped, if_dropping, ways}
use Rattle.answers.specs.MarkedRows.{Mark, compares, accumulates, checks, subaccumulates, traces, calls, draws}
use Rattle.answers.specs.MarkedRows.{measures, visits_by_first, each_way, each_way_by, accumulated}

-- ---- M1 to M11

abbrev pub codes2 : List ℕ
codes2 = 1 ∷ 4 ∷ 16 ∷ []

abbrev pub codes3 : List ℕ
codes3 = 1 ∷ 4 ∷ 16 ∷ 16 ∷ []

abbrev pub codes4 : List ℕ
codes4 = 2 ∷ 4 ∷ 8 ∷ 1 ∷ 4 ∷ 16 ∷ 1 ∷ 4 ∷ 16 ∷ []

abbrev pub ground2 : List ℕ → Catchment
ground2 outlets = accumulated 1 3 codes2 outlets

abbrev pub ground3 : Catchment
ground3 = accumulated 1 4 codes3 (1 ∷ [])

abbrev pub ground4 : List ℕ → Catchment
ground4 outlets = accumulated 3 3 codes4 outlets

-- M2 with another accumulation
abbrev pub ground10 : Catchment
ground10 = catchment 1 3 codes2 (1 ∷ 3 ∷ 2 ∷ []) (1 ∷ [])

abbrev pub marked_cases : List Mark
marked_cases =
    -- M1
    accumulates 1 1 (1 ∷ []) (nines 2) 0 (1 ∷ 9 ∷ [])
    ∷ traces (accumulated 1 1 (1 ∷ []) (0 ∷ [])) 0 (1 ∷ 9 ∷ []) (ways 0 0 1 1 0 1 (0 ∷ 9 ∷ 9 ∷ []) ∷ [])
    -- M2
    ∷ accumulates 1 3 codes2 (nines 4) 0 (1 ∷ 3 ∷ 1 ∷ 9 ∷ [])
    ∷ traces (ground2 (1 ∷ [])) 0 (1 ∷ 3 ∷ 1 ∷ 9 ∷ []) (ways 1 0 2 3 0 3 (2 ∷ 0 ∷ 9 ∷ []) ∷ [])
    -- M3, the desk's example too: 4 cells, visited 3, dropped 1
    ∷ accumulates 1 4 codes3 (nines 5) 0 (1 ∷ 4 ∷ 2 ∷ 1 ∷ 9 ∷ [])
    ∷ traces ground3 0 (1 ∷ 4 ∷ 2 ∷ 1 ∷ 9 ∷ []) (ways 2 0 1 3 1 4 (3 ∷ 9 ∷ 9 ∷ []) ∷ [])
    ∷ visits_by_first ground3 0 3 1
    -- M4: visited 8, dropped 1, the cell north of cell 4; by 01's rule all 9
    ∷ accumulates 3 3 codes4 (nines 10) 0 (1 ∷ 1 ∷ 1 ∷ 1 ∷ 6 ∷ 1 ∷ 1 ∷ 9 ∷ 1 ∷ 9 ∷ [])
    ∷ traces (ground4 (7 ∷ [])) 0 (1 ∷ 1 ∷ 1 ∷ 1 ∷ 6 ∷ 1 ∷ 1 ∷ 9 ∷ 1 ∷ 9 ∷ [])
    (ways 1 1 2 8 1 9 (0 ∷ 2 ∷ 9 ∷ []) ∷ [])
    ∷ visits_by_first (ground4 (7 ∷ [])) 0 9 0
    -- M5, with the same cell dropped
    ∷ traces (ground4 (7 ∷ 4 ∷ [])) 0 (1 ∷ 1 ∷ 1 ∷ 1 ∷ 6 ∷ 1 ∷ 1 ∷ 3 ∷ 1 ∷ 9 ∷ [])
    (ways 1 0 2 3 0 3 (8 ∷ 6 ∷ 9 ∷ []) ∷ ways 0 1 2 5 1 6 (0 ∷ 2 ∷ 9 ∷ []) ∷ [])
    ∷ visits_by_first (ground4 (7 ∷ 4 ∷ [])) 1 6 0
    -- M6: a ring
    ∷ accumulates 1 2 (1 ∷ 16 ∷ []) (nines 3) 13 (0 ∷ 0 ∷ 9 ∷ [])
    -- M7: a null cell, and no outlet
    ∷ accumulates 1 2 (1 ∷ 0 ∷ []) (nines 3) 0 (1 ∷ 0 ∷ 9 ∷ [])
    ∷ subaccumulates (accumulated 1 2 (1 ∷ 0 ∷ []) []) 15 (nines 3)
    -- M8 and M9
    ∷ compares (counts 7 0) (counts 0 5) Less
    ∷ compares (counts 17 0) (counts 0 12) Greater
    -- M10, by every entry that checks an accumulation
    ∷ checks 1 3 codes2 (1 ∷ 3 ∷ 2 ∷ []) 14
    ∷ subaccumulates ground10 14 (nines 4)
    ∷ draws ground10 0 2 (nines 3) 14 (nines 3) []
    ∷ each_way (λ way. calls way ground10 0 (nines 3) 10 (refused 14) (nines 4) (nines 3) (nines 10))
    -- M11: one list place
    ++ each_way (λ way. calls way (ground2 (1 ∷ [])) 0 (nines 1) 10 (no_place 2 3 0) (1 ∷ 3 ∷ 1 ∷ 9 ∷ []) (2 ∷ [])
    (wiped 9 way))

-- ---- grids that catch mistakes

abbrev pub short_ties : Catchment
short_ties = accumulated 3 3 (0 ∷ 4 ∷ 0 ∷ 0 ∷ 4 ∷ 0 ∷ 1 ∷ 4 ∷ 16 ∷ []) (7 ∷ [])

abbrev pub float_tie : Catchment
float_tie = accumulated 3 7
    (0 ∷ 0 ∷ 0 ∷ 64 ∷ 16 ∷ 0 ∷ 0 ∷ 0 ∷ 0 ∷ 128 ∷ 0 ∷ 0 ∷ 32 ∷ 0 ∷ 1 ∷ 128 ∷ 0 ∷ 0 ∷ 0 ∷ 0 ∷ 32 ∷ []) (3 ∷ [])

abbrev pub snail : Catchment
snail = accumulated 3 3 (1 ∷ 1 ∷ 64 ∷ 64 ∷ 1 ∷ 4 ∷ 64 ∷ 16 ∷ 16 ∷ []) (2 ∷ [])

abbrev pub hack_valley : Catchment
hack_valley = accumulated 6 7
    (2 ∷ 0 ∷ 0 ∷ 0 ∷ 0 ∷ 0 ∷ 0 ∷ 0 ∷ 2 ∷ 2 ∷ 2 ∷ 4 ∷ 8 ∷ 8 ∷ 0 ∷ 0 ∷ 2 ∷ 2 ∷ 4 ∷ 8 ∷ 8 ∷ 0 ∷ 0 ∷ 2 ∷ 8 ∷ 16 ∷ 16 ∷ 16
    ∷ 0 ∷ 0 ∷ 0 ∷ 128 ∷ 64 ∷ 32 ∷ 32 ∷ 0 ∷ 0 ∷ 128 ∷ 128 ∷ 64 ∷ 32 ∷ 32 ∷ []) (24 ∷ [])

abbrev pub trap_grids : List Mark
trap_grids =
    -- an upper outlet is not crossed
    traces (ground2 (1 ∷ 0 ∷ [])) 0 (1 ∷ 2 ∷ 1 ∷ 9 ∷ [])
    (ways 1 0 1 2 0 2 (2 ∷ 9 ∷ 9 ∷ []) ∷ ways 0 0 1 1 0 1 (0 ∷ 9 ∷ 9 ∷ []) ∷ [])
    -- outlets in any order
    ∷ traces (accumulated 1 6 (1 ∷ 1 ∷ 1 ∷ 1 ∷ 1 ∷ 1 ∷ []) (2 ∷ 0 ∷ 5 ∷ [])) 0 (1 ∷ 1 ∷ 2 ∷ 1 ∷ 2 ∷ 3 ∷ 9 ∷ [])
    (ways 1 0 1 2 0 2 (1 ∷ 9 ∷ 9 ∷ []) ∷ ways 0 0 1 1 0 1 (0 ∷ 9 ∷ 9 ∷ []) ∷ ways 2 0 1 3 0 3 (3 ∷ 9 ∷ 9 ∷ []) ∷ [])
    -- a tie that sums of floats split
    ∷ traces float_tie 0
    (0 ∷ 0 ∷ 0 ∷ 7 ∷ 3 ∷ 0 ∷ 0 ∷ 0 ∷ 0 ∷ 3 ∷ 0 ∷ 0 ∷ 2 ∷ 0 ∷ 1 ∷ 2 ∷ 0 ∷ 0 ∷ 0 ∷ 0 ∷ 1 ∷ 9 ∷ [])
    (ways 1 2 2 7 0 7 (20 ∷ 14 ∷ 9 ∷ []) ∷ [])
    -- a snail
    ∷ traces snail 0 (7 ∷ 8 ∷ 9 ∷ 6 ∷ 1 ∷ 2 ∷ 5 ∷ 4 ∷ 3 ∷ 9 ∷ []) (ways 8 0 1 9 0 9 (4 ∷ 9 ∷ 9 ∷ []) ∷ [])
    -- a valley that a lower estimate from Hack's law drops wrongly
    ∷ traces hack_valley 0
    (1 ∷ 0 ∷ 0 ∷ 0 ∷ 0 ∷ 0 ∷ 0 ∷ 0 ∷ 2 ∷ 1 ∷ 1 ∷ 1 ∷ 1 ∷ 1 ∷ 0 ∷ 0 ∷ 3 ∷ 2 ∷ 4 ∷ 2 ∷ 1 ∷ 0 ∷ 0 ∷ 1 ∷ 26 ∷ 22 ∷ 4 ∷ 1
    ∷ 0 ∷ 0 ∷ 0 ∷ 3 ∷ 4 ∷ 2 ∷ 1 ∷ 0 ∷ 0 ∷ 1 ∷ 1 ∷ 1 ∷ 1 ∷ 1 ∷ 9 ∷ [])
    (ways 0 3 1 20 6 26 (0 ∷ 9 ∷ 9 ∷ []) ∷ [])
    -- one column: a walk east ends off the grid and does not wrap
    ∷ accumulates 2 1 (1 ∷ 1 ∷ []) (nines 3) 0 (1 ∷ 1 ∷ 9 ∷ [])
    ∷ traces (accumulated 2 1 (1 ∷ 1 ∷ []) (0 ∷ 1 ∷ [])) 0 (1 ∷ 1 ∷ 9 ∷ [])
    (ways 0 0 1 1 0 1 (0 ∷ 9 ∷ 9 ∷ []) ∷ ways 0 0 1 1 0 1 (1 ∷ 9 ∷ 9 ∷ []) ∷ [])
    -- short ties come before the longer path: the list is not scratch, and one place is enough
    ∷ traces short_ties 0 (0 ∷ 1 ∷ 0 ∷ 0 ∷ 2 ∷ 0 ∷ 1 ∷ 5 ∷ 1 ∷ 9 ∷ []) (ways 2 0 1 5 0 5 (1 ∷ 9 ∷ 9 ∷ []) ∷ [])
    ∷ each_way (λ way. calls way short_ties 0 (nines 1) 16 (found 2 0 1 5 0)
    (0 ∷ 1 ∷ 0 ∷ 0 ∷ 2 ∷ 0 ∷ 1 ∷ 5 ∷ 1 ∷ 9 ∷ []) (1 ∷ []) (wiped 15 way))
    -- no list place: still the whole search
    ++ each_way (λ way. calls way (ground2 (1 ∷ [])) 0 [] 10 (no_place 2 3 0) (1 ∷ 3 ∷ 1 ∷ 9 ∷ []) [] (wiped 9 way))

-- ---- each check, and the order of two

-- a row with a null cell, and outlets
abbrev pub gap : List ℕ → Catchment
gap outlets = accumulated 1 4 (1 ∷ 1 ∷ 0 ∷ 1 ∷ []) outlets

-- traced at a place of its list and refused, by each of the four ways
abbrev pub refusals : List ℕ → ℕ → ℕ → List Mark
refusals outlets place number =
    each_way (λ way. calls way (gap outlets) place (nines 1) 3 (refused number) (nines 5) (nines 1) (nines 3))

abbrev pub refused_calls : List Mark
refused_calls =
    -- 10 before any product of R and C
    accumulates 0 4 [] (nines 2) 10 (nines 2)
    ∷ accumulates 1 4097 [] (nines 2) 10 (nines 2)
    ∷ accumulates (2 ^ 63) (2 ^ 63) [] (nines 2) 10 (nines 2)
    -- 11 before 12, of either grid; 12 of the first R × C codes only
    ∷ accumulates 1 3 (3 ∷ 3 ∷ []) (nines 4) 11 (nines 4)
    ∷ accumulates 1 3 (3 ∷ 3 ∷ 3 ∷ []) (nines 2) 11 (nines 2)
    ∷ accumulates 1 3 (1 ∷ 3 ∷ 16 ∷ []) (nines 4) 12 (nines 4)
    ∷ accumulates 1 3 (1 ∷ 254 ∷ 16 ∷ []) (nines 4) 12 (nines 4)
    ∷ accumulates 1 3 (1 ∷ 4 ∷ 16 ∷ 3 ∷ []) (nines 3) 0 (1 ∷ 3 ∷ 1 ∷ [])
    -- the check of an accumulation: agreeing, on a ring, a null cell that is not 0
    ∷ checks 1 3 codes2 (1 ∷ 3 ∷ 1 ∷ 7 ∷ []) 0
    ∷ checks 1 2 (1 ∷ 16 ∷ []) (1 ∷ 2 ∷ []) 14
    ∷ checks 1 2 (1 ∷ 0 ∷ []) (1 ∷ 1 ∷ []) 14
    -- 20 leaves the subaccumulation grid filled and no more
    ∷ calls (stack 1 true) (ground2 (1 ∷ [])) 0 (nines 3) 8 (refused 20) (1 ∷ 3 ∷ 1 ∷ 9 ∷ []) (nines 3) (nines 8)
    -- 15, 16 of the whole list before 17, 17, 18
    ∷ refusals [] 0 15
    ++ refusals (replicate 257 3) 0 15
    ++ refusals (3 ∷ 3 ∷ 2 ∷ []) 0 16
    ++ refusals (3 ∷ 4 ∷ []) 0 16
    ++ refusals (replicate 256 3) 0 17
    ++ refusals (3 ∷ 1 ∷ []) 2 18

abbrev pub drawings : List Mark
drawings =
    -- a path, that of the outlet itself, and into places that just hold it
    draws ground3 0 3 (nines 4) 0 (3 ∷ 2 ∷ 1 ∷ 9 ∷ []) (3 ∷ 2 ∷ 1 ∷ [])
    ∷ draws ground3 0 1 (nines 1) 0 (1 ∷ []) (1 ∷ [])
    -- 22 beyond the grid, on a null cell, for another outlet, where the walk meets none; 23
    ∷ draws ground3 0 4 (nines 4) 22 (nines 4) []
    ∷ draws (gap (3 ∷ [])) 0 2 (nines 4) 22 (nines 4) []
    ∷ draws (ground2 (1 ∷ 0 ∷ [])) 0 0 (nines 4) 22 (nines 4) []
    ∷ draws (gap (3 ∷ [])) 0 0 (nines 4) 22 (nines 4) []
    ∷ draws ground3 0 3 (nines 2) 23 (nines 2) []
    ∷ []

-- ---- ponds

-- a pond with eight inflows, as outlet
abbrev pub pond_outlet : Catchment
pond_outlet = accumulated 3 3 (2 ∷ 4 ∷ 8 ∷ 1 ∷ 255 ∷ 16 ∷ 128 ∷ 64 ∷ 32 ∷ []) (4 ∷ [])

-- the same pond beside a column that flows north, whose last cell is the outlet
abbrev pub pond_beside : Catchment
pond_beside = accumulated 3 4 (2 ∷ 4 ∷ 8 ∷ 64 ∷ 1 ∷ 255 ∷ 16 ∷ 64 ∷ 128 ∷ 64 ∷ 32 ∷ 64 ∷ []) (3 ∷ [])

abbrev pub ponds : List Mark
ponds =
    -- alone: it counts itself, and is a path of length 0
    accumulates 1 1 (255 ∷ []) (nines 2) 0 (1 ∷ 9 ∷ [])
    ∷ checks 1 1 (255 ∷ []) (0 ∷ []) 14
    ∷ traces (accumulated 1 1 (255 ∷ []) (0 ∷ [])) 0 (1 ∷ 9 ∷ []) (ways 0 0 1 1 0 1 (0 ∷ 9 ∷ 9 ∷ []) ∷ [])
    -- below a pond: neither flows into the other
    ∷ checks 3 1 (4 ∷ 255 ∷ 255 ∷ []) (1 ∷ 2 ∷ 1 ∷ []) 0
    ∷ checks 3 1 (4 ∷ 255 ∷ 255 ∷ []) (1 ∷ 2 ∷ 3 ∷ []) 14
    ∷ traces (accumulated 3 1 (4 ∷ 255 ∷ 255 ∷ []) (2 ∷ 1 ∷ [])) 0 (1 ∷ 2 ∷ 1 ∷ 9 ∷ [])
    (ways 0 0 1 1 0 1 (2 ∷ 9 ∷ 9 ∷ []) ∷ ways 1 0 1 2 0 2 (0 ∷ 9 ∷ 9 ∷ []) ∷ [])
    -- at the border
    ∷ traces (accumulated 1 3 (255 ∷ 16 ∷ 16 ∷ []) (0 ∷ [])) 0 (3 ∷ 2 ∷ 1 ∷ 9 ∷ [])
    (ways 2 0 1 3 0 3 (2 ∷ 9 ∷ 9 ∷ []) ∷ [])
    -- next to null: one walk ends at the pond, the other before the null cell
    ∷ traces (accumulated 1 4 (1 ∷ 255 ∷ 0 ∷ 16 ∷ []) (1 ∷ 3 ∷ [])) 0 (1 ∷ 2 ∷ 0 ∷ 1 ∷ 9 ∷ [])
    (ways 1 0 1 2 0 2 (0 ∷ 9 ∷ 9 ∷ []) ∷ ways 0 0 1 1 0 1 (3 ∷ 9 ∷ 9 ∷ []) ∷ [])
    -- amid eight inflows, where it is no outlet: its cells and itself are in no subwatershed
    ∷ traces pond_beside 0 (1 ∷ 1 ∷ 1 ∷ 3 ∷ 1 ∷ 9 ∷ 1 ∷ 2 ∷ 1 ∷ 1 ∷ 1 ∷ 1 ∷ 9 ∷ [])
    (ways 2 0 1 3 0 3 (11 ∷ 9 ∷ 9 ∷ []) ∷ [])
    ∷ measures pond_beside 0 (length_grids
    (0 ∷ 0 ∷ 0 ∷ 0 ∷ 0 ∷ 0 ∷ 0 ∷ 1 ∷ 0 ∷ 0 ∷ 0 ∷ 2 ∷ 9 ∷ []) (zeros 12 ++ (9 ∷ []))
    (0 ∷ 0 ∷ 0 ∷ 2 ∷ 0 ∷ 0 ∷ 0 ∷ 1 ∷ 0 ∷ 0 ∷ 0 ∷ 0 ∷ 9 ∷ []) (zeros 12 ++ (9 ∷ [])))
    ∷ draws pond_beside 0 0 (nines 3) 22 (nines 3) []
    ∷ draws pond_beside 0 5 (nines 3) 22 (nines 3) []
    -- as outlet: four paths end at it; with dropping the straight inflows after the first diagonal one are dropped
    ∷ measures pond_outlet 0 (length_grids
    (0 ∷ 1 ∷ 0 ∷ 1 ∷ 0 ∷ 1 ∷ 0 ∷ 1 ∷ 0 ∷ 9 ∷ []) (1 ∷ 0 ∷ 1 ∷ 0 ∷ 0 ∷ 0 ∷ 1 ∷ 0 ∷ 1 ∷ 9 ∷ [])
    (zeros 9 ++ (9 ∷ [])) (0 ∷ 0 ∷ 0 ∷ 0 ∷ 1 ∷ 0 ∷ 0 ∷ 0 ∷ 0 ∷ 9 ∷ []))
    ∷ draws pond_outlet 0 8 (nines 3) 0 (8 ∷ 4 ∷ 9 ∷ []) (8 ∷ 4 ∷ [])
    ∷ each_way (λ way. calls way pond_outlet 0 (nines 5) 28 (if_dropping (found 0 1 4 6 3) (found 0 1 4 9 0) way)
    (1 ∷ 1 ∷ 1 ∷ 1 ∷ 9 ∷ 1 ∷ 1 ∷ 1 ∷ 1 ∷ 9 ∷ []) (8 ∷ 6 ∷ 0 ∷ 2 ∷ 9 ∷ []) (wiped 27 way))

-- ---- starts on the divide, by edition 2

-- a snail whose last cell but one is the centre: to 2 it leads around the border. East of the centre lies another outlet,
-- or a null cell
abbrev pub snail_beside : ℕ → List ℕ → Catchment
snail_beside code outlets = accumulated 3 3 (1 ∷ 1 ∷ 64 ∷ 64 ∷ 2 ∷ code ∷ 64 ∷ 16 ∷ 16 ∷ []) outlets

abbrev pub divides : List Mark
divides =
    -- the snail's headwater is no divide cell: the cell below it starts, which is no headwater
    each_way_by 2 (λ way. calls way snail 0 (nines 3) 28 (found 7 0 1 9 0) (7 ∷ 8 ∷ 9 ∷ 6 ∷ 1 ∷ 2 ∷ 5 ∷ 4 ∷ 3 ∷ 9 ∷ [])
    (5 ∷ 9 ∷ 9 ∷ []) (wiped 27 way))
    -- a pond amid its cells is no divide cell, and its own length is not met
    ++ each_way_by 2 (λ way. calls way pond_outlet 0 (nines 5) 28 (if_dropping (found 0 1 4 6 3) (found 0 1 4 9 0) way)
    (1 ∷ 1 ∷ 1 ∷ 1 ∷ 9 ∷ 1 ∷ 1 ∷ 1 ∷ 1 ∷ 9 ∷ []) (8 ∷ 6 ∷ 0 ∷ 2 ∷ 9 ∷ []) (wiped 27 way))
    -- M1: the outlet's own length is met; M3: so is that of a divide cell below another, and the upper one starts
    ++ each_way_by 2 (λ way. calls way (accumulated 1 1 (1 ∷ []) (0 ∷ [])) 0 (nines 1) 4 (found 0 0 1 1 0) (1 ∷ 9 ∷ [])
    (0 ∷ []) (wiped 3 way))
    ++ each_way_by 2 (λ way. calls way ground3 0 (nines 3) 13 (if_dropping (found 2 0 1 3 1) (found 2 0 1 4 0) way)
    (1 ∷ 4 ∷ 2 ∷ 1 ∷ 9 ∷ []) (3 ∷ 9 ∷ 9 ∷ []) (wiped 12 way))
    -- an upper outlet is outside, and so is a null cell: the centre beside it is on the divide
    ++ each_way_by 2 (λ way. calls way (snail_beside 16 (2 ∷ 5 ∷ [])) 0 (nines 3) 25 (found 6 1 1 8 0)
    (6 ∷ 7 ∷ 8 ∷ 5 ∷ 1 ∷ 1 ∷ 4 ∷ 3 ∷ 2 ∷ 9 ∷ []) (4 ∷ 9 ∷ 9 ∷ []) (wiped 24 way))
    ++ each_way_by 2 (λ way. calls way (snail_beside 0 (2 ∷ [])) 0 (nines 3) 25 (found 6 1 1 8 0)
    (6 ∷ 7 ∷ 8 ∷ 5 ∷ 1 ∷ 0 ∷ 4 ∷ 3 ∷ 2 ∷ 9 ∷ []) (4 ∷ 9 ∷ 9 ∷ []) (wiped 24 way))
    -- 21 by the divide cells
    ++ each_way_by 2 (λ way. calls way pond_outlet 0 (nines 3) 28 (if_dropping (no_place 4 6 3) (no_place 4 9 0) way)
    (1 ∷ 1 ∷ 1 ∷ 1 ∷ 9 ∷ 1 ∷ 1 ∷ 1 ∷ 1 ∷ 9 ∷ []) (8 ∷ 6 ∷ 0 ∷ []) (wiped 27 way))
    -- 25 before 10
    ++ each_way_by 0 (λ way. calls way (catchment 0 4 [] [] []) 5 (nines 1) 3 (refused 25) (nines 1) (nines 1) (nines 3))
    ++ each_way_by 3 (λ way. calls way (ground2 (1 ∷ [])) 0 (nines 1) 3 (refused 25) (nines 4) (nines 1) (nines 3))

-- THE TABLE
abbrev pub marks : List Mark
marks = marked_cases ++ trap_grids ++ refused_calls ++ drawings ++ ponds ++ divides
