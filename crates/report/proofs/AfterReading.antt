-- The numbers with which the desk refuses a sheet that was read.
-- Assumes nothing.
use mathlib.Core.Path.{◌≡◌, refl, ◌∙◌}
use mathlib.Core.Bool.{Bool, true, false, ◌&&◌}
use mathlib.Core.Logic.{◌⊎◌, inl, inr}
use mathlib.Core.List.{List, [], ◌∷◌, ◌++◌}
use Prim.Native.Nat.{ℕ, zero, suc, ◌+◌, ◌*◌, ◌≤◌, ◌<◌}
use native.Mathlib.Nat.{mul-le-mul}
use native.Mathlib.Omega.{arith}
use lib.ListN.{length, get_or, length-replicate}
use lib.Dec.{eqb, ltb, leb}
use borrow.Author.Tests.{eqb-true, leb-true, lt-ltb, le-leb}
use Rattle.lists.specs.Lists.{In, Every, all_below}
use Rattle.lists.specs.Slices.{zeros}
use Rattle.lists.proofs.Lists.{and_both, every_map}
use Rattle.lists.proofs.Members.{member_at}
use Rattle.lists.proofs.Overlaid.{overlaid_length}
use Rattle.ground.specs.Grid.{Grid, cell_count, ground}
use Rattle.ground.specs.Accumulation.{agrees, accumulations}
use Rattle.ground.proofs.Ground.{sub_at_most}
use Rattle.ground.specs.Tables.{table1, is_code}
use Rattle.search.specs.Tracing.{path_count, numbers_each}
use Rattle.search.proofs.Demand3.{demand3}
use Rattle.answers.specs.Checks.{Check, all_pass, check10, check11, check12, check13, check14, check15, check16, check17}
use Rattle.answers.specs.Checks.{check18, check20, check21, check25}
use Rattle.answers.specs.Entries.{Catchment, grid_checks, accumulate_number, accumulate_leaves}
use Rattle.answers.specs.Tracings.{chosen, chosen_cells, chosen_tracing, stack_number}
use Rattle.answers.proofs.FirstFailed.{all_at, FailsOnly, fails_only}
use Rattle.answers.proofs.Accumulated.{accumulated_agrees}
use Rattle.spelling.specs.Content.{Content}
use Rattle.spelling.specs.Reading.{read_sheet, left_content}
use Rattle.spelling.proofs.Records.{all_first}
use Rattle.spelling.proofs.Writable.{Spellable}
use Rattle.spelling.proofs.RoundTrip.{left_spellable}
use Rattle.report.specs.Desk.{first_number, started_lent, started_work, call_at, number_at, numbers_from, tracing_number}
use Rattle.report.specs.Desk.{sheet_grid, sheet_catchment, sheet_number}
use Rattle.report.proofs.Whole.{accepted_number}

-- accepted, a ring, no outlet, an outlet on a null cell, an outlet twice
abbrev pub numbers : List ℕ
numbers = 0 ∷ 13 ∷ 15 ∷ 16 ∷ 17 ∷ []

-- the first of numbers that are all among these
first_among : (ns : List ℕ) → Every (λ n. In n numbers) ns → In (first_number ns) numbers
unfolding first_number
first_among [] h = inl refl
first_among (n ∷ ns) h = go (eqb n 0) refl (first_among ns h.1)
  where
    go : (b : Bool) → eqb n 0 ≡ b → In (first_number ns) numbers → In (first_number (n ∷ ns)) numbers
    go true e ih = rw e ih
    go false e ih = rw e h.0

lent_places : length (zeros 4096) ≡ 4096
lent_places = length-replicate {A = ℕ} 4096 0

all_reach : (n : ℕ) (lent : List ℕ) → Every (λ m. n ≤ m) lent → all_pass (leb n) lent ≡ true
all_reach n [] h = refl
all_reach n (m ∷ lent) h = rw (le-leb n m h.0, all_reach n lent h.1)

module _ (s : Content) (w : Spellable s) where
  abbrev g : Grid
  g = sheet_grid s

  pub few_cells : cell_count g ≤ 4096
  few_cells = mul-le-mul w.grid.rows_small w.grid.cols_small

  -- 10, 11 and 12 pass, whatever follows
  grid_passes : (lent : List ℕ) (later : List Check) → Every (λ n. 4096 ≤ n) lent → FailsOnly numbers later
      → FailsOnly numbers (grid_checks g lent ++ later)
  unfolding check10 check11 check12
  grid_passes lent later h f = (inl sides, λ p. (inl places, λ p. (inl codes, λ p. f)))
    where
      sides : ((leb 1 s.rows && leb s.rows 4096) && (leb 1 s.cols && leb s.cols 4096)) ≡ true
      sides = rw (
        le-leb 1 s.rows w.grid.some_rows,
        le-leb s.rows 4096 (omega (arith, w.grid.rows_small)),
        le-leb 1 s.cols w.grid.some_cols,
        le-leb s.cols 4096 (omega (arith, w.grid.cols_small)),
      )

      places : all_pass (leb (cell_count g)) (length s.codes ∷ lent) ≡ true
      places = all_reach (cell_count g) (length s.codes ∷ lent) (
        w.grid.has_codes,
        every_map (λ n. 4096 ≤ n) (λ n. cell_count g ≤ n) (λ n k. omega (arith, k, few_cells)) lent h,
      )

      codes : all_below (λ x. is_code table1 (get_or s.codes x 0)) (cell_count g) ≡ true
      codes = all_first (is_code table1) s.codes (cell_count g) w.grid.has_codes ∙ w.grid.are_codes

  -- so accumulating refuses a ring at most
  accumulate_among : In (accumulate_number g (zeros 4096)) numbers
  unfolding accumulate_number check13
  accumulate_among = fails_only numbers (inl refl) (grid_checks g (length (zeros 4096) ∷ []) ++ (check13 g ∷ []))
      (grid_passes (length (zeros 4096) ∷ []) (check13 g ∷ []) (omega (arith, lent_places), tt)
      (inr (inr (inl refl)), λ p. tt))

  -- ---- tracing what accumulating left

  module _ (free : accumulate_number g (zeros 4096) ≡ 0) where
    abbrev c : Catchment
    c = sheet_catchment s

    pub agreed : agrees g c.accumulation ≡ true
    agreed = accumulated_agrees g (zeros 4096) free

    accumulation_places : length c.accumulation ≡ 4096
    unfolding accumulate_leaves
    accumulation_places = rw free (overlaid_length (accumulations g) (zeros 4096) ∙ lent_places)

    module _ (place : ℕ) (asked : (place < length s.outlets) ⊎ (place ≡ 0)) where
      abbrev o : ℕ
      o = chosen (call_at c place)

      inside : leb 1 (length s.outlets) && leb (length s.outlets) 256 ≡ true → place < length s.outlets
      inside p = go asked
        where
          some : 1 ≤ length s.outlets
          some = leb-true 1 (length s.outlets)
              (and_both (leb 1 (length s.outlets)) (leb (length s.outlets) 256) p).0

          go : (place < length s.outlets) ⊎ (place ≡ 0) → place < length s.outlets
          go (inl h) = h
          go (inr e) = omega (arith, e, some)

      solid : place < length s.outlets → all_pass (λ x. ltb x (cell_count g) && ground g x) s.outlets ≡ true
          → ground g o ≡ true
      solid h p = (and_both (ltb o (cell_count g)) (ground g o)
          (all_at (λ x. ltb x (cell_count g) && ground g x) s.outlets p place h)).1

      few : ground g o ≡ true → chosen_cells (call_at c place) ≤ 4096
      few v = omega (arith, few_cells, sub_at_most g c.accumulation agreed s.outlets o v)

      -- what follows 12
      abbrev later : List Check
      later =
          check14 g c.accumulation ∷ check15 s.outlets ∷ check16 g s.outlets ∷ check17 s.outlets
          ∷ check18 s.outlets place ∷ check20 (chosen_cells (call_at c place)) started_work
          ∷ check21 (path_count (chosen_tracing (call_at c place))) started_lent.starts ∷ []

      has_work : ground g o ≡ true → leb (numbers_each * chosen_cells (call_at c place)) (length started_work) ≡ true
      has_work v = le-leb (numbers_each * chosen_cells (call_at c place)) (length started_work)
          (omega (arith, few v, length-replicate {A = ℕ} (numbers_each * 4096) 0))

      has_list : place < length s.outlets → ground g o ≡ true
          → leb (path_count (chosen_tracing (call_at c place))) (length (zeros 4096)) ≡ true
      has_list h v = le-leb (path_count (chosen_tracing (call_at c place))) (length (zeros 4096))
          (omega (
            arith,
            few v,
            lent_places,
            (demand3 g c.accumulation agreed s.outlets o (member_at s.outlets place h) v 1 true).few,
          ))

      -- 14, 18, 20 and 21 pass
      later_passes : FailsOnly numbers later
      unfolding check14 check15 check16 check17 check18 check20 check21
      later_passes = (
        inl agreed,
        λ p14. (
          inr (inr (inr (inl refl))),
          λ p15. (
            inr (inr (inr (inr (inl refl)))),
            λ p16. (
              inr (inr (inr (inr (inr (inl refl))))),
              λ p17. (
                inl (lt-ltb place (length s.outlets) (inside p15)),
                λ p18. (
                  inl (has_work (solid (inside p15) p16)),
                  λ p20. (inl (has_list (inside p15) (solid (inside p15) p16)), λ p21. tt),
                ),
              ),
            ),
          ),
        ),
      )

      place_among : In (number_at c place) numbers
      unfolding stack_number check25
      place_among =
          let lent = length c.accumulation ∷ length (zeros 4096) ∷ [] in
          fails_only numbers (inl refl) (check25 1 ∷ (grid_checks g lent ++ later)) (
            inl refl,
            λ p25. grid_passes lent later (omega (arith, accumulation_places), (omega (arith, lent_places), tt))
                later_passes,
          )

    places_among : (place n : ℕ) → place + n ≤ length s.outlets → Every (λ k. In k numbers) (numbers_from c place n)
    unfolding numbers_from
    places_among place zero h = tt
    places_among place (suc n) h =
        (place_among place (inl (omega arith)), places_among (place + 1) n (omega arith))

    tracing_among : In (tracing_number c) numbers
    unfolding tracing_number
    tracing_among = first_among (number_at c 0 ∷ numbers_from c 0 (length s.outlets))
        (place_among 0 (inr refl), places_among 0 (length s.outlets) (omega arith))

  sheet_among : In (sheet_number s) numbers
  unfolding sheet_number first_number
  sheet_among = go (eqb (accumulate_number g (zeros 4096)) 0) refl
    where
      go : (b : Bool) → eqb (accumulate_number g (zeros 4096)) 0 ≡ b → In (sheet_number s) numbers
      go true e = let free = eqb-true (accumulate_number g (zeros 4096)) 0 e in
          rw e (first_among (tracing_number (sheet_catchment s) ∷ []) (tracing_among free, tt))
      go false e = rw e accumulate_among

-- AFTER READING the desk refuses with 13, 15, 16 or 17 at most
pub after_reading : (file : List ℕ) → (read_sheet file (zeros 4096) (zeros 256)).number ≡ 0
    → In (sheet_number (left_content file (zeros 4096) (zeros 256))) (0 ∷ 13 ∷ 15 ∷ 16 ∷ 17 ∷ [])
after_reading file good =
    sheet_among (left_content file (zeros 4096) (zeros 256))
    (left_spellable file (zeros 4096) (zeros 256) (accepted_number file 4096 256 good))
