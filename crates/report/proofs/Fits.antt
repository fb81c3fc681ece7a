-- THE DESK LOSES NO LINE: what it prints for any file fits the bytes that it lends.
-- Assumes nothing.
use mathlib.Core.Path.{◌≡◌, refl, ap, ◌∙◌}
use mathlib.Core.Bool.{Bool, true, false, ◌&&◌}
use mathlib.Core.Logic.{inl}
use mathlib.Core.List.{List, [], ◌∷◌, ◌++◌, map}
use Prim.Native.Nat.{ℕ, zero, suc, ◌+◌, ◌*◌, ◌/◌, ◌%◌, ◌≤◌, ◌<◌}
use native.Mathlib.Nat.{mod-lt, div-lt_iff_lt-mul}
use native.Mathlib.Omega.{arith}
use lib.ListN.{length, take, drop, get_or, length-append}
use lib.Seq.{drop-cons}
use lib.Dec.{eqb, ltb}
use borrow.Author.Tests.{eqb-true, eqb-false, ltb-true}
use Rattle.lists.specs.Lists.{Every, sum_of}
use Rattle.lists.specs.Slices.{zeros, overlaid}
use Rattle.lists.proofs.Lists.{and_both, every_is, every_map}
use Rattle.lists.proofs.Members.{different_sorted}
use Rattle.lists.proofs.Overlaid.{overlaid_taken}
use Rattle.ground.specs.Grid.{Grid, cell_count, ground}
use Rattle.ground.specs.Accumulation.{subaccumulation}
use Rattle.ground.proofs.AllOutlets.{outlets_cells, inside_bounded}
use Rattle.search.specs.Tracing.{Tracing, path_count, start_cells}
use Rattle.answers.specs.Checks.{check10, check11, check12, check14, check15, check16, check17, check18, check25}
use Rattle.answers.specs.Entries.{Catchment, accumulate_number}
use Rattle.answers.specs.Answers.{traced_with}
use Rattle.answers.specs.Tracings.{chosen, chosen_tracing, call_checks, stack_number, leaves_starts}
use Rattle.answers.proofs.FirstFailed.{all_every, all_at, passes_of, passed_others}
use Rattle.answers.proofs.Accepted.{Promise, stack_reached}
use Rattle.lines.specs.declared.OutletLine.{OutletLine}
use Rattle.lines.specs.Line.{catchment_line, outlet_line, path_line, refused_line}
use Rattle.lines.proofs.LineLengths.{catchment_length, outlet_length, path_length_lem, refused_length}
use Rattle.spelling.specs.Content.{Content}
use Rattle.spelling.specs.Reading.{read_sheet, left_content}
use Rattle.spelling.proofs.Writable.{Spellable}
use Rattle.spelling.proofs.RoundTrip.{left_spellable}
use Rattle.report.specs.Desk.{first_number, started_lent, started_work, call_at, number_at, traced_at, left_at}
use Rattle.report.specs.Desk.{numbers_from, path_lines, answer_lines, outlet_lines, outlets_lines, tracing_number}
use Rattle.report.specs.Desk.{sheet_grid, sheet_catchment, sheet_number, sheet_text, desk_text, text_bytes}
use Rattle.report.proofs.Whole.{accepted_number}
use Rattle.report.proofs.AfterReading.{few_cells, agreed}

-- ---- the lines of an outlet and its starts

module _ (rows cols : ℕ) (r : rows ≤ 64) (c : cols ≤ 64) (some : 0 < cols) where
  -- a cell of the grid has a row and a column of two digits
  row_two : (x : ℕ) → x < rows * cols → x / cols < 100
  row_two x h = omega (arith, r, (div-lt_iff_lt-mul some).1 h)

  col_two : (x : ℕ) → x % cols < 100
  col_two x = omega (arith, c, mod-lt x some)

  paths_length : (starts : List ℕ) → Every (λ x. x < rows * cols) starts
      → length (path_lines cols starts) ≤ 11 * length starts
  unfolding path_lines
  paths_length [] h = omega arith
  paths_length (x ∷ xs) h = omega (
    arith,
    length-append (path_line (x / cols) (x % cols)) (path_lines cols xs),
    path_length_lem (x / cols) (x % cols) (row_two x h.0) (col_two x),
    paths_length xs h.1,
  )

  lines_length : (line : OutletLine) (starts : List ℕ) → line.row < 100 → line.col < 100
      → Every (λ x. x < rows * cols) starts
      → length (outlet_line line ++ path_lines cols starts) ≤ 139 + 11 * length starts
  lines_length line starts row col h = omega (
    arith,
    length-append (outlet_line line) (path_lines cols starts),
    outlet_length line row col,
    paths_length starts h,
  )

-- ---- numbers that are all 0

first_0 : (n : ℕ) (ns : List ℕ) → first_number (n ∷ ns) ≡ 0 → (n ≡ 0) × (first_number ns ≡ 0)
unfolding first_number
first_0 n ns e = go (eqb n 0) refl
  where
    go : (b : Bool) → eqb n 0 ≡ b → (n ≡ 0) × (first_number ns ≡ 0)
    go true p = (eqb-true n 0 p, rw p at e)
    go false p = let z : n ≡ 0 = rw p at e in (z, absurd (eqb-false n 0 p z))

-- ---- a sheet whose outlets are all traced

module _ (s : Content) (w : Spellable s) (free : accumulate_number (sheet_grid s) (zeros 4096) ≡ 0) where
  abbrev g : Grid
  g = sheet_grid s

  abbrev c : Catchment
  c = sheet_catchment s

  -- one outlet: its line, and one for each start
  module _ (place : ℕ) (e : number_at c place ≡ 0) where
    abbrev t : Tracing
    t = chosen_tracing (call_at c place)

    promise : Promise (call_at c place)
    promise = (stack_reached (call_at c place) started_lent started_work).promise (inl e)

    taken : take (path_count t) (overlaid (start_cells t) (zeros 4096)) ≡ start_cells t
    taken = rw promise.number (overlaid_taken (start_cells t) (zeros 4096)
        (omega (arith, promise.number, (stack_reached (call_at c place) started_lent started_work).enough e)))

    passes : (k : ℕ) → passes_of k (call_checks (call_at c place) (zeros 4096)) ≡ true
    unfolding stack_number check10 check11 check12 check14 check15 check16 check17 check18 check25
    passes = passed_others 0 (call_checks (call_at c place) (zeros 4096)) _ refl e

    inside : place < length s.outlets
    unfolding check10 check11 check12 check14 check15 check16 check17 check18 check25
    inside = ltb-true place (length s.outlets) (passes 18)

    placed : (ltb (chosen (call_at c place)) (cell_count g) ≡ true) × (ground g (chosen (call_at c place)) ≡ true)
    unfolding check10 check11 check12 check14 check15 check16 check17 check18 check25
    placed = and_both (ltb (chosen (call_at c place)) (cell_count g)) (ground g (chosen (call_at c place)))
        (all_at (λ o. ltb o (cell_count g) && ground g o) s.outlets (passes 16) place inside)

    in_grid : Every (λ x. x < cell_count g) (start_cells t)
    in_grid = every_is (λ x. x < cell_count g) (start_cells t) (λ x i.
        inside_bounded g s.outlets (chosen (call_at c place)) x placed.1 ((promise.exact x).0 i).inside)

    outlet_fits : length (outlet_lines c place) ≤ 139 + 11 * path_count t
    unfolding outlet_lines traced_at left_at leaves_starts traced_with answer_lines
    outlet_fits =
        let o = chosen (call_at c place) in
        let rows = w.grid.rows_small in
        let cols = w.grid.cols_small in
        let some = w.grid.some_cols in
        rw (e, taken, promise.number) (lines_length s.rows s.cols rows cols some _ (start_cells t)
        (row_two s.rows s.cols rows cols some o (ltb-true o (cell_count g) placed.0))
        (col_two s.rows s.cols rows cols some o) in_grid)

  -- all outlets from a place on, by the cells of their subwatersheds
  outlets_fit : (place n : ℕ) → place + n ≡ length s.outlets → first_number (numbers_from c place n) ≡ 0
      → length (outlets_lines c place n)
      ≤ 139 * n + 11 * sum_of (map (subaccumulation g s.outlets) (drop place s.outlets))
  unfolding outlets_lines numbers_from sum_of
  outlets_fit place zero h z = omega arith
  outlets_fit place (suc n) h z =
      let p = first_0 (number_at c place) (numbers_from c (place + 1) n) z in
      let next : suc place ≡ place + 1 = omega arith in
      let opened = drop-cons s.outlets place 0 (omega arith)
      ∙ ap (λ (k : ℕ). get_or s.outlets place 0 ∷ drop k s.outlets) next in
      rw opened
      (omega (
        arith,
        length-append (outlet_lines c place) (outlets_lines c (place + 1) n),
        outlet_fits place p.0,
        (promise place p.0).few,
        outlets_fit (place + 1) n (omega arith) p.1,
      ))

  -- the outlets are different cells of the grid
  all_fit : tracing_number c ≡ 0 → length (outlets_lines c 0 (length s.outlets)) ≤ 139 * 256 + 11 * 4096
  unfolding tracing_number check10 check11 check12 check14 check15 check16 check17 check18 check25
  all_fit z =
      let p = first_0 (number_at c 0) (numbers_from c 0 (length s.outlets)) z in
      let q = passes 0 p.0 in
      omega (
        arith,
        outlets_fit 0 (length s.outlets) (omega arith) p.1,
        outlets_cells g s.outlets c.accumulation (agreed s w free) (different_sorted s.outlets (q 17))
            (every_map (λ o. (ltb o (cell_count g) && ground g o) ≡ true) (λ o. ground g o ≡ true)
            (λ o k. (and_both (ltb o (cell_count g)) (ground g o) k).1) s.outlets
            (all_every (λ o. ltb o (cell_count g) && ground g o) s.outlets (q 16))),
        few_cells s w,
        w.few,
      )

-- ---- the whole text

refused_fits : (number : ℕ) → length (refused_line number) ≤ text_bytes
refused_fits number = omega (arith, refused_length number)

sheet_fits : (s : Content) → Spellable s → (count : ℕ) → length (sheet_text s count) ≤ text_bytes
unfolding sheet_text sheet_number
sheet_fits s w count = go (eqb (sheet_number s) 0) refl
  where
    go : (b : Bool) → eqb (sheet_number s) 0 ≡ b → length (sheet_text s count) ≤ text_bytes
    go true e =
        let n = first_0 (accumulate_number (sheet_grid s) (zeros 4096)) (tracing_number (sheet_catchment s) ∷ [])
        (eqb-true (sheet_number s) 0 e) in
        rw e (omega (
          arith,
          length-append (catchment_line s.rows s.cols count)
              (outlets_lines (sheet_catchment s) 0 (length s.outlets)),
          catchment_length s.rows s.cols count,
          all_fit s w n.0 (first_0 (tracing_number (sheet_catchment s)) [] n.1).0,
        ))
    go false e = rw e (refused_fits (sheet_number s))

pub desk_fits : (file : List ℕ) → length (desk_text file) ≤ text_bytes
unfolding desk_text
desk_fits file = go (eqb (read_sheet file (zeros 4096) (zeros 256)).number 0) refl
  where
    go : (b : Bool) → eqb (read_sheet file (zeros 4096) (zeros 256)).number 0 ≡ b → length (desk_text file) ≤ text_bytes
    go true e = rw e (sheet_fits (left_content file (zeros 4096) (zeros 256))
        (left_spellable file (zeros 4096) (zeros 256) (accepted_number file 4096 256
        (eqb-true (read_sheet file (zeros 4096) (zeros 256)).number 0 e)))
        (read_sheet file (zeros 4096) (zeros 256)).outlets)
    go false e = rw e (refused_fits (read_sheet file (zeros 4096) (zeros 256)).number)
