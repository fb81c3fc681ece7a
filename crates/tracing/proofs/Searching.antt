-- From an engine's record to what the definition tells of the chosen outlet.
-- Assumes nothing.
use mathlib.Core.Path.{◌≡◌, refl, sym, ap, ◌∙◌, subst}
use mathlib.Core.Bool.{Bool, true}
use mathlib.Core.List.{List, [], ◌∷◌, map}
use Prim.Native.Nat.{ℕ, ◌+◌, ◌*◌, ◌<◌}
use native.Mathlib.Omega.{arith}
use lib.ListN.{length, get_or, length-map}
use Rattle.cells.specs.Numbers.{RowAndColumn}
use Rattle.cells.proofs.Numbers.{row_inside}
use Rattle.lengths.specs.declared.Length.{Length}
use Rattle.ground.specs.Compass.{Dir}
use Rattle.ground.specs.Grid.{Grid, grid_of, ground}
use Rattle.ground.specs.Accumulation.{subaccumulation}
use Rattle.ground.specs.Forest.{Which}
use Rattle.ground.proofs.Cells.{ground_within}
use Rattle.search.specs.Tracing.{Tracing, first_length, path_count, start_cells, tracing, tracing_by}
use Rattle.search.specs.Editions.{meets_by}
use Rattle.search.proofs.Demand3.{demand3}
use Rattle.search.proofs.Editions.{met_inside}
use Rattle.notes.specs.Notes.{cells_held}
use Rattle.progress.specs.declared.Progress.{Progress}
use Rattle.progress.specs.Starts.{kept, start_at, state_of}
use Rattle.progress.proofs.Kept.{kept_length}
use Rattle.upstream.specs.Ready.{Ready, OnGround, cells_at, met_in, MetAt, Searched}
use Rattle.lists.specs.Lists.{member}
use Rattle.lists.specs.Slices.{overlaid}
use Rattle.answers.specs.declared.Traced.{Traced}
use Rattle.lists.proofs.Members.{member_at}
use Rattle.lists.proofs.Overlaid.{overlaid_length}
use Rattle.listing.specs.Answering.{answer_with}
use Rattle.tracing.specs.Answering.{cells_of, Counted, Lists}
use Rattle.tracing.specs.Preparing.{Chosen}

-- starts of one length: their cells, and the length of the first
cells_of_lem : (l : Length) (cs : List ℕ) → map (λ x. x.cell) (map (start_at l) cs) ≡ cs
cells_of_lem l [] = refl
cells_of_lem l (c ∷ cs) = ap (λ (xs : List ℕ). c ∷ xs) (cells_of_lem l cs)

first_of : (l : Length) (cs : List ℕ) → 0 < length cs → first_length (map (start_at l) cs) ≡ l
first_of l [] h = absurd (omega (arith, h))
first_of l (c ∷ cs) h = refl

module _ {rows cols : ℕ} {codes outlets subaccumulations : List ℕ}
    (ready : Ready rows cols codes outlets subaccumulations) {place : ℕ}
    (chosen : Chosen rows cols codes outlets place) where
  abbrev land : Grid
  land = grid_of rows cols codes

  abbrev outlet : ℕ
  outlet = get_or outlets place 0

  -- its cells, in the grid
  pub own_cells : (outlet < length subaccumulations)
      × (cells_held (get_or subaccumulations outlet 0) ≡ subaccumulation land outlets outlet)
  own_cells =
      let i = ground_within land outlet chosen.solid in
      (omega (arith, i, ready.has_subaccumulations), ready.filled outlet i)

  -- by its row and its column
  module _ {row col : ℕ} (cell : RowAndColumn cols (get_or outlets place 0) row col) where
    pub at_outlet : OnGround rows cols codes row col
    at_outlet = record {
      row_in = row_inside cell (ground_within land outlet chosen.solid);
      col_in = cell.col_in;
      solid = subst (λ (y : ℕ). ground land y ≡ true) (sym cell.is_number) chosen.solid;
    }

    pub cells_there : cells_at rows cols codes outlets row col ≡ cells_of rows cols codes outlets place
    cells_there = ap (subaccumulation land outlets) cell.is_number

    pub searched_there : {met : Which Dir} {dropping : Bool} {end : ℕ} {p : Progress} {new : List ℕ}
        → Searched land outlets met dropping (row * cols + col) end p new
        → Searched land outlets met dropping outlet end p new
    searched_there {met} {dropping} {end} {p} {new} s =
        subst (λ (y : ℕ). Searched land outlets met dropping y end p new) cell.is_number s

    -- the same in as much working space as the outlet has cells
    pub searched_within : {met : Which Dir} {dropping : Bool} {p : Progress} {new : List ℕ}
        → Searched land outlets met dropping (row * cols + col) (3 * cells_at rows cols codes outlets row col) p new
        → Searched land outlets met dropping outlet (3 * cells_of rows cols codes outlets place) p new
    searched_within {met} {dropping} {p} {new} s =
        subst (λ (m : ℕ). Searched land outlets met dropping outlet (3 * m) p new) cells_there (searched_there s)

  module _ (edition : ℕ) (told : MetAt edition land outlets outlet subaccumulations) {dropping : Bool} {end : ℕ}
      {p : Progress} {new : List ℕ} (s : Searched land outlets (met_in edition subaccumulations) dropping outlet end p new)
    where
      listed : member outlet outlets ≡ true
      listed = member_at outlets place chosen.in_list

      -- THE ENGINE'S RECORD IS THE DEFINITION'S TRACING
      found : tracing edition dropping land outlets outlet ≡ state_of p new end
      unfolding tracing_by
      found = sym (s.state ∙ met_inside land ready.lent ready.agreed outlets outlet listed chosen.solid
          (met_in edition subaccumulations) (meets_by edition land outlets outlet) told dropping)

      many : length (kept new end p.paths) ≡ p.paths
      many = kept_length new end p.paths

      count : path_count (state_of p new end) ≡ p.paths
      count = length-map (kept new end p.paths) (start_at p.greatest) ∙ many

      some_path : 0 < p.paths
      some_path =
          let d = demand3 land ready.lent ready.agreed outlets outlet listed chosen.solid edition dropping in
          omega (arith, subst (λ (t : Tracing). 0 < path_count t) found d.not_none, count)

      pub counted : Counted (tracing edition dropping land outlets outlet) p
      counted = subst (λ (t : Tracing). Counted t p) (sym found) (record {
        longest = sym (first_of p.greatest (kept new end p.paths) (omega (arith, some_path, many)));
        count = sym count;
        visited = refl;
        dropped = refl;
      })

      pub starts_are : kept new end p.paths ≡ start_cells (tracing edition dropping land outlets outlet)
      starts_are = subst (λ (t : Tracing). kept new end p.paths ≡ start_cells t) (sym found)
          (sym (cells_of_lem p.greatest (kept new end p.paths)))

-- so is the answer
pub answers_counted : {t : Tracing} {p : Progress} → Counted t p → {old list : List ℕ} {r : Traced}
    → r ≡ answer_with p.greatest p.paths p.visited p.dropped (length list)
    → list ≡ overlaid (start_cells t) old → Lists t old r list
answers_counted {t} {p} f {old} {list} {r} e l = record {
  answers = e ∙ rw (
    f.longest,
    f.count,
    f.visited,
    f.dropped,
    ap length l ∙ overlaid_length (start_cells t) old,
  );
  lists = l;
}
