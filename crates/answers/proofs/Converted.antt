-- WHAT AN ACCEPTED CONVERSION COMES TO: directions, null, ponds and flow are kept, and every way through the tables is
-- the same.
-- Assumes nothing.
use mathlib.Core.Path.{◌≡◌, refl, sym, ap, ◌∙◌}
use mathlib.Core.Bool.{Bool, true, not, cond, ◌&&◌}
use mathlib.Core.Logic.{inl, inr}
use mathlib.Core.List.{List, [], ◌∷◌}
use mathlib.Core.Option.{Option, none, some}
use Prim.Native.Nat.{ℕ, ◌≤◌, ◌<◌}
use native.Mathlib.Omega.{arith}
use native.Mathlib.Decide.{dec_lt}
use lib.ListN.{length, get_or, take}
use lib.Seq.{length-take-le, get_or-take, ext_get_or}
use lib.Dec.{eqb, leb}
use borrow.Author.Tests.{leb-true, le-leb}
use Rattle.lists.specs.Lists.{In}
use Rattle.lists.specs.Slices.{overlaid}
use Rattle.lists.proofs.Lists.{and_both, all_below_lem, below_all}
use Rattle.lists.proofs.Overlaid.{overlaid_length, overlaid_at}
use Rattle.ground.specs.Compass.{Dir}
use Rattle.ground.specs.Tables.{Table, pond, undirected, is_table, table_of, dir_of, is_code}
use Rattle.ground.specs.Grid.{Grid, grid_in, cell_count, code_at, ground, is_pond, neighbour, flow, onto, next}
use Rattle.ground.specs.Converting.{recoded, converted_codes}
use Rattle.ground.proofs.Cells.{code_inside, code_outside, next_along, next_none}
use Rattle.ground.proofs.Converting.{undirected_code, recoded_none, recoded_dir_of, recoded_kept, recoded_code}
use Rattle.ground.proofs.Converting.{recoded_on, recoded_same, converted_length, converted_at}
use Rattle.answers.specs.Checks.{first_failed, check10, check11, check12, check24}
use Rattle.answers.specs.Entries.{grid_checks}
use Rattle.answers.specs.Converting.{Conversion, source, target, convert_number, convert_leaves, Converts}
use Rattle.answers.specs.Converting.{Converted, onward, direct, ByWay}
use Rattle.answers.proofs.FirstFailed.{passes_of, passed}

-- a grid that passes 12, and one that has its codes in another table
module _ (g : Grid) (to : Table) (new : List ℕ) (has_codes : cell_count g ≤ length g.codes)
    (are_codes : (x : ℕ) → x < cell_count g → is_code g.table (get_or g.codes x 0) ≡ true)
    (has_new : cell_count g ≤ length new)
    (same : (x : ℕ) → x < cell_count g → get_or new x 0 ≡ recoded g.table to (get_or g.codes x 0)) where
  abbrev h : Grid
  h = grid_in to g.rows g.cols new

  -- the code of any cell, on the grid or beyond it
  coded : (x : ℕ) → is_code g.table (code_at g x) ≡ true
  coded x = elim (dec_lt x (cell_count g)) [
    | yes i ↦ ap (is_code g.table) (code_inside g x i) ∙ are_codes x i
    | no i ↦ ap (is_code g.table) (code_outside g x (omega arith)) ∙ undirected_code g.table 0 (inl refl)
  ]

  code_is : (x : ℕ) → code_at h x ≡ recoded g.table to (code_at g x)
  code_is x = elim (dec_lt x (cell_count g)) [
    | yes i ↦ code_inside h x i ∙ same x i ∙ ap (recoded g.table to) (sym (code_inside g x i))
    | no i ↦ beyond (omega arith)
  ]
    where
      beyond : cell_count g ≤ x → code_at h x ≡ recoded g.table to (code_at g x)
      beyond i = code_outside h x i ∙ sym (recoded_none g.table to 0 (inl refl))
          ∙ ap (recoded g.table to) (sym (code_outside g x i))

  same_direction : (x : ℕ) → flow h x ≡ flow g x
  same_direction x = ap (dir_of to) (code_is x) ∙ recoded_dir_of g.table to (code_at g x) (coded x)

  kept : (x u : ℕ) → In u undirected → eqb (code_at h x) u ≡ eqb (code_at g x) u
  kept x u i = ap (λ (c : ℕ). eqb c u) (code_is x) ∙ recoded_kept g.table to (code_at g x) (coded x) u i

  same_ground : (x : ℕ) → ground h x ≡ ground g x
  same_ground x = ap not (kept x 0 (inl refl))

  same_ponds : (x : ℕ) → is_pond h x ≡ is_pond g x
  same_ponds x = kept x pond (inr (inl refl))

  onto_same : (d : Dir) (o : Option ℕ) → onto h d o ≡ onto g d o
  onto_same d none = refl
  onto_same d (some y) = ap (λ (b : Bool). cond b (some (record { cell = y; step = d })) none) (same_ground y)

  same_next : (x : ℕ) → next h x ≡ next g x
  unfolding neighbour
  same_next x = go (flow g x) refl
    where
      go : (o : Option Dir) → flow g x ≡ o → next h x ≡ next g x
      go none e = next_none h x (same_direction x ∙ e) ∙ sym (next_none g x e)
      go (some d) e = next_along h x d (same_direction x ∙ e) ∙ onto_same d (neighbour g x d) ∙ sym (next_along g x d e)

  by_way : (on : Table) → converted_codes h on ≡ converted_codes g on
  by_way on = ext_get_or 0 (converted_codes h on) (converted_codes g on)
      (converted_length h on has_new ∙ sym (converted_length g on has_codes))
      (λ x k. let i : x < cell_count g = omega (arith, converted_length h on has_new) in
      converted_at h on has_new x i ∙ ap (recoded to on) (same x i)
      ∙ recoded_on g.table to on (get_or g.codes x 0) (are_codes x i) ∙ sym (converted_at g on has_codes x i))

  -- in its own table the grid stays as it is
  own_codes : converted_codes g g.table ≡ take (cell_count g) g.codes
  own_codes = ext_get_or 0 (converted_codes g g.table) (take (cell_count g) g.codes)
      (converted_length g g.table has_codes ∙ sym (length-take-le (cell_count g) g.codes has_codes))
      (λ x k. let i : x < cell_count g = omega (arith, converted_length g g.table has_codes) in
      converted_at g g.table has_codes x i ∙ recoded_same g.table (get_or g.codes x 0) (are_codes x i)
      ∙ sym (get_or-take (cell_count g) g.codes x 0 i))

  pub converted : Converted g h
  unfolding check12
  converted = record {
    same_direction = same_direction;
    same_ground = same_ground;
    same_ponds = same_ponds;
    same_next = same_next;
    passes_12 = below_all (λ x. is_code to (get_or new x 0)) (cell_count g)
        (λ x i. ap (is_code to) (same x i) ∙ recoded_code g.table to (get_or g.codes x 0) (are_codes x i));
    by_way = by_way;
    back = by_way g.table ∙ own_codes;
  }

-- AN ACCEPTED CALL
module _ (c : Conversion) {old new : List ℕ} (k : Converts c old 0 new) where
  abbrev g : Grid
  g = source c

  abbrev to : Table
  to = table_of c.to

  passes : (number : ℕ) → passes_of number (check24 c.from c.to ∷ grid_checks g (length old ∷ [])) ≡ true
  unfolding convert_number check10 check11 check12 check24
  passes = passed 24 0 (check24 c.from c.to ∷ grid_checks g (length old ∷ [])) [] refl (inl (omega arith))
      (sym k.answers)

  reach : (cell_count g ≤ length g.codes) × (cell_count g ≤ length old)
  unfolding check10 check11 check12 check24
  reach =
      let p = and_both (leb (cell_count g) (length g.codes)) (leb (cell_count g) (length old) && true) (passes 11) in
      let q = and_both (leb (cell_count g) (length old)) true p.1 in
      (leb-true (cell_count g) (length g.codes) p.0, leb-true (cell_count g) (length old) q.0)

  are_codes : (x : ℕ) → x < cell_count g → is_code g.table (get_or g.codes x 0) ≡ true
  unfolding check10 check11 check12 check24
  are_codes = all_below_lem (λ x. is_code g.table (get_or g.codes x 0)) (cell_count g) (passes 12)

  over : new ≡ overlaid (converted_codes g to) old
  unfolding convert_leaves
  over = k.leaves ∙ rw (sym k.answers)

  same : (x : ℕ) → x < cell_count g → get_or new x 0 ≡ recoded g.table to (get_or g.codes x 0)
  same x i =
      let l = converted_length g to reach.0 in
      ap (λ (n : List ℕ). get_or n x 0) over
      ∙ overlaid_at (converted_codes g to) old (omega (arith, l, reach.1)) x (omega (arith, l, i))
      ∙ converted_at g to reach.0 x i

  lent_room : cell_count g ≤ length new
  lent_room = omega (arith, reach.1, ap (λ (n : List ℕ). length n) over, overlaid_length (converted_codes g to) old)

  pub accepted_converts : Converted g (target c new)
  accepted_converts = converted g to new reach.0 are_codes
      lent_room same

  -- ---- the call that goes on from there, and the direct one

  both_tables : (is_table c.from ≡ true) × (is_table c.to ≡ true)
  unfolding check10 check11 check12 check24
  both_tables = and_both (is_table c.from) (is_table c.to) (passes 24)

  -- what is left of the checks of either
  number_onward : (t : ℕ) (lent : List ℕ) → convert_number (onward c new t) lent
      ≡ cond (is_table t) (cond (leb (cell_count g) (length lent) && true) 0 11) 24
  unfolding convert_number first_failed check10 check11 check12 check24
  number_onward t lent = rw (
    both_tables.1,
    passes 10,
    le-leb (cell_count g) (length new) lent_room,
    accepted_converts.passes_12,
  )

  number_direct : (t : ℕ) (lent : List ℕ) → convert_number (direct c t) lent
      ≡ cond (is_table t) (cond (leb (cell_count g) (length lent) && true) 0 11) 24
  unfolding convert_number first_failed check10 check11 check12 check24
  number_direct t lent = rw (both_tables.0, passes 10, le-leb (cell_count g) (length g.codes) reach.0, passes 12)

  same_number : (t : ℕ) (lent : List ℕ) → convert_number (onward c new t) lent ≡ convert_number (direct c t) lent
  same_number t lent = number_onward t lent ∙ sym (number_direct t lent)

  same_left : (t : ℕ) (lent : List ℕ) → convert_leaves (onward c new t) lent ≡ convert_leaves (direct c t) lent
  unfolding convert_leaves
  same_left t lent = rw (same_number t lent, accepted_converts.by_way (table_of t))

  pub by_way_seen : ByWay c new
  by_way_seen = record {
    accepted = λ {to = t} {old = lent} e room s. s.answers ∙ number_onward t lent
        ∙ rw (e, le-leb (cell_count g) (length lent) room);
    as_direct = λ {to = t} {old = lent} s d. (
      s.answers ∙ same_number t lent ∙ sym d.answers,
      s.leaves ∙ same_left t lent ∙ sym d.leaves,
    );
  }
