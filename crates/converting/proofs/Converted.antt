-- What the converter tells, by the number of the checks and by the counterparts.
-- Assumes nothing.
use mathlib.Core.Path.{◌≡◌, refl, sym, ap, ◌∙◌, subst}
use mathlib.Core.Bool.{true, false, ◌&&◌}
use mathlib.Core.Logic.{◌⊎◌, inl}
use mathlib.Core.List.{List, [], ◌∷◌}
use Prim.Native.Nat.{ℕ, ◌*◌, ◌≤◌, ◌<◌}
use native.Mathlib.Omega.{arith}
use lib.ListN.{length, get_or}
use borrow.Author.Tests.{ne_eqb}
use Rattle.lists.specs.Slices.{overlaid, Kept}
use Rattle.lists.proofs.Lists.{all_below_lem, get_d_map}
use Rattle.lists.proofs.Members.{position_of}
use Rattle.lists.proofs.Overlaid.{front_is}
use Rattle.ground.specs.Tables.{Table, is_table, table_of, codes_of, is_code}
use Rattle.ground.specs.Grid.{Grid, cell_count}
use Rattle.ground.specs.Converting.{recoded, converted_codes}
use Rattle.ground.proofs.Converting.{recoded_codes, converted_length, converted_at}
use Rattle.answers.specs.Checks.{first_failed, check10, check11, check12, check24}
use Rattle.answers.specs.Entries.{grid_checks}
use Rattle.answers.specs.Converting.{Conversion, source, convert_number, convert_leaves, Converts}
use Rattle.answers.proofs.FirstFailed.{passed}
use Rattle.moves.proofs.Spots.{size}
use Rattle.checks.proofs.Passed.{Sized, sized}
use Rattle.converting.specs.Rewriting.{counterpart, Pairs, Readable, Rewritten}
use Rattle.converting.proofs.Rewriting.{counterpart_at}

-- the codes of two tables stand beside each other
pairs : (from to : Table) {a b : List ℕ} → a ≡ codes_of from → b ≡ codes_of to → Pairs a b
pairs from to e f = record { from_length = rw e; to_length = rw f }

-- the counterpart of a code is its code in the other table
counterpart_recoded : (from to : Table) {a b : List ℕ} → a ≡ codes_of from → b ≡ codes_of to → (code : ℕ)
    → is_code from code ≡ true → counterpart 10 a b code ≡ recoded from to code
unfolding is_code
counterpart_recoded from to {a} {b} e f code coded =
    let p = position_of code (codes_of from) coded in
    let all : 10 ≤ length (codes_of from) = omega arith in
    ap (λ (xs : List ℕ). counterpart 10 xs b code) e
    ∙ counterpart_at (codes_of from) b from.apart p.at code p.holds 10 p.inside all
    ∙ ap (λ (xs : List ℕ). get_or xs p.at 0) (f ∙ sym (recoded_codes from to))
    ∙ get_d_map (recoded from to) (codes_of from) p.at 0 p.inside
    ∙ ap (recoded from to) p.holds

module _ (c : Conversion) (old : List ℕ) where
  abbrev g : Grid
  g = source c

  -- 24
  pub not_tables : (is_table c.from && is_table c.to) ≡ false → {number : ℕ} → number ≡ 24
      → Converts c old number old
  unfolding first_failed check24 convert_number convert_leaves
  not_tables e n = record { answers = n ∙ rw e; leaves = rw e }

  module _ (from_is : is_table c.from ≡ true) (to_is : is_table c.to ≡ true) {number : ℕ}
      (is : number ≡ first_failed (grid_checks g (length old ∷ []))) where
    number_is : number ≡ convert_number c old
    unfolding first_failed check24 convert_number
    number_is = is ∙ rw (from_is, to_is)

    -- REFUSED
    pub refused : (number ≡ 0 → ⊥) → Converts c old number old
    unfolding convert_leaves
    refused f = record { answers = number_is; leaves = rw (sym number_is, ne_eqb number 0 f) }

    -- THE SIZES PASS
    module _ (late : (number < 10) ⊎ (11 < number)) where
      sizes : Sized g.rows g.cols g.codes (length old ∷ [])
      sizes = sized g (length old ∷ []) [] number late (sym is)

      pub fits : cell_count g ≤ 4096 * 4096
      fits = size sizes.grid.sides

      pub readable : {n : ℕ} {a b : List ℕ} → n ≡ cell_count g → a ≡ codes_of g.table → b ≡ codes_of (table_of c.to)
          → Readable n a b g.codes old
      readable e p q = record {
        pairs = pairs g.table (table_of c.to) p q;
        has_codes = omega (arith, e, sizes.grid.has_codes);
        has_places = omega (arith, e, sizes.reach (length old) (inl refl));
      }

    -- ACCEPTED
    module _ (z : number ≡ 0) where
      codes_in : (x : ℕ) → x < cell_count g → is_code g.table (get_or g.codes x 0) ≡ true
      unfolding check10 check11 check12
      codes_in = all_below_lem _ (cell_count g)
          (passed 12 0 (grid_checks g (length old ∷ [])) [] refl (inl (omega arith)) (sym is ∙ z) 12)

      pub told : {shown : ℕ} {a b new : List ℕ} → shown ≡ 0 → a ≡ codes_of g.table → b ≡ codes_of (table_of c.to)
          → Rewritten (cell_count g) (cell_count g) a b g.codes old new → Converts c old shown new
      unfolding convert_leaves
      told {shown} {a} {b} {new} s e f w =
          record { answers = s ∙ sym z ∙ number_is; leaves = over ∙ rw (sym number_is ∙ z) }
        where
          room : Sized g.rows g.cols g.codes (length old ∷ [])
          room = sizes (inl (omega arith))

          to : Table
          to = table_of c.to

          long : length (converted_codes g to) ≡ cell_count g
          long = converted_length g to room.grid.has_codes

          over : new ≡ overlaid (converted_codes g to) old
          over = front_is (converted_codes g to) (omega (arith, long, room.reach (length old) (inl refl)))
              (subst (λ (n : ℕ). Kept n old new) (sym long) w.kept)
              (λ x h. let i : x < cell_count g = omega (arith, h, long) in
              w.are_counterparts x i ∙ counterpart_recoded g.table to e f (get_or g.codes x 0) (codes_in x i)
              ∙ sym (converted_at g to room.grid.has_codes x i))
