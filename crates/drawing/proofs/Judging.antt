-- The number of a drawing by its checks.
-- Assumes nothing.
use mathlib.Core.Path.{◌≡◌, refl, sym, ap, ◌∙◌}
use mathlib.Core.Bool.{Bool, true, false, cond}
use mathlib.Core.Logic.{inl}
use mathlib.Core.List.{List, [], ◌∷◌, ◌++◌}
use Prim.Native.Nat.{ℕ, ◌≤◌, ◌<◌}
use native.Mathlib.Omega.{arith}
use lib.ListN.{length}
use Rattle.std.specs.Prelude.{Some, None, Result, Ok, Err}
use Rattle.std.specs.Result.{IsErrAnd}
use Rattle.std.proofs.lemmas.Result.{err_from_is_err_and}
use lib.Dec.{eqb, leb}
use borrow.Author.Tests.{eqb-true, eqb-false, ne_eqb, leb-true, le-leb, lt-leb}
use Rattle.ground.specs.Compass.{squares}
use Rattle.ground.specs.Grid.{cell_count, next}
use Rattle.ground.specs.Subwatershed.{is_outlet, in_subwatershed}
use Rattle.answers.specs.declared.Refusal.{Refusal}
use Rattle.answers.specs.declared.Refusal.TheVariants.{Start, Room}
use Rattle.answers.specs.Refusals.{refusal_number}
use Rattle.answers.specs.Checks.{Check, first_failed, check18, check22, check23}
use Rattle.answers.specs.Entries.{place_checks}
use Rattle.answers.specs.Drawing.{Drawing, drawn_path, draw_number, drawn_part}
use Rattle.answers.proofs.FirstFailed.{handed_on}
use Rattle.answers.proofs.Refusals.{has_number}
use Rattle.checks.proofs.Passed.{Sized, Listed, sized, listed, beyond_place, in_list}
use Rattle.flowpath.specs.FlowPath.{outlet_of, IsPath}
use Rattle.flowpath.specs.Measuring.{Surveyed, path_length}
use Rattle.flowpath.proofs.Walked.{flow_path}
use Rattle.drawing.specs.Judging.{Judged}

-- checks that give 0 with others after them give it without
first_passes : (cs ds : List Check) → first_failed (cs ++ ds) ≡ 0 → first_failed cs ≡ 0
first_passes cs ds z = go (eqb (first_failed cs) 0) refl
  where
    go : (b : Bool) → eqb (first_failed cs) 0 ≡ b → first_failed cs ≡ 0
    go true e = eqb-true (first_failed cs) 0 e
    go false e = handed_on cs ds refl (eqb-false (first_failed cs) 0 e) ∙ z

-- what the exit of a `?` hands on
pub same_err : {A : Type 0} {refusal : Refusal} (r : Result A Refusal) → IsErrAnd r (λ e. e ≡ refusal) → r ≡ Err refusal
same_err r h = let p = err_from_is_err_and r h in p.1 ∙ ap (λ (e : Refusal). Err e) p.2

-- what 10 to 18 have found out
pub record Chosen (q : Drawing) : Type 0 where
  pub surveyed : Surveyed q.catchment
  pub in_list : q.place < length q.catchment.outlets
  pub few_outlets : length q.catchment.outlets ≤ 256

module _ (q : Drawing) where
  -- 10 to 18
  abbrev pub early : List Check
  early = place_checks q.catchment q.place (length q.catchment.accumulation ∷ [])

  -- check 22's question
  abbrev is_inside : Bool
  is_inside = in_subwatershed q.catchment.grid q.catchment.outlets (outlet_of q) q.start

  -- the path from a cell of the subwatershed is a flow path
  pub inside_path : is_inside ≡ true → IsPath q (drawn_path q)
  unfolding in_subwatershed
  inside_path e = let c = q.catchment in
      flow_path (next c.grid) (is_outlet c.grid c.outlets) squares (cell_count c.grid) (outlet_of q)
      q.start e

  -- 10 TO 18 ARE PASSED
  pub chosen : first_failed early ≡ 0 → Chosen q
  chosen passes = record {
    surveyed = record {
      grid = size.grid;
      some_cols = size.some_cols;
      has_accumulation = size.reach (length q.catchment.accumulation) (inl refl);
      agreement = list.agreement;
      placed = list.at_ground;
    };
    in_list = in_list q.catchment (length q.catchment.accumulation ∷ []) q.place passes;
    few_outlets = list.few_outlets;
  }
    where
      size : let g = q.catchment.grid in
          Sized g.rows g.cols g.codes (length q.catchment.accumulation ∷ [])
      size = let g = q.catchment.grid in
          sized g (length q.catchment.accumulation ∷ []) _ 0 (inl (omega arith)) passes

      list : Listed q.catchment.grid q.catchment.accumulation q.catchment.outlets
      list = listed q.catchment (length q.catchment.accumulation ∷ [])
          (check18 q.catchment.outlets q.place ∷ []) 0 (inl (omega arith)) passes

-- where there is something to draw, the start lies in the subwatershed and the whole path is measured
inside : (q : Drawing) {count : ℕ}
    → Some count ≡ path_length q.catchment.grid q.catchment.outlets (outlet_of q) q.start
    → (is_inside q ≡ true) × (count ≡ length (drawn_path q))
unfolding path_length
inside q {count} is = go (is_inside q) refl
  where
    go : (b : Bool) → is_inside q ≡ b → (is_inside q ≡ true) × (count ≡ length (drawn_path q))
    go true e = let same : Some count ≡ Some (length (drawn_path q)) = is ∙ rw e in (e, (cc))
    go false e = let none : Some count ≡ None = is ∙ rw e in cc

module _ (q : Drawing) (lent : List ℕ) where
  -- 22 and 23
  abbrev last : List Check
  last = check22 q.catchment.grid q.catchment.outlets (outlet_of q) q.start ∷ check23 (drawn_path q) lent ∷ []

  number_is : draw_number q lent ≡ first_failed (early q ++ last)
  unfolding draw_number
  number_is = refl

  refused : (refusal : Refusal) → draw_number q lent ≡ refusal_number refusal → Judged q lent (Err refusal)
  unfolding drawn_part
  refused refusal e =
      record { answers = sym e; counts = rw (e, ne_eqb (refusal_number refusal) 0 (has_number refusal)) }

  -- REFUSED BY 10 TO 18
  pub refused_early : (refusal : Refusal) (r : Result ℕ Refusal) → IsErrAnd r (λ e. e ≡ refusal)
      → refusal_number refusal ≡ first_failed (early q) → Judged q lent r
  refused_early refusal r h is = rw (same_err r h)
      (refused refusal (number_is ∙ sym (handed_on (early q) last is (has_number refusal))))

  module _ (passes : first_failed (early q) ≡ 0) where
    -- then 22 and 23
    by_last : draw_number q lent ≡ cond (is_inside q) (cond (leb (length (drawn_path q)) (length lent)) 0 23) 22
    unfolding first_failed check22 check23
    by_last = number_is
        ∙ beyond_place q.catchment (length q.catchment.accumulation ∷ []) q.place last passes

    -- REFUSED BY 22: there is nothing to draw
    pub refused_22 : None ≡ path_length q.catchment.grid q.catchment.outlets (outlet_of q) q.start
        → Judged q lent (Err Start)
    unfolding path_length
    refused_22 is = go (is_inside q) refl
      where
        go : (b : Bool) → is_inside q ≡ b → Judged q lent (Err Start)
        go true e = let some : None ≡ Some (length (drawn_path q)) = is ∙ rw e in cc
        go false e = refused Start (by_last ∙ rw e)

    module _ {count : ℕ}
        (is : Some count ≡ path_length q.catchment.grid q.catchment.outlets (outlet_of q) q.start) where
      -- BY 23
      pub refused_23 : length lent < count → Judged q lent (Err Room)
      refused_23 h =
          let i = inside q is in
          refused Room
          (by_last ∙ rw (i.0, lt-leb (length (drawn_path q)) (length lent) (omega (arith, h, i.1))))

      -- OR ACCEPTED
      pub accepted : count ≤ length lent → Judged q lent (Ok count)
      unfolding drawn_part
      accepted h =
          let i = inside q is in
          let z : draw_number q lent ≡ 0
          = by_last ∙ rw (i.0, le-leb (length (drawn_path q)) (length lent) (omega (arith, h, i.1))) in
          record { answers = sym z; counts = i.1 ∙ rw z }

  -- WHAT 0 SAYS: every check passes
  pub record Accepted : Type 0 where
    pub passes : first_failed (early q) ≡ 0
    pub inside : is_inside q ≡ true
    pub fits : length (drawn_path q) ≤ length lent

  pub accepted_by : draw_number q lent ≡ 0 → Accepted
  accepted_by z = go (is_inside q) refl (leb (length (drawn_path q)) (length lent)) refl
    where
      passed : first_failed (early q) ≡ 0
      passed = first_passes (early q) last (sym number_is ∙ z)

      go : (b : Bool) → is_inside q ≡ b → (t : Bool) → leb (length (drawn_path q)) (length lent) ≡ t → Accepted
      go true e true f = record { passes = passed; inside = e; fits = leb-true (length (drawn_path q)) (length lent) f }
      go true e false f = let r : draw_number q lent ≡ 23 = by_last passed ∙ rw (e, f) in absurd (omega (arith, z, r))
      go false e t f = let r : draw_number q lent ≡ 22 = by_last passed ∙ rw e in absurd (omega (arith, z, r))
