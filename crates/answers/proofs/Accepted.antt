-- DEMAND 3 at the entries: what a caller sees of every call that reaches the search, accepted or refused with 21 after
-- all checks before it; and that the four ways are alike.
-- Assumes nothing.
use mathlib.Core.Path.{◌≡◌, refl, sym, ◌∙◌}
use mathlib.Core.Bool.{Bool, true, false, cond, ◌&&◌}
use mathlib.Core.Logic.{◌⊎◌, inl, inr}
use mathlib.Core.List.{List, [], ◌∷◌, ◌++◌}
use Prim.Native.Nat.{ℕ, ◌≤◌, ◌<◌}
use native.Mathlib.Omega.{arith}
use lib.ListN.{length, take}
use lib.Dec.{eqb, ltb, leb}
use borrow.Author.Tests.{eqb-true, ltb-true, leb-true, leb-false}
use Rattle.lists.specs.Slices.{overlaid}
use Rattle.lists.proofs.Lists.{and_both}
use Rattle.lists.proofs.Members.{member_at}
use Rattle.lists.proofs.Overlaid.{overlaid_length, overlaid_taken, overlaid_short}
use Rattle.ground.specs.Grid.{Grid, cell_count, ground}
use Rattle.search.specs.Tracing.{Tracing, longest_length, path_count, start_cells, tracing}
use Rattle.search.specs.Editions.{may_start}
use Rattle.search.specs.Demand.{Demand3}
use Rattle.search.proofs.Demand3.{demand3}
use Rattle.search.proofs.Tighter.{no_more_visited}
use Rattle.answers.specs.Checks.{Check, first_failed, all_pass}
use Rattle.answers.specs.Checks.{check10, check11, check12, check14, check15, check16, check17, check18}
use Rattle.answers.specs.Checks.{check19, check20, check21, check25}
use Rattle.answers.specs.declared.Answer.TheVariants.{Found}
use Rattle.answers.specs.declared.Traced.{Traced}
use Rattle.answers.specs.Answers.{number_of, in_numbers, traced_with, traced_by}
use Rattle.answers.specs.Entries.{Catchment}
use Rattle.answers.specs.Tracings.{Call, Lent, chosen, chosen_cells, chosen_tracing, call_checks, leaves_starts}
use Rattle.answers.specs.Tracings.{Traces, recursion_number, stack_number, TracesByRecursion, TracesByStack}
use Rattle.answers.specs.Seen.{LongestStarts, SearchCounts, FoundAll, FoundTooMany, Seen}
use Rattle.answers.specs.Seen.{Way, by_recursion, by_stack, Alike}
use Rattle.answers.proofs.FirstFailed.{all_at, passes_of, is_other, others, passed_others, last_given}

-- THE ANSWER'S NUMBER is the number of the first check that fails
pub number_told : (n : ℕ) (t : Tracing) → number_of (traced_by n t).answer ≡ n
unfolding traced_with
number_told n t = go (eqb n 0) refl (eqb n 21) refl
  where
    go : (b : Bool) → eqb n 0 ≡ b → (d : Bool) → eqb n 21 ≡ d → number_of (traced_by n t).answer ≡ n
    go true p d q = rw p (sym (eqb-true n 0 p))
    go false p true q = rw (p, q) (sym (eqb-true n 21 q))
    go false p false q = rw (p, q)

passes : (b : Bool) → ◌≡◌ {A = ℕ} (cond b 0 21) 0 → b ≡ true
passes true e = refl
passes false e = absurd (omega (arith, e))

pub fails : (b : Bool) → ◌≡◌ {A = ℕ} (cond b 0 21) 21 → b ≡ false
fails true e = absurd (omega (arith, e))
fails false e = refl

module _ (q : Call) where
  abbrev grid : Grid
  grid = q.catchment.grid

  abbrev outlets : List ℕ
  outlets = q.catchment.outlets

  -- what the search finds without dropping
  abbrev plain : Tracing
  plain = tracing q.edition false grid outlets (chosen q)

  -- the promise of what is told
  abbrev pub Promise : Type 0
  Promise = Demand3 grid outlets (may_start q.edition grid outlets (chosen q)) (chosen q) (chosen_tracing q) plain

  -- what the number tells of the search, and of the places of the list
  pub record Reached (room number : ℕ) : Type 0 where
    pub placed : (number ≡ 0) ⊎ (number ≡ 21) → q.place < length outlets
    pub promise : (number ≡ 0) ⊎ (number ≡ 21) → Promise
    pub enough : number ≡ 0 → path_count (chosen_tracing q) ≤ room
    pub too_few : number ≡ 21 → room < path_count (chosen_tracing q)

  passed_promise : (old : List ℕ) → ((k : ℕ) → passes_of k (call_checks q old) ≡ true) → Promise
  unfolding check10 check11 check12 check14 check15 check16 check17 check18 check25
  passed_promise old p =
      let inside = ltb-true q.place (length outlets) (p 18) in
      let placed = and_both (ltb (chosen q) (cell_count grid)) (ground grid (chosen q))
      (all_at (λ o. ltb o (cell_count grid) && ground grid o) outlets (p 16) q.place inside) in
      demand3 grid q.catchment.accumulation (p 14) outlets (chosen q)
      (member_at outlets q.place inside) placed.1 q.edition q.dropping

  -- whatever the engine's own check
  module _ (old : Lent) (own : Check) where
    abbrev before : List Check
    before = call_checks q old.subaccumulation ++ (own ∷ [])

    abbrev paths : ℕ
    paths = path_count (chosen_tracing q)

    abbrev room : ℕ
    room = length old.starts

    -- none of the checks before 21 has that number or 0
    reached : all_pass (is_other 0) before ≡ true → all_pass (is_other 21) before ≡ true → (number : ℕ)
        → number ≡ first_failed (before ++ (check21 (path_count (chosen_tracing q)) old.starts ∷ [])) → Reached room number
    unfolding check10 check11 check12 check14 check15 check16 check17 check18 check21 check25
    reached h₀ h₂₁ number is_number = record {
      placed = λ i. ltb-true q.place (length outlets) (passed_by i 18);
      promise = λ i. passed_promise old.subaccumulation (passed_by i);
      enough = λ e. leb-true paths room (passes (leb paths room)
          (last_given 0 21 (leb paths room) before (others 0 before h₀) (sym is_number ∙ e)));
      too_few = λ e. omega (
        arith,
        leb-false paths room (fails (leb paths room)
            (last_given 21 21 (leb paths room) before (others 21 before h₂₁) (sym is_number ∙ e))),
      );
    }
      where
        after : List Check
        after = own ∷ check21 (path_count (chosen_tracing q)) old.starts ∷ []

        passed_by : (number ≡ 0) ⊎ (number ≡ 21) → (k : ℕ) → passes_of k (call_checks q old.subaccumulation) ≡ true
        passed_by (inl e) = passed_others 0 (call_checks q old.subaccumulation) after refl (sym is_number ∙ e)
        passed_by (inr e) = passed_others 21 (call_checks q old.subaccumulation) after refl (sym is_number ∙ e)

  recursion_reached : (old : Lent) → Reached (length old.starts) (recursion_number q old)
  unfolding recursion_number check10 check11 check12 check14 check15 check16 check17 check18 check19 check25
  recursion_reached old = reached old (check19 (chosen_cells q)) refl refl (recursion_number q old) refl

  pub stack_reached : (old : Lent) (work : List ℕ) → Reached (length old.starts) (stack_number q old work)
  unfolding stack_number check10 check11 check12 check14 check15 check16 check17 check18 check20 check25
  stack_reached old work = reached old (check20 (chosen_cells q) work) refl refl (stack_number q old work) refl

  -- ---- what a caller sees

  module _ {old new : Lent} {number : ℕ} {r : Traced} (reach : Reached (length old.starts) number)
      (t : Traces q old number r new) where
    -- the starts that the search found, and the list at exit
    abbrev found : List ℕ
    found = start_cells (chosen_tracing q)

    filled : (number ≡ 0) ⊎ (number ≡ 21) → new.starts ≡ overlaid found old.starts
    unfolding leaves_starts
    filled (inl e) = t.lists ∙ rw e
    filled (inr e) = t.lists ∙ rw e

    longest : Promise → LongestStarts q.edition q.catchment (chosen q) found
    longest p = record { exact = p.exact; once = p.once; ordered = p.ordered }

    counted : Promise → (number ≡ 0) ⊎ (number ≡ 21) → SearchCounts q r
    unfolding traced_with
    counted p (inl e) = record {
      visited = rw (t.answers, e);
      dropped = rw (t.answers, e);
      all_cells = rw (t.answers, e) p.counts;
      no_more_visited = rw (t.answers, e) (no_more_visited q.edition q.dropping grid outlets (chosen q));
    }
    counted p (inr e) = record {
      visited = rw (t.answers, e);
      dropped = rw (t.answers, e);
      all_cells = rw (t.answers, e) p.counts;
      no_more_visited = rw (t.answers, e) (no_more_visited q.edition q.dropping grid outlets (chosen q));
    }

    -- on 0 the first places hold all of them
    taken : number ≡ 0 → take (path_count (chosen_tracing q)) new.starts ≡ found
    taken e =
        let p = reach.promise (inl e) in
        rw (filled (inl e), p.number)
        (overlaid_taken found old.starts (omega (arith, reach.enough e, p.number)))

    on_0 : number ≡ 0 → FoundAll q r new.starts
    unfolding traced_with
    on_0 e =
        let p = reach.promise (inl e) in
        record {
          len = longest_length (chosen_tracing q);
          paths = path_count (chosen_tracing q);
          found = rw (t.answers, e);
          has_place = rw (filled (inl e), overlaid_length found old.starts) (reach.enough e);
          some_path = p.not_none;
          listed = rw (taken e) (longest p);
          lengths = rw (taken e) p.lengths;
          counts = counted p (inl e);
        }

    on_21 : number ≡ 21 → FoundTooMany q r new.starts
    unfolding traced_with
    on_21 e =
        let p = reach.promise (inr e) in
        let few = reach.too_few e in
        record {
          all = found;
          no_place = rw (t.answers, e, p.number);
          too_short = rw (filled (inr e), overlaid_length found old.starts) (omega (arith, few, p.number));
          longest = longest p;
          full = rw (filled (inr e), overlaid_length found old.starts)
              (overlaid_short found old.starts (omega (arith, few, p.number)));
          counts = counted p (inr e);
        }

    seen : Seen q r new.starts
    seen = record { on_0 = λ e. on_0 (sym t.numbered ∙ e); on_21 = λ e. on_21 (sym t.numbered ∙ e) }

    -- accepted, it tells what the search tells without dropping
    as_plain : number ≡ 0
        → (r.answer ≡ Found (longest_length plain).straight (longest_length plain).diagonal (path_count plain))
        × (take (in_numbers r.answer).paths new.starts ≡ start_cells plain)
    unfolding traced_with
    as_plain e =
        let p = reach.promise (inl e) in (
          rw (t.answers, e, p.same_len, p.same_paths),
          rw (t.answers, e) (taken e ∙ p.same_starts),
        )

  -- DEMAND 3 of both entries
  pub recursion_seen : {old new : Lent} {r : Traced} → TracesByRecursion q old r new → Seen q r new.starts
  recursion_seen {old} t = seen (recursion_reached old) t

  pub stack_seen : {old new : Lent} {work space : List ℕ} {r : Traced} → TracesByStack q old work r new space
      → Seen q r new.starts
  stack_seen {old} {work = work} t = seen (stack_reached old work) t.traces

  pub seen_way : {r : Traced} {new : Lent} → Way q r new → Seen q r new.starts
  seen_way (by_recursion old t) = recursion_seen t
  seen_way (by_stack old work space t) = stack_seen t

  pub way_placed : {r : Traced} {new : Lent} → Way q r new → number_of r.answer ≡ 0 → q.place < length outlets
  way_placed (by_recursion old t) e = (recursion_reached old).placed (inl (sym t.numbered ∙ e))
  way_placed (by_stack old work space t) e = (stack_reached old work).placed (inl (sym t.traces.numbered ∙ e))

  pub way_plain : {r : Traced} {new : Lent} → Way q r new → number_of r.answer ≡ 0
      → (r.answer ≡ Found (longest_length plain).straight (longest_length plain).diagonal (path_count plain))
      × (take (in_numbers r.answer).paths new.starts ≡ start_cells plain)
  way_plain (by_recursion old t) e = as_plain (recursion_reached old) t (sym t.numbered ∙ e)
  way_plain (by_stack old work space t) e =
      as_plain (stack_reached old work) t.traces (sym t.traces.numbered ∙ e)

-- FOUR WAYS: by an edition, whichever of them accept are alike in list, length and number of paths
module _ (edition : ℕ) (c : Catchment) (place : ℕ) where
  abbrev call : Bool → Call
  call dropping = record { edition = edition; catchment = c; place = place; dropping = dropping }

  pub four_ways : (d d' : Bool) {r r' : Traced} {new new' : Lent} → Way (call d) r new → Way (call d') r' new'
      → number_of r.answer ≡ 0 → number_of r'.answer ≡ 0 → Alike r new.starts r' new'.starts
  four_ways d d' w w' e e' =
      let p = way_plain (call d) w e in
      let p' = way_plain (call d') w' e' in
      record { same_answer = p.0 ∙ sym p'.0; same_list = p.1 ∙ sym p'.1 }
