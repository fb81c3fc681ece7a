-- What a tracing answers and leaves, by its checks, for either engine: `last` is check 19 or 20.
-- Assumes nothing.
use mathlib.Core.Path.{◌≡◌, refl, sym, ◌∙◌}
use mathlib.Core.Bool.{Bool, true, false, cond}
use mathlib.Core.Logic.{◌⊎◌, inl, inr}
use mathlib.Core.List.{List, [], ◌∷◌, ◌++◌}
use Prim.Native.Nat.{ℕ, ◌*◌, ◌≤◌, ◌<◌}
use native.Mathlib.Omega.{arith}
use native.Mathlib.Decide.{dec_lt}
use lib.ListN.{length}
use lib.Dec.{leb}
use borrow.Author.Tests.{ne_eqb, le-leb, lt-leb}
use Rattle.lists.specs.Slices.{overlaid}
use Rattle.ground.specs.Accumulation.{subaccumulations}
use Rattle.search.specs.Tracing.{Tracing, path_count, start_cells, numbers_each}
use Rattle.answers.specs.declared.Traced.{Traced}
use Rattle.search.specs.Editions.{is_edition}
use Rattle.answers.specs.Checks.{Check, first_failed, check19, check20, check21, check25}
use Rattle.answers.specs.Entries.{place_checks}
use Rattle.answers.specs.Answers.{traced_with, traced_by}
use Rattle.answers.specs.Tracings.{Call, Lent, lent, chosen_cells, chosen_tracing, call_checks}
use Rattle.answers.specs.Tracings.{Traces}
use Rattle.answers.specs.Tracings.{leaves_subaccumulation, leaves_starts, leaves_work}
use Rattle.answers.specs.Tracings.{recursion_number, TracesByRecursion, stack_number, TracesByStack}
use Rattle.answers.proofs.FirstFailed.{handed_on}
use Rattle.answers.proofs.Accepted.{number_told}
use Rattle.checks.proofs.Passed.{beyond_place, place_at_most}
use Rattle.answers.specs.declared.Refusal.{Refusal}
use Rattle.answers.specs.Refusals.{refusal_number}
use Rattle.answers.proofs.Refusals.{has_number}
use Rattle.listing.specs.Answering.{refused_with}
use Rattle.tracing.specs.Answering.{Lists, ListsAndClears}
use Rattle.tracing.specs.Preparing.{Prepared, Barred}

module _ (q : Call) (old : Lent) where
  abbrev t : Tracing
  t = chosen_tracing q

  abbrev given : List ℕ
  given = old.subaccumulation

  abbrev filled : List ℕ
  filled = overlaid (subaccumulations q.catchment.grid q.catchment.outlets) given

  -- past 25
  abbrev choosing : List Check
  choosing = place_checks q.catchment q.place (length q.catchment.accumulation ∷ length given ∷ [])

  past_25 : is_edition q.edition ≡ true → (ds : List Check) → first_failed (call_checks q given ++ ds)
      ≡ first_failed (choosing ++ ds)
  unfolding first_failed check25
  past_25 e ds = rw e

  by_25 : is_edition q.edition ≡ false → (ds : List Check) → first_failed (call_checks q given ++ ds) ≡ 25
  unfolding first_failed check25
  by_25 e ds = rw e

  -- the number was given before the grid was filled,
  at_first : (n : ℕ) → (n ≡ 0 → ⊥) → (n < 19) ⊎ (21 < n) → Traces q old n (refused_with n) old
  unfolding traced_with leaves_subaccumulation leaves_starts
  at_first n z h =
      let e19 = other h 19 (omega arith) (omega arith) in
      let e20 = other h 20 (omega arith) (omega arith) in
      let e21 = other h 21 (omega arith) (omega arith) in
      record {
        numbered = refl;
        answers = rw (ne_eqb n 0 z, ne_eqb n 21 e21);
        fills = rw (
          ne_eqb 0 n (λ e. z (sym e)),
          ne_eqb 19 n (λ e. e19 (sym e)),
          ne_eqb 20 n (λ e. e20 (sym e)),
          ne_eqb 21 n (λ e. e21 (sym e)),
        );
        lists = rw (ne_eqb 0 n (λ e. z (sym e)), ne_eqb 21 n (λ e. e21 (sym e)));
      }
    where
      other : (n < 19) ⊎ (21 < n) → (k : ℕ) → 19 ≤ k → k ≤ 21 → n ≡ k → ⊥
      other (inl i) k a b e = omega arith
      other (inr i) k a b e = omega arith

  -- after it,
  at_last : (n : ℕ) → (n ≡ 19) ⊎ (n ≡ 20) → Traces q old n (refused_with n) (lent filled old.starts)
  unfolding traced_with leaves_subaccumulation leaves_starts
  at_last n (inl e) = record { numbered = refl; answers = rw e; fills = rw e; lists = rw e }
  at_last n (inr e) = record { numbered = refl; answers = rw e; fills = rw e; lists = rw e }

  -- or by the search
  searched : (b : Bool)
      → Traces q old (cond b 0 21) (traced_by (cond b 0 21) t) (lent filled (overlaid (start_cells t) old.starts))
  unfolding leaves_subaccumulation leaves_starts
  searched true = record { numbered = number_told 0 t; answers = refl; fills = refl; lists = refl }
  searched false = record { numbered = number_told 21 t; answers = refl; fills = refl; lists = refl }

  -- REFUSED BY 25
  refused_25 : is_edition q.edition ≡ false → (ds : List Check) → {r : Traced} → r ≡ refused_with 25
      → Traces q old (first_failed (call_checks q given ++ ds)) r old
  refused_25 e ds is = rw (by_25 e ds, is) (at_first 25 (λ i. absurd (omega (arith, i))) (inr (omega arith)))

  module _ (judged : is_edition q.edition ≡ true) (last : Check) where
    abbrev after : List Check
    after = last ∷ check21 (path_count t) old.starts ∷ []

    abbrev number : ℕ
    number = first_failed (call_checks q given ++ (last ∷ check21 (path_count t) old.starts ∷ []))

    -- REFUSED BY 10 TO 18
    module _ {refusal : Refusal} {grid : List ℕ} (bar : Barred q.catchment q.place old.subaccumulation refusal grid) where
      early : number ≡ refusal_number refusal
      early = past_25 judged after ∙ sym (handed_on choosing after bar.is_number (has_number refusal))

      small : refusal_number refusal < 19
      small = elim (dec_lt (refusal_number refusal) 19) [
        | yes h ↦ h
        | no h ↦ absurd (place_at_most q.catchment _ q.place (refusal_number refusal) (omega (arith, h))
            (sym bar.is_number))
      ]

      refused_early : {r : Traced} → r ≡ refused_with (refusal_number refusal)
          → Traces q old number r (lent grid old.starts)
      refused_early e = rw (early, e, bar.kept) (at_first (refusal_number refusal) (has_number refusal) (inl small))

    module _ {cells : ℕ} {grid : List ℕ} (prep : Prepared q.catchment q.place old.subaccumulation cells grid) where
      beyond : number ≡ first_failed (last ∷ check21 (path_count t) old.starts ∷ [])
      beyond = past_25 judged after ∙ beyond_place q.catchment _ q.place after (sym prep.passes)

      -- BY 19 OR 20
      late : last.passes ≡ false → number ≡ last.number
      unfolding first_failed
      late e = beyond ∙ rw e

      refused_late : last.passes ≡ false → (last.number ≡ 19) ⊎ (last.number ≡ 20) → {r : Traced}
          → r ≡ refused_with last.number → Traces q old number r (lent grid old.starts)
      refused_late f i e = rw (late f, e, prep.filled) (at_last last.number i)

      -- OR ANSWERED BY THE SEARCH
      whole : last.passes ≡ true → number ≡ cond (leb (path_count t) (length old.starts)) 0 21
      unfolding first_failed check21
      whole e = beyond ∙ rw e

      answered_whole : last.passes ≡ true → {r : Traced} {list : List ℕ} → Lists t old.starts r list
          → Traces q old number r (lent grid list)
      answered_whole f l = rw (whole f, l.answers, l.lists, prep.filled)
          (searched (leb (path_count t) (length old.starts)))

  -- ---- by recursion

  pub recursion_25 : is_edition q.edition ≡ false → {r : Traced} → r ≡ refused_with 25 → TracesByRecursion q old r old
  unfolding recursion_number
  recursion_25 e is = refused_25 e _ is

  module _ (judged : is_edition q.edition ≡ true) where
    pub recursion_first : {refusal : Refusal} {grid : List ℕ}
        → Barred q.catchment q.place old.subaccumulation refusal grid → {r : Traced}
        → r ≡ refused_with (refusal_number refusal) → TracesByRecursion q old r (lent grid old.starts)
    unfolding recursion_number
    recursion_first bar e = refused_early judged (check19 (chosen_cells q)) bar e

    module _ {cells : ℕ} {grid : List ℕ} (prep : Prepared q.catchment q.place old.subaccumulation cells grid) where
      pub recursion_19 : 4096 < cells → {r : Traced} → r ≡ refused_with 19
          → TracesByRecursion q old r (lent grid old.starts)
      unfolding recursion_number check19
      recursion_19 h e = refused_late judged (check19 (chosen_cells q)) prep
          (lt-leb (chosen_cells q) 4096 (omega (arith, h, prep.counted))) (inl refl) e

      pub recursion_whole : cells ≤ 4096 → {r : Traced} {list : List ℕ}
          → Lists (chosen_tracing q) old.starts r list
          → TracesByRecursion q old r (lent grid list)
      unfolding recursion_number check19
      recursion_whole h l = answered_whole judged (check19 (chosen_cells q)) prep
          (le-leb (chosen_cells q) 4096 (omega (arith, h, prep.counted))) l

  -- ---- from pending cells, with the working space

  module _ (work : List ℕ) where
    -- it is kept where the search is not reached,
    work_kept : (n : ℕ) → stack_number q old work ≡ n → (n ≡ 0 → ⊥) → (n ≡ 21 → ⊥)
        → work ≡ leaves_work q (stack_number q old work) work
    unfolding leaves_work
    work_kept n e z y = rw (e, ne_eqb 0 n (λ i. z (sym i)), ne_eqb 21 n (λ i. y (sym i)))

    -- and clear after it
    work_clear : (b : Bool) → stack_number q old work ≡ cond b 0 21 → {space : List ℕ} → space ≡ leaves_work q 0 work
        → space ≡ leaves_work q (stack_number q old work) work
    unfolding leaves_work
    work_clear true e f = rw e f
    work_clear false e f = rw e f

    pub stack_25 : is_edition q.edition ≡ false → {r : Traced} → r ≡ refused_with 25
        → TracesByStack q old work r old work
    unfolding stack_number
    stack_25 e is = record {
      traces = refused_25 e _ is;
      clears = work_kept 25 (by_25 e _) (λ i. absurd (omega (arith, i))) (λ i. absurd (omega (arith, i)));
    }

    module _ (judged : is_edition q.edition ≡ true) where
      pub stack_first : {refusal : Refusal} {grid : List ℕ}
          → Barred q.catchment q.place old.subaccumulation refusal grid → {r : Traced}
          → r ≡ refused_with (refusal_number refusal) → TracesByStack q old work r (lent grid old.starts) work
      unfolding stack_number
      stack_first {refusal} bar e =
          let last = check20 (chosen_cells q) work in
          let s = small judged last bar in
          record {
            traces = refused_early judged last bar e;
            clears = work_kept (refusal_number refusal) (early judged last bar) (has_number refusal) (λ i. omega (arith, s, i));
          }

      module _ {cells : ℕ} {grid : List ℕ} (prep : Prepared q.catchment q.place old.subaccumulation cells grid) where
        pub stack_20 : length work < numbers_each * cells → {r : Traced} → r ≡ refused_with 20
            → TracesByStack q old work r (lent grid old.starts) work
        unfolding stack_number check20
        stack_20 h e =
            let last = check20 (chosen_cells q) work in
            let f = lt-leb (numbers_each * chosen_cells q) (length work) (omega (arith, h, prep.counted)) in
            record {
              traces = refused_late judged last prep f (inr refl) e;
              clears = work_kept 20 (late judged last prep f) (λ i. absurd (omega (arith, i)))
                  (λ i. absurd (omega (arith, i)));
            }

        pub stack_whole : numbers_each * cells ≤ length work → {r : Traced} {list space : List ℕ}
            → ListsAndClears (chosen_tracing q) old.starts (chosen_cells q) work r list space
            → TracesByStack q old work r (lent grid list) space
        unfolding stack_number check20 leaves_work
        stack_whole h l =
            let last = check20 (chosen_cells q) work in
            let f = le-leb (numbers_each * chosen_cells q) (length work) (omega (arith, h, prep.counted)) in
            record {
              traces = answered_whole judged last prep f l.listed;
              clears = work_clear (leb (path_count t) (length old.starts)) (whole judged last prep f) l.clears;
            }
