-- What the searches answer and leave, by the room for the starts of all, and then the whole call, by its checks.
-- Assumes nothing.
use mathlib.Core.Path.{◌≡◌, refl, sym, ap, ◌∙◌, subst}
use mathlib.Core.Bool.{Bool, true, false, cond}
use mathlib.Core.List.{List, ◌++◌}
use Prim.Native.Nat.{ℕ, ◌*◌, ◌≤◌, ◌<◌}
use native.Mathlib.Omega.{arith}
use native.Mathlib.Decide.{dec_lt}
use lib.ListN.{length, length-map}
use lib.Dec.{leb}
use borrow.Author.Tests.{ne_eqb, le-leb, lt-leb}
use Rattle.lists.specs.Lists.{sum_of}
use Rattle.lists.specs.Slices.{overlaid, zeros, Cleared}
use Rattle.lists.proofs.Kept.{kept_then}
use Rattle.lists.proofs.Overlaid.{cleared_front}
use Rattle.ground.specs.Grid.{Grid}
use Rattle.search.specs.Tracing.{path_count, numbers_each}
use Rattle.ground.specs.Accumulation.{subaccumulations}
use Rattle.alloutlets.specs.declared.TracedAll.{TracedAll}
use Rattle.search.specs.Editions.{is_edition}
use Rattle.answers.specs.Checks.{first_failed, check20, check21, check23, check25}
use Rattle.answers.specs.Entries.{Catchment, Subaccumulates, subaccumulate_number, subaccumulate_leaves}
use Rattle.alloutlets.specs.AllOutlets.{LentAll, lent_all, most_cells, path_counts, traced_all, trace_all_number, tells_all}
use Rattle.alloutlets.specs.AllOutlets.{last_checks, leaves_all, tracing_of, all_starts, TracesAll}
use Rattle.answers.proofs.FirstFailed.{handed_on}
use Rattle.checks.proofs.Passed.{beyond_outlets, outlets_at_most}
use Rattle.accumulation.proofs.Subaccumulated.{before}
use Rattle.passes.specs.declared.Sums.{Sums}
use Rattle.passes.specs.Passes.{sums_of, WorkKept, ListsAll}
use Rattle.tracingall.specs.Searching.{number_for, SearchesAll}

module _ (g : Grid) (outlets : List ℕ) where
  abbrev asked : ℕ
  asked = numbers_each * most_cells g outlets

  -- the working numbers are cleared
  pub clears_all : {end : ℕ} {work mid space : List ℕ} → end ≡ asked → asked ≤ length work
      → WorkKept g outlets work mid → Cleared end end mid space → space ≡ overlaid (zeros asked) work
  clears_all {end} {work} {mid} {space} e r k c =
      let d = subst (λ (n : ℕ). Cleared n n mid space) e c in
      cleared_front asked r (kept_then k d.kept) d.are_zero

  module _ (edition : ℕ) {s : Sums} (e : s ≡ sums_of edition g outlets) {paths : ℕ} (q : paths ≡ s.paths) where
    pub total : paths ≡ sum_of (path_counts edition g outlets)
    total = q ∙ ap (λ (t : Sums). t.paths) e

    module _ {starts counts work space : List ℕ} (clear : space ≡ overlaid (zeros asked) work) where
      -- NO PLACE FOR ALL
      pub searched_21 : length starts < paths
          → SearchesAll edition g outlets starts counts work (traced_all 21 s.visited s.dropped) starts counts space
      unfolding tells_all
      searched_21 h =
          let no = lt-leb (sum_of (path_counts edition g outlets)) (length starts) (omega (arith, h, total)) in
          record { answers = rw (no, e); lists = rw no; counted = rw no; clears = clear }

      -- PLACE FOR ALL
      pub searched_0 : paths ≤ length starts → {mid last starts' counts' : List ℕ}
          → ListsAll edition g outlets starts counts mid starts' counts' last
          → SearchesAll edition g outlets starts counts work (traced_all 0 s.visited s.dropped) starts' counts' space
      unfolding tells_all
      searched_0 h l =
          let yes = le-leb (sum_of (path_counts edition g outlets)) (length starts) (omega (arith, h, total)) in
          record {
            answers = rw (yes, e);
            lists = rw yes l.lists;
            counted = rw yes l.counted;
            clears = clear;
          }

-- ---- the whole call

-- past 23, both lists are written or kept
either : (edition : ℕ) (g : Grid) (outlets : List ℕ) (old : LentAll) (b : Bool)
    → lent_all (overlaid (subaccumulations g outlets) old.subaccumulation)
    (cond b (overlaid (all_starts edition g outlets) old.starts) old.starts)
    (cond b (overlaid (path_counts edition g outlets) old.counts) old.counts)
    (overlaid (zeros (numbers_each * most_cells g outlets)) old.work)
    ≡ leaves_all edition g outlets (cond b 0 21) old
unfolding leaves_all
either edition g outlets old true = refl
either edition g outlets old false = refl

module _ (edition : ℕ) (c : Catchment) (old : LentAll) where
  past_25 : is_edition edition ≡ true → trace_all_number edition c old
      ≡ first_failed (before c old.subaccumulation ++ last_checks edition c old)
  unfolding trace_all_number first_failed check25
  past_25 e = rw e

  -- REFUSED BY 25
  pub all_25 : is_edition edition ≡ false → {r : TracedAll} → r ≡ traced_all 25 0 0 → TracesAll edition c old r old
  unfolding trace_all_number first_failed check25 tells_all leaves_all
  all_25 e q = record { answers = rw (e, q); leaves = rw e }

module _ (edition : ℕ) (c : Catchment) (old : LentAll) (judged : is_edition edition ≡ true) {n : ℕ} {grid : List ℕ}
    (s : Subaccumulates c old.subaccumulation n grid) where
  abbrev cells : ℕ
  cells = most_cells c.grid c.outlets

  abbrev paths : List ℕ
  paths = path_counts edition c.grid c.outlets

  -- what is left where no list is written
  abbrev left : List ℕ → LentAll
  left work = lent_all grid old.starts old.counts work

  module _ (z : n ≡ 0 → ⊥) where
    early : trace_all_number edition c old ≡ n
    unfolding subaccumulate_number
    early = past_25 edition c old judged ∙ sym (handed_on (before c old.subaccumulation) (last_checks edition c old)
        s.answers z)

    small : n < 18
    unfolding subaccumulate_number
    small = elim (dec_lt n 18) [
      | yes h ↦ h
      | no h ↦ absurd (outlets_at_most c _ n (omega (arith, h)) (sym s.answers))
    ]

    kept : grid ≡ old.subaccumulation
    unfolding subaccumulate_leaves
    kept = s.leaves ∙ rw (sym s.answers, ne_eqb n 0 z)

    -- REFUSED BY 10 TO 17
    pub all_first : {r : TracedAll} → r ≡ traced_all n 0 0 → TracesAll edition c old r (left old.work)
    unfolding tells_all leaves_all
    all_first e =
        let a = ne_eqb 0 n (λ i. z (sym i)) in
        let b = ne_eqb 21 n (λ i. omega (arith, small, i)) in
        let d = ne_eqb 20 n (λ i. omega (arith, small, i)) in
        let f = ne_eqb 23 n (λ i. omega (arith, small, i)) in
        record {
          answers = rw (early, e, a, b);
          leaves = rw (early, kept, ne_eqb n 0 z, ne_eqb n 21 (λ i. omega (arith, small, i)), d, f);
        }

  module _ (z : n ≡ 0) where
    beyond : trace_all_number edition c old ≡ first_failed (last_checks edition c old)
    unfolding subaccumulate_number
    beyond = past_25 edition c old judged ∙ beyond_outlets c _ (last_checks edition c old) (sym s.answers ∙ z)

    full : grid ≡ overlaid (subaccumulations c.grid c.outlets) old.subaccumulation
    unfolding subaccumulate_leaves
    full = s.leaves ∙ rw (sym s.answers ∙ z)

    -- BY 20
    pub all_20 : length old.work < numbers_each * cells → {r : TracedAll} → r ≡ traced_all 20 0 0
        → TracesAll edition c old r (left old.work)
    unfolding first_failed check20 tells_all leaves_all
    all_20 h e =
        let m : trace_all_number edition c old ≡ 20 = beyond ∙ rw (lt-leb (numbers_each * cells) (length old.work) h) in
        record { answers = rw (m, e); leaves = rw (m, full) }

    -- a count for each outlet
    many : length paths ≡ length c.outlets
    many = length-map c.outlets (λ o. path_count (tracing_of edition c.grid c.outlets o))

    module _ (w : numbers_each * cells ≤ length old.work) where
      -- BY 23
      pub all_23 : length old.counts < length c.outlets → {r : TracedAll} → r ≡ traced_all 23 0 0
          → TracesAll edition c old r (left old.work)
      unfolding first_failed check20 check23 tells_all leaves_all
      all_23 h e =
          let m : trace_all_number edition c old ≡ 23 = beyond ∙ rw (
            le-leb (numbers_each * cells) (length old.work) w,
            lt-leb (length paths) (length old.counts) (omega (arith, h, many)),
          ) in
          record { answers = rw (m, e); leaves = rw (m, full) }

      -- OR ANSWERED BY THE SEARCHES
      module _ (h : length c.outlets ≤ length old.counts) where
        told : trace_all_number edition c old ≡ number_for edition c.grid c.outlets (length old.starts)
        unfolding first_failed check20 check21 check23
        told = beyond ∙ rw (
          le-leb (numbers_each * cells) (length old.work) w,
          le-leb (length paths) (length old.counts) (omega (arith, h, many)),
        )

        pub all_searched : {r : TracedAll} {starts counts work : List ℕ}
            → SearchesAll edition c.grid c.outlets old.starts old.counts old.work r starts counts work
            → TracesAll edition c old r (lent_all grid starts counts work)
        all_searched {r} {starts} {counts} {work} q = record {
          answers = q.answers ∙ ap (tells_all edition c.grid c.outlets) (sym told);
          leaves = rw (told, full, q.lists, q.counted, q.clears)
              (either edition c.grid c.outlets old (leb (sum_of paths) (length old.starts)));
        }
