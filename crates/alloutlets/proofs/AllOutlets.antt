-- All outlets in one call: what is seen of it is what one call for each outlet would have told.
-- Assumes nothing.
use mathlib.Core.Path.{◌≡◌, refl, sym, ap, ◌∙◌}
use mathlib.Core.Bool.{Bool, true, false, cond, ◌&&◌}
use mathlib.Core.Logic.{◌⊎◌, inl, inr}
use mathlib.Core.List.{List, [], ◌∷◌, ◌++◌, map}
use Prim.Native.Nat.{ℕ, suc, ◌+◌, ◌≤◌, ◌<◌}
use native.Mathlib.Omega.{arith}
use lib.ListN.{length, get_or, take, drop, length-map}
use lib.Seq.{take_all, take-append-le, length-take-le}
use lib.Dec.{ltb, leb}
use borrow.Author.Tests.{lt-ltb, le-leb, leb-true, leb-false}
use Rattle.lists.specs.Lists.{Every, different, sum_of, how_many}
use Rattle.lists.specs.Slices.{overlaid}
use Rattle.lists.proofs.Lists.{and_both, every_map, every_at, every_placed, get_d_map}
use Rattle.lists.proofs.Members.{member_at, different_sorted}
use Rattle.lists.proofs.Overlaid.{overlaid_length, overlaid_front, overlaid_at}
use Rattle.lists.proofs.Sums.{sum_next, sum_more, sum_parts, sum_alike, joined_length, joined_part, lengths}
use Rattle.ground.specs.Grid.{Grid, cell_count, ground}
use Rattle.ground.specs.Accumulation.{agrees, subaccumulation}
use Rattle.ground.proofs.AllOutlets.{outlets_ground}
use Rattle.search.specs.Tracing.{path_count, start_cells, tracing}
use Rattle.search.specs.Editions.{may_start}
use Rattle.search.specs.Demand.{Demand3}
use Rattle.search.proofs.Demand3.{demand3}
use Rattle.answers.specs.Checks.{Check, check10, check11, check12, check14, check15, check16, check17}
use Rattle.answers.specs.Checks.{check20, check21, check23, check25}
use Rattle.answers.specs.declared.Traced.{Traced}
use Rattle.alloutlets.specs.declared.TracedAll.{TracedAll}
use Rattle.answers.specs.Entries.{Catchment}
use Rattle.alloutlets.specs.AllOutlets.{LentAll, tracing_of, all_starts, path_counts, all_visited, all_dropped}
use Rattle.alloutlets.specs.AllOutlets.{trace_all_number, tells_all, leaves_all, TracesAll}
use Rattle.alloutlets.specs.AllOutlets.{traced_all, most_cells, all_checks, last_checks, sums_told}
use Rattle.alloutlets.specs.Part.{starts_before, part_count, starts_part}
use Rattle.answers.specs.declared.Answer.{Answer}
use Rattle.answers.specs.Answers.{number_of, in_numbers}
use Rattle.answers.specs.Tracings.{Lent}
use Rattle.answers.specs.Seen.{SearchCounts, Way}
use Rattle.alloutlets.specs.Seen.{alone, SearchedAlone, SumsSeen, PartSeen, RoomSeen, AllSeen}
use Rattle.answers.proofs.FirstFailed.{all_every, passes_of, others, passed_others, last_given}
use Rattle.answers.proofs.Accepted.{seen_way, fails}

module _ (edition : ℕ) (g : Grid) (outlets : List ℕ) where
  -- as many starts as paths
  pub long_starts : (o : ℕ) → length (start_cells (tracing_of edition g outlets o)) ≡ path_count (tracing_of edition g outlets o)
  long_starts o = length-map (tracing_of edition g outlets o).starts (λ x. x.cell)

  abbrev pub starts_to : ℕ → List ℕ
  starts_to o = start_cells (tracing_of edition g outlets o)

  pub counts_are : lengths starts_to outlets ≡ path_counts edition g outlets
  counts_are = λ i. map (λ o. long_starts o i) outlets

  pub all_long : length (all_starts edition g outlets) ≡ sum_of (path_counts edition g outlets)
  all_long = joined_length starts_to outlets ∙ ap sum_of counts_are

  -- THE PART at a place of the list is what the tracing lists of that outlet
  module _ (starts counts : List ℕ) (rs : sum_of (path_counts edition g outlets) ≤ length starts)
      (rc : length outlets ≤ length counts) (i : ℕ) (h : i < length outlets) where
    abbrev outlet : ℕ
    outlet = get_or outlets i 0

    abbrev new_counts : List ℕ
    new_counts = overlaid (path_counts edition g outlets) counts

    abbrev new_starts : List ℕ
    new_starts = overlaid (all_starts edition g outlets) starts

    many : length (path_counts edition g outlets) ≡ length outlets
    many = length-map outlets (λ o. path_count (tracing_of edition g outlets o))

    inside : i < length (path_counts edition g outlets)
    inside = omega (arith, h, many)

    pub own_count : get_or new_counts i 0 ≡ path_count (tracing_of edition g outlets outlet)
    own_count = overlaid_at (path_counts edition g outlets) counts (omega (arith, rc, many)) i inside
        ∙ get_d_map (λ o. path_count (tracing_of edition g outlets o)) outlets i 0 h

    before_same : starts_before new_counts i ≡ sum_of (take i (path_counts edition g outlets))
    before_same = ap (λ (l : List ℕ). sum_of (take i l))
        (overlaid_front (path_counts edition g outlets) counts (omega (arith, rc, many)))
        ∙ ap sum_of (take-append-le i (path_counts edition g outlets) _ (omega (arith, inside)))

    fits : starts_before new_counts i + get_or new_counts i 0 ≤ length new_starts
    fits = omega (
      arith,
      before_same,
      own_count,
      get_d_map (λ o. path_count (tracing_of edition g outlets o)) outlets i 0 h,
      sum_next (path_counts edition g outlets) i inside,
      sum_more (path_counts edition g outlets) (suc i) (length (path_counts edition g outlets)) inside,
      ap sum_of (take_all (length (path_counts edition g outlets)) (path_counts edition g outlets) (omega arith)),
      rs,
      overlaid_length (all_starts edition g outlets) starts,
    )

    own_shown : part_count new_counts i (length new_starts) ≡ path_count (tracing_of edition g outlets outlet)
    unfolding part_count
    own_shown = rw (
      lt-ltb i (length new_counts) (omega (arith, h, rc, overlaid_length (path_counts edition g outlets) counts)),
      le-leb (starts_before new_counts i + get_or new_counts i 0) (length new_starts) fits,
    ) own_count

    pub part_listed : starts_part new_starts new_counts i ≡ start_cells (tracing_of edition g outlets outlet)
    part_listed =
        rw (
          own_shown,
          before_same,
          overlaid_front (all_starts edition g outlets) starts (omega (arith, rs, all_long)),
          sym counts_are,
          sym (long_starts outlet),
        )
        (joined_part starts_to outlets (drop (length (all_starts edition g outlets)) starts) i h)

-- ---- what is seen of a call

either_number : (b : Bool) (n v d : ℕ) → (cond b (traced_all n v d) (traced_all n 0 0)).number ≡ n
either_number true n v d = refl
either_number false n v d = refl

-- the answer's number is the number of the first check that fails
told_number : (edition : ℕ) (g : Grid) (outlets : List ℕ) (n : ℕ) → (tells_all edition g outlets n).number ≡ n
unfolding tells_all
told_number edition g outlets n = either_number (sums_told n) n (all_visited edition g outlets) (all_dropped edition g outlets)

module _ (edition : ℕ) (c : Catchment) (old : LentAll) where
  abbrev land : Grid
  land = c.grid

  abbrev before : List Check
  before = all_checks edition c old.subaccumulation

  -- past 17, every outlet is traced as demand 3 says
  pub record Sound : Type 0 where
    pub agreement : agrees land c.accumulation ≡ true
    pub on_ground : Every (λ o. ground land o ≡ true) c.outlets
    pub are_different : different c.outlets ≡ true

  -- none of the checks before 20 gives 0 or 21
  all_passed : (n : ℕ) → (n ≡ 0) ⊎ (n ≡ 21) → trace_all_number edition c old ≡ n → (k : ℕ) → passes_of k before ≡ true
  unfolding trace_all_number check10 check11 check12 check14 check15 check16 check17 check25
  all_passed n (inl z) e = passed_others 0 before (last_checks edition c old) refl (e ∙ z)
  all_passed n (inr z) e = passed_others 21 before (last_checks edition c old) refl (e ∙ z)

  sound : (n : ℕ) → (n ≡ 0) ⊎ (n ≡ 21) → trace_all_number edition c old ≡ n → Sound
  unfolding check10 check11 check12 check14 check15 check16 check17 check25
  sound n i e =
      let p = all_passed n i e in
      record {
        agreement = p 14;
        on_ground = every_map (λ o. (ltb o (cell_count land) && ground land o) ≡ true) (λ o. ground land o ≡ true)
            (λ o k. (and_both (ltb o (cell_count land)) (ground land o) k).1) c.outlets
            (all_every (λ o. ltb o (cell_count land) && ground land o) c.outlets (p 16));
        are_different = p 17;
      }

  module _ (s : Sound) where
    promise : (i : ℕ) → i < length c.outlets
        → Demand3 land c.outlets (may_start edition land c.outlets (get_or c.outlets i 0)) (get_or c.outlets i 0)
        (tracing_of edition land c.outlets (get_or c.outlets i 0))
        (tracing edition false land c.outlets (get_or c.outlets i 0))
    promise i h = demand3 land c.accumulation s.agreement c.outlets (get_or c.outlets i 0)
        (member_at c.outlets i h) (every_at (λ o. ground land o ≡ true) c.outlets s.on_ground i h) edition true

    -- all that is visited or dropped
    together : all_visited edition land c.outlets + all_dropped edition land c.outlets
        ≤ how_many (ground land) (cell_count land)
    together = omega (
      arith,
      sum_parts (λ o. (tracing_of edition land c.outlets o).visited)
          (λ o. (tracing_of edition land c.outlets o).dropped) c.outlets,
      sum_alike (λ o. (tracing_of edition land c.outlets o).visited + (tracing_of edition land c.outlets o).dropped)
          (subaccumulation land c.outlets) c.outlets
          (every_placed (λ o. (tracing_of edition land c.outlets o).visited + (tracing_of edition land c.outlets o).dropped
          ≡ subaccumulation land c.outlets o) c.outlets
          (λ i h. (promise i h).counts ∙ (promise i h).cells)),
      outlets_ground land c.outlets c.accumulation s.agreement
          (different_sorted c.outlets s.are_different) s.on_ground,
    )

  -- what a call for one outlet alone counted
  alone_counts : (i : ℕ) {r : Traced} → SearchedAlone edition c i r → SearchCounts (alone edition c i) r
  alone_counts i a = elim a.searched [
    | inl e ↦ ((seen_way (alone edition c i) a.way).on_0 e).counts
    | inr e ↦ ((seen_way (alone edition c i) a.way).on_21 e).counts
  ]

  module _ {r : TracedAll} {new : LentAll} (t : TracesAll edition c old r new) where
    pub number_is : {n : ℕ} → r.number ≡ n → trace_all_number edition c old ≡ n
    number_is e = sym (ap (λ (a : TracedAll). a.number) t.answers ∙ told_number edition land c.outlets _) ∙ e

    sums_told_lem : (n : ℕ) → (n ≡ 0) ⊎ (n ≡ 21) → trace_all_number edition c old ≡ n
        → (r.visited ≡ all_visited edition land c.outlets) × (r.dropped ≡ all_dropped edition land c.outlets)
    unfolding tells_all
    sums_told_lem n (inl z) e = (rw (t.answers, e, z), rw (t.answers, e, z))
    sums_told_lem n (inr z) e = (rw (t.answers, e, z), rw (t.answers, e, z))

    sums_seen : (r.number ≡ 0) ⊎ (r.number ≡ 21) → SumsSeen edition c r
    sums_seen i =
        let n = r.number in
        let s = sound n i (number_is refl) in
        let v = sums_told_lem n i (number_is refl) in
        record {
          of_each = λ one a. (
            v.0 ∙ sum_alike (λ o. (tracing_of edition land c.outlets o).visited) (λ o. (one o).visited) c.outlets
                (every_placed (λ o. (tracing_of edition land c.outlets o).visited ≡ (one o).visited) c.outlets
                (λ j h. sym (alone_counts j (a j h)).visited)),
            v.1 ∙ sum_alike (λ o. (tracing_of edition land c.outlets o).dropped) (λ o. (one o).dropped) c.outlets
                (every_placed (λ o. (tracing_of edition land c.outlets o).dropped ≡ (one o).dropped) c.outlets
                (λ j h. sym (alone_counts j (a j h)).dropped)),
          );
          on_ground = omega (arith, v.0, v.1, together s);
        }

    -- accepted, there was room for all
    module _ (z : r.number ≡ 0) where
      room : (sum_of (path_counts edition land c.outlets) ≤ length old.starts)
          × (length c.outlets ≤ length old.counts)
      unfolding trace_all_number check10 check11 check12 check14 check15 check16 check17 check20 check21 check23
          check25
      room =
          let p = passed_others 0 (before ++ last_checks edition c old) [] refl (number_is z) in
          let q = leb-true (length (path_counts edition land c.outlets)) (length old.counts) (p 23) in (
            leb-true (sum_of (path_counts edition land c.outlets)) (length old.starts) (p 21),
            omega (arith, q, length-map c.outlets (λ o. path_count (tracing_of edition land c.outlets o))),
          )

      left_lists : (new.starts ≡ overlaid (all_starts edition land c.outlets) old.starts)
          × (new.counts ≡ overlaid (path_counts edition land c.outlets) old.counts)
      unfolding leaves_all
      left_lists = (rw (t.leaves, number_is z), rw (t.leaves, number_is z))

      module _ (i : ℕ) (h : i < length c.outlets) where
        abbrev found : List ℕ
        found = starts_to edition land c.outlets (get_or c.outlets i 0)

        part_is : starts_part new.starts new.counts i ≡ found
        part_is = rw (left_lists.0, left_lists.1)
            (part_listed edition land c.outlets old.starts old.counts room.0 room.1 i h)

        count_is : get_or new.counts i 0 ≡ length found
        count_is = rw left_lists.1
            (own_count edition land c.outlets old.starts old.counts room.0 room.1 i h
            ∙ sym (long_starts edition land c.outlets (get_or c.outlets i 0)))

        -- a call for the outlet alone lists the same, since no other list is so
        listed_alone : {a : Traced} {left : Lent} → Way (alone edition c i) a left → number_of a.answer ≡ 0
            → (length found ≡ (in_numbers a.answer).paths)
            × (found ≡ take (in_numbers a.answer).paths left.starts)
        listed_alone {a} {left} w e =
            let p = promise (sound 0 (inl refl) (number_is z)) i h in
            let f = (seen_way (alone edition c i) w).on_0 e in
            let q = ap (λ (b : Answer). (in_numbers b).paths) f.found in
            let l = p.unique (take f.paths left.starts) f.listed.exact f.listed.ordered in
            let m = length-take-le f.paths left.starts f.has_place in
            rw q (omega (arith, ap length l, m), sym l)

        pub part_seen : PartSeen edition c new i
        part_seen =
            let p = promise (sound 0 (inl refl) (number_is z)) i h in
            record {
              longest = rw part_is (record { exact = p.exact; once = p.once; ordered = p.ordered });
              counted = count_is ∙ ap length (sym part_is);
              as_alone = λ w e. let b = listed_alone w e in (count_is ∙ b.0, part_is ∙ b.1);
            }

    -- ---- the places of the list

    abbrev total : ℕ
    total = sum_of (path_counts edition land c.outlets)

    -- refused with 21, there was not
    too_many : r.number ≡ 21 → length old.starts < total
    unfolding trace_all_number check10 check11 check12 check14 check15 check16 check17 check20 check21 check23 check25
    too_many e =
        let earlier : List Check = before
        ++ (check20 (most_cells land c.outlets) old.work
        ∷ check23 (path_counts edition land c.outlets) old.counts ∷ []) in
        let room = leb total (length old.starts) in
        omega (
          arith,
          leb-false total (length old.starts) (fails room (last_given 21 21 room earlier (others 21 earlier refl)
              (number_is e))),
        )

    same_places : (n : ℕ) → (n ≡ 0) ⊎ (n ≡ 21) → trace_all_number edition c old ≡ n
        → length new.starts ≡ length old.starts
    unfolding leaves_all
    same_places n (inl z) e = rw (t.leaves, e, z) (overlaid_length (all_starts edition land c.outlets) old.starts)
    same_places n (inr z) e = rw (t.leaves, e, z)

    pub room_seen : (r.number ≡ 0) ⊎ (r.number ≡ 21) → RoomSeen edition c r new
    room_seen i =
        let s = sound r.number i (number_is refl) in
        let sum = ap sum_of (counts_are edition land c.outlets) in
        let long = same_places r.number i (number_is refl) in
        record {
          starts = starts_to edition land c.outlets;
          longest = λ j h. let p = promise s j h in record { exact = p.exact; once = p.once; ordered = p.ordered };
          on_21 = (
            λ e. omega (arith, too_many e, sum, long),
            λ few. elim i [ inl z ↦ absurd (omega (arith, (room z).0, few, sum, long)) | inr z ↦ z ],
          );
          on_0 = (
            λ e. omega (arith, (room e).0, sum, long),
            λ fit. elim i [ inl z ↦ z | inr z ↦ absurd (omega (arith, too_many z, fit, sum, long)) ],
          );
        }

  -- WHAT A CALLER SEES
  pub all_seen : {r : TracedAll} {new : LentAll} → TracesAll edition c old r new → AllSeen edition c r new
  all_seen t = record { sums = sums_seen t; parts = λ z i h. part_seen t z i h }
