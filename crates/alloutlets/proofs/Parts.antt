-- Where the starts of an outlet stand in a list, by the counts.
-- Assumes nothing.
use mathlib.Core.Path.{◌≡◌, refl, sym, ap, ◌∙◌}
use mathlib.Core.Bool.{Bool, true, false, cond, ◌&&◌, and-false}
use mathlib.Core.List.{List}
use Prim.Native.Nat.{ℕ, zero, suc, ◌+◌, ◌-◌, ◌≤◌, ◌<◌}
use native.Mathlib.Numerals.{add-one}
use native.Mathlib.Omega.{arith}
use lib.ListN.{length, get_or, take, drop, length-take}
use Rattle.std.proofs.lemmas.List.{get_or-take}
use lib.Dec.{eqb, leb, ltb}
use borrow.Author.Tests.{ne_eqb, le-leb, lt-leb, lt-ltb, le-ltb, leb-true}
use Rattle.lists.specs.Lists.{sum_of}
use Rattle.lists.proofs.Sums.{sum_next, sum_more}
use Rattle.alloutlets.specs.Part.{starts_before, part_count, part_begin, starts_part, part_at}
use Rattle.alloutlets.specs.declared.Part.{Part}

abbrev empty : Part
empty = record { begin = 0; count = 0 }

module _ (counts : List ℕ) (choice n : ℕ) where
  abbrev own : ℕ
  own = get_or counts choice 0

  -- without a count the part begins nowhere
  none_shown : part_count counts choice n ≡ 0 → empty ≡ part_at counts choice n
  unfolding part_begin
  none_shown e = rw e

  -- outside the count list,
  pub shows_outside : length counts ≤ choice → empty ≡ part_at counts choice n
  unfolding part_count
  shows_outside h = none_shown (rw (le-ltb choice (length counts) h))

  -- past the starts, with its own count
  past : n < starts_before counts choice + own → part_count counts choice n ≡ 0
  unfolding part_count
  past h = rw (lt-leb (starts_before counts choice + own) n h, and-false (ltb choice (length counts)))

  pub shows_past : n < starts_before counts choice + own → empty ≡ part_at counts choice n
  shows_past h = none_shown (past h)

  -- or before it: the counts before its own are taken one after another
  module _ (i : choice < length counts) (k : ℕ) (h : k < length (take choice counts)) where
    abbrev count_before : ℕ
    count_before = get_or (take choice counts) k 0

    early : k < choice
    early = omega (arith, h, length-take choice counts)

    pub sum_before : sum_of (take (k + 1) counts) ≡ sum_of (take k counts) + count_before
    sum_before = rw (add-one k, get_or-take choice counts k 0 early) (sum_next counts k (omega (arith, early, i)))

    pub shows_early : n < sum_of (take k counts) + count_before → empty ≡ part_at counts choice n
    shows_early p = shows_past (omega (arith, p, sum_before, sum_more counts (k + 1) choice (omega (arith, early))))

  -- which are all taken in the end
  pub all_before : {k begin : ℕ} → choice < length counts → k ≤ length (take choice counts)
      → length (take choice counts) ≤ k → begin ≡ sum_of (take k counts) → begin ≡ starts_before counts choice
  all_before {k} i most least is =
      let e : k ≡ choice = omega (arith, i, most, least, length-take choice counts) in
      is ∙ ap (λ (j : ℕ). sum_of (take j counts)) e

  -- within them
  module _ (i : choice < length counts) (p : starts_before counts choice + own ≤ n) where
    within : part_count counts choice n ≡ own
    unfolding part_count
    within = rw (lt-ltb choice (length counts) i, le-leb (starts_before counts choice + own) n p)

    pub shows_none : own ≡ 0 → empty ≡ part_at counts choice n
    shows_none e = none_shown (within ∙ e)

    pub shows_own : {begin count : ℕ} → begin ≡ starts_before counts choice → count ≡ own → (count ≡ 0 → ⊥)
        → (record { begin = begin; count = count }) ≡ part_at counts choice n
    unfolding part_begin
    shows_own {begin} {count} e f z = rw (e, f, within, ne_eqb own 0 (λ q. z (f ∙ q)))

-- ---- the part handed back

module _ (counts : List ℕ) (choice n : ℕ) where
  abbrev mine : ℕ
  mine = get_or counts choice 0

  abbrev shown : Bool → Bool → ℕ
  shown a b = cond (a && b) mine 0

  no_later : (z : Bool) → cond z 0 (starts_before counts choice) ≤ starts_before counts choice
  no_later true = omega arith
  no_later false = omega arith

  begin_within : part_begin counts choice n + part_count counts choice n ≤ n
  unfolding part_begin part_count
  begin_within = go (ltb choice (length counts)) (leb (starts_before counts choice + mine) n) refl
    where
      go : (a b : Bool) → leb (starts_before counts choice + mine) n ≡ b
          → cond (eqb (shown a b) 0) 0 (starts_before counts choice) + shown a b ≤ n
      go true true e = omega (arith, leb-true (starts_before counts choice + mine) n e, no_later (eqb mine 0))
      go true false e = omega arith
      go false b e = omega arith

module _ (starts counts : List ℕ) (choice : ℕ) {p : Part} (e : p ≡ part_at counts choice (length starts)) where
  counted : p.count ≡ part_count counts choice (length starts)
  counted = ap (λ (q : Part). q.count) e

  -- it stays within the starts
  pub part_within : p.begin + p.count ≤ length starts
  part_within = rw e (begin_within counts choice (length starts))

  -- and begins after the counts before its own, unless it is empty
  pub part_begins : 0 < p.count → p.begin ≡ starts_before counts choice
  unfolding part_begin
  part_begins h = ap (λ (q : Part). q.begin) e
      ∙ rw (ne_eqb (part_count counts choice (length starts)) 0 (λ z. omega (arith, h, z, counted)))

  pub part_is : take (p.begin + p.count - p.begin) (drop p.begin starts) ≡ starts_part starts counts choice
  part_is = go p.count refl
    where
      m : p.begin + p.count - p.begin ≡ p.count
      m = omega arith

      go : (n : ℕ) → p.count ≡ n → take (p.begin + p.count - p.begin) (drop p.begin starts)
          ≡ starts_part starts counts choice
      go zero z = rw (m, z, sym counted ∙ z)
      go (suc n) z = rw (m, part_begins (omega (arith, z)), counted)

  -- it has a start only if it has a count
  pub part_some : 0 < length (take (p.begin + p.count - p.begin) (drop p.begin starts)) → 0 < p.count
  part_some h = omega (arith, h, length-take (p.begin + p.count - p.begin) (drop p.begin starts))
