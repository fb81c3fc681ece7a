-- The second pass: storing what is left of both lists stores all.
-- Assumes nothing.
use mathlib.Core.Path.{◌≡◌, refl, sym, ap, ◌∙◌}
use mathlib.Core.List.{List, [], ◌++◌, map, append-nil, append_assoc}
use Prim.Native.Nat.{ℕ, suc, ◌+◌, ◌-◌, ◌≤◌, ◌<◌}
use native.Mathlib.Numerals.{add-one}
use native.Mathlib.Omega.{arith}
use lib.ListN.{length, get_or, set, take, drop, length-map, length-set, length-drop, drop_of_length-le}
use lib.Seq.{sets, sets-eq, length-sets, drop-cons, drop-drop, take_all}
use Rattle.lists.specs.Lists.{sum_of, joined}
use Rattle.lists.specs.Slices.{overlaid}
use Rattle.lists.proofs.Overlaid.{overlaid_front, sets_after, sets_overlaid}
use Rattle.lists.proofs.Sums.{joined_left, sum_left}
use Rattle.ground.specs.Grid.{Grid}
use Rattle.alloutlets.specs.AllOutlets.{all_starts, path_counts}
use Rattle.alloutlets.proofs.AllOutlets.{starts_to, long_starts, all_long}
use Rattle.passes.proofs.Counting.{paths_to, Adds}

-- numbers written to the part of a list from a place on
pub put_part : (xs cs : List ℕ) (a : ℕ) {ys : List ℕ} → a + length cs ≤ length xs
    → ys ≡ overlaid cs (take (length xs - a) (drop a xs))
    → take a xs ++ (ys ++ drop (length xs - a) (drop a xs)) ≡ sets xs a cs
put_part xs cs a {ys} h e =
    ap (λ (l : List ℕ). take a xs ++ (ys ++ l)) none
    ∙ ap (λ (l : List ℕ). take a xs ++ l) (append-nil ys ∙ e ∙ ap (overlaid cs) all ∙ whole)
    ∙ sym (append_assoc (take a xs) cs (drop (a + length cs) xs)) ∙ sym (sets-eq cs xs a h)
  where
    long : length (drop a xs) ≡ length xs - a
    long = length-drop a xs

    none : drop (length xs - a) (drop a xs) ≡ []
    none = drop_of_length-le (drop a xs) {i = length xs - a} (omega (arith, long))

    all : take (length xs - a) (drop a xs) ≡ drop a xs
    all = take_all (length xs - a) (drop a xs) (omega (arith, long))

    whole : overlaid cs (drop a xs) ≡ cs ++ drop (a + length cs) xs
    whole = overlaid_front cs (drop a xs) (omega (arith, h, long))
        ∙ ap (λ (l : List ℕ). cs ++ l) (drop-drop (length cs) a xs)

module _ (edition : ℕ) (g : Grid) (outlets : List ℕ) where
  pub record Listing (starts₀ counts₀ : List ℕ) (j from : ℕ) (starts counts : List ℕ) : Type 0 where
    pub before : Adds edition g outlets (paths_to edition g outlets) j from
    pub same_starts : length starts ≡ length starts₀
    pub same_counts : length counts ≡ length counts₀
    pub starts_left : sets starts from (joined (map (starts_to edition g outlets) (drop j outlets))) ≡ sets starts₀ 0
        (all_starts edition g outlets)
    pub counts_left : sets counts j (map (paths_to edition g outlets) (drop j outlets)) ≡ sets counts₀ 0
        (path_counts edition g outlets)

  pub listing_none : {starts counts : List ℕ} → Listing starts counts 0 0 starts counts
  listing_none = record {
    before = omega arith;
    same_starts = refl;
    same_counts = refl;
    starts_left = refl;
    counts_left = refl;
  }

  module _ {starts₀ counts₀ : List ℕ} where
    -- what is listed, and one outlet more, stays within the list
    module _ {j : ℕ} (i : j < length outlets) (room : sum_of (path_counts edition g outlets) ≤ length starts₀) {from : ℕ}
        {starts counts : List ℕ} (l : Listing starts₀ counts₀ j from starts counts) where
      pub within : from + paths_to edition g outlets (get_or outlets j 0) ≤ length starts
      within = omega (arith, l.before, l.same_starts, room, sum_left (paths_to edition g outlets) outlets j i)

      pub fits_all : from + paths_to edition g outlets (get_or outlets j 0) ≤ sum_of (path_counts edition g outlets)
      fits_all = omega (arith, l.before, sum_left (paths_to edition g outlets) outlets j i)

      pub listing_more : {starts' : List ℕ} (count : ℕ)
          → starts' ≡ sets starts from (starts_to edition g outlets (get_or outlets j 0))
          → count ≡ paths_to edition g outlets (get_or outlets j 0)
          → Listing starts₀ counts₀ (j + 1) (from + count) starts' (set counts j count)
      listing_more {starts'} count e q = record {
        before = rw (add-one j) (omega (arith, l.before, q, sum_left (paths_to edition g outlets) outlets j i));
        same_starts = ap length e ∙ length-sets starts from (starts_to edition g outlets (get_or outlets j 0)) ∙ l.same_starts;
        same_counts = length-set counts j count ∙ l.same_counts;
        starts_left = rw (add-one j, e, q, sym (long_starts edition g outlets (get_or outlets j 0))) (
            sets_after (starts_to edition g outlets (get_or outlets j 0))
            (joined (map (starts_to edition g outlets) (drop (suc j) outlets)))
            starts from ∙ ap (sets starts from) (sym (joined_left (starts_to edition g outlets) outlets j i)) ∙ l.starts_left
            );
        counts_left = rw (add-one j, q) (
            ap (λ (os : List ℕ). sets counts j (map (paths_to edition g outlets) os)) (sym (drop-cons outlets j 0 i))
            ∙ l.counts_left
            );
      }

    -- all are listed
    module _ {j from : ℕ} {starts counts : List ℕ} (h : length outlets ≤ j)
        (l : Listing starts₀ counts₀ j from starts counts) where
      none_left : drop j outlets ≡ []
      none_left = drop_of_length-le outlets {i = j} h

      pub all_listed : sum_of (path_counts edition g outlets) ≤ length starts₀ → starts ≡ overlaid
          (all_starts edition g outlets) starts₀
      unfolding joined
      all_listed r = ap (λ (os : List ℕ). sets starts from (joined (map (starts_to edition g outlets) os)))
          (sym none_left) ∙ l.starts_left
          ∙ sets_overlaid starts₀ (all_starts edition g outlets) (omega (arith, r, all_long edition g outlets))

      pub all_counted : length outlets ≤ length counts₀ → counts ≡ overlaid (path_counts edition g outlets) counts₀
      all_counted r = ap (λ (os : List ℕ). sets counts j (map (paths_to edition g outlets) os)) (sym none_left)
          ∙ l.counts_left
          ∙ sets_overlaid counts₀ (path_counts edition g outlets)
          (omega (arith, r, length-map outlets (paths_to edition g outlets)))
