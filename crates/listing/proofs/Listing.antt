-- The starts before an end, written to a list.
-- Assumes nothing.
use mathlib.Core.Path.{◌≡◌, refl, sym, ap, ◌∙◌, subst}
use mathlib.Core.List.{List, [], ◌∷◌}
use Prim.Native.Nat.{ℕ, zero, suc, ◌+◌, ◌-◌, ◌≤◌, ◌<◌, min}
use native.Mathlib.Omega.{arith}
use native.Mathlib.Decide.{dec_lt}
use lib.ListN.{length, get_or, set, take, length-set, get_or-append}
use lib.Seq.{ext_get_or, get_or_at, get_or-take, get_or-set_same, get_or-set_other, length-take-le}
use Rattle.progress.specs.Starts.{kept}
use Rattle.progress.proofs.Kept.{kept_length}
use Rattle.lists.specs.Slices.{overlaid}
use Rattle.lists.proofs.Overlaid.{overlaid_length}
use Rattle.lists.specs.Slices.{Kept}
use Rattle.lists.proofs.Overlaid.{front_is}

-- a start before the end
pub kept_at : (l : List ℕ) (end n x : ℕ) → x < n → get_or (kept l end n) x 0 ≡ get_or l (end - suc x) 0
unfolding kept
kept_at l end zero x h = absurd (omega arith)
kept_at l end (suc n) x h = elim (dec_lt x n) [
  | yes a ↦ get_or-append (kept l end n) (get_or l (end - suc n) 0 ∷ []) 0 x (omega (arith, kept_length l end n))
      ∙ kept_at l end n x a
  | no a ↦ let e : n ≡ x = omega arith in
      get_or_at (kept l end n) (get_or l (end - suc n) 0) [] 0 x (kept_length l end n ∙ e)
      ∙ ap (λ (i : ℕ). get_or l (end - suc i) 0) e
]

-- the first k places hold starts, the others what they held
pub record Listing (found : List ℕ) (end k : ℕ) (old new : List ℕ) : Type 0 where
  pub only : Kept k old new
  pub starts : (x : ℕ) → x < k → get_or new x 0 ≡ get_or found (end - suc x) 0

pub listing_none : {found : List ℕ} {end : ℕ} {old : List ℕ} → Listing found end 0 old old
listing_none = record {
  only = record { same_length = refl; rest = λ x h. refl };
  starts = λ x h. absurd (omega (arith, h));
}

pub listing_more : {found : List ℕ} {end k : ℕ} {old new : List ℕ} → k < length old → Listing found end k old new
    → Listing found end (k + 1) old (set new k (get_or found (end - 1 - k) 0))
listing_more {found} {end} {k} {old} {new} h s = record {
  only = record {
    same_length = length-set new k _ ∙ s.only.same_length;
    rest = λ x i. get_or-set_other new k x _ 0 (λ q. omega (arith, i, q)) ∙ s.only.rest x (omega (arith, i));
  };
  starts = λ x i. elim (dec_lt x k) [
    | yes a ↦ get_or-set_other new k x _ 0 (λ q. omega (arith, a, q)) ∙ s.starts x a
    | no a ↦ here x (omega (arith, a, i))
  ];
}
  where
    here : (x : ℕ) → x ≡ k → get_or (set new k (get_or found (end - 1 - k) 0)) x 0 ≡ get_or found (end - suc x) 0
    here x e =
        let i : end - 1 - k ≡ end - suc x = omega (arith, e) in
        ap (λ (y : ℕ). get_or (set new k (get_or found (end - 1 - k) 0)) y 0) e
        ∙ get_or-set_same new k _ 0 (omega (arith, h, s.only.same_length)) ∙ ap (λ (j : ℕ). get_or found j 0) i

module _ {found : List ℕ} {end : ℕ} {old new : List ℕ} where
  -- there is room for all
  listing_all : (n : ℕ) → n ≤ length old → Listing found end n old new → new ≡ overlaid (kept found end n) old
  listing_all n r s = front_is (kept found end n) (omega (arith, kept_length found end n))
      (subst (λ (k : ℕ). Kept k old new) (sym (kept_length found end n)) s.only)
      (λ x h. let i : x < n = omega (arith, h, kept_length found end n) in s.starts x i
      ∙ sym (kept_at found end n x i))

  -- or for the first
  listing_full : (n : ℕ) → length old ≤ n → Listing found end (length old) old new
      → new ≡ overlaid (kept found end n) old
  unfolding overlaid
  listing_full n r s = ext_get_or 0 new _ (s.only.same_length ∙ sym (overlaid_length (kept found end n) old))
      (λ i h. let k : i < length old = omega (arith, h, s.only.same_length) in
      s.starts i k ∙ sym (kept_at found end n i (omega (arith, k)))
      ∙ sym (get_or-take (length old) (kept found end n) i 0 k)
      ∙ sym (get_or-append (take (length old) (kept found end n)) _ 0 i
      (omega (arith, k, length-take-le (length old) (kept found end n) (omega (arith, kept_length found end n))))))

  -- as many as there is room for
  pub listed : (n k : ℕ) → k ≡ min (length old) n → Listing found end k old new
      → new ≡ overlaid (kept found end n) old
  listed n k e s = elim (dec_lt n (length old)) [
    | yes a ↦ listing_all n (omega arith) (subst (λ (j : ℕ). Listing found end j old new) (omega arith) s)
    | no a ↦ listing_full n (omega arith) (subst (λ (j : ℕ). Listing found end j old new) (omega arith) s)
  ]
