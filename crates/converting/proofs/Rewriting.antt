-- Laws of counterparts: by one place more, and of a code that stands in the list once.
-- Assumes nothing.
use mathlib.Core.Path.{◌≡◌, sym, ap, ◌∙◌}
use mathlib.Core.Bool.{true}
use mathlib.Core.List.{List}
use Prim.Native.Nat.{ℕ, zero, suc, ◌+◌, ◌≤◌, ◌<◌}
use native.Mathlib.Numerals.{add-one}
use native.Mathlib.Omega.{arith}
use native.Mathlib.Decide.{dec_lt}
use lib.ListN.{length, get_or, set}
use borrow.Author.Tests.{eq-eqb, ne_eqb}
use Rattle.lists.specs.Lists.{different}
use Rattle.lists.proofs.Lists.{sorted_at}
use Rattle.lists.proofs.Members.{different_sorted}
use Rattle.lists.proofs.Kept.{kept_all, kept_then, kept_set, stored}
use Rattle.converting.specs.Rewriting.{counterpart, Readable, Rewritten}

module _ (from to : List ℕ) (k code : ℕ) where
  -- the next place has the code
  pub found_there : get_or from k 0 ≡ code → get_or to k 0 ≡ counterpart (k + 1) from to code
  unfolding counterpart
  found_there e = rw (add-one k, eq-eqb (get_or from k 0) code e)

  -- or has another
  pub not_there : (get_or from k 0 ≡ code → ⊥) → {found : ℕ} → found ≡ counterpart k from to code
      → found ≡ counterpart (k + 1) from to code
  unfolding counterpart
  not_there f e = e ∙ rw (add-one k, ne_eqb (get_or from k 0) code f)

-- where no code stands twice, the counterpart of the one at a place stands at that place
module _ (from to : List ℕ) (are_different : different from ≡ true) (p code : ℕ) (holds : get_or from p 0 ≡ code) where
  pub counterpart_at : (k : ℕ) → p < k → k ≤ length from → counterpart k from to code ≡ get_or to p 0
  unfolding counterpart
  counterpart_at zero h l = absurd (omega arith)
  counterpart_at (suc k) h l = elim (dec_lt p k) [
    | yes i ↦ rw (ne_eqb (get_or from k 0) code (λ q. apart i (holds ∙ sym q))) (counterpart_at k i (omega arith))
    | no i ↦ let q : p ≡ k = omega arith in
        rw (eq-eqb (get_or from k 0) code (ap (λ (x : ℕ). get_or from x 0) (sym q) ∙ holds), q)
  ]
    where
      apart : p < k → get_or from p 0 ≡ get_or from k 0 → ⊥
      apart i = sorted_at (λ x y. x ≡ y → ⊥) from (different_sorted from are_different) p k i (omega arith)

-- nothing is rewritten yet, and one place more
pub rewrite_none : {n : ℕ} {from to codes old : List ℕ} → Rewritten n 0 from to codes old old
rewrite_none = record { kept = kept_all; are_counterparts = λ x h. absurd (omega arith) }

pub rewrite_next : {n at : ℕ} {from to codes old new : List ℕ} → Readable n from to codes old → at < n
    → Rewritten n at from to codes old new → {v : ℕ} → v ≡ counterpart 10 from to (get_or codes at 0)
    → Rewritten n (at + 1) from to codes old (set new at v)
rewrite_next {n} {at} {from} {to} {codes} {old} {new} r h w {v} e = record {
  kept = kept_then w.kept (kept_set at v h);
  are_counterparts = stored (λ x. counterpart 10 from to (get_or codes x 0)) new at v
      (omega (arith, w.kept.same_length, r.has_places)) w.are_counterparts e;
}
