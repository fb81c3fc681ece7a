-- Tests of a list, and of what is left of it from a place on.
-- Assumes nothing.
use mathlib.Core.Path.{◌≡◌, refl, sym, ap, ◌∙◌}
use mathlib.Core.Bool.{Bool, true, false, ◌&&◌, ◌||◌}
use mathlib.Core.List.{List}
use Prim.Native.Nat.{ℕ, ◌+◌, ◌-◌, ◌≤◌, ◌<◌}
use native.Mathlib.Numerals.{add-one}
use lib.ListN.{length, get_or, take, drop, drop_of_length-le}
use lib.Dec.{eqb}
use lib.Seq.{drop-cons}
use Rattle.std.proofs.lemmas.List.{take_rest}
use Rattle.std.specs.List.{list_all, list_any}
use Rattle.std.proofs.lemmas.List.Recursion.{same_from_clauses}
use Rattle.lists.specs.Lists.{member, different}
use Rattle.answers.specs.Checks.{all_pass}

-- the library's words for them
pub all_pass_is : (f : ℕ → Bool) (xs : List ℕ) → list_all f xs ≡ all_pass f xs
all_pass_is f = same_from_clauses (list_all f) (all_pass f) (λ x b. f x && b) refl (λ _ _. refl) (λ _ _. refl)

pub member_is : (x : ℕ) (xs : List ℕ) → list_any (λ y. eqb y x) xs ≡ member x xs
member_is x =
    same_from_clauses (list_any (λ y. eqb y x)) (member x) (λ y b. eqb y x || b) refl (λ _ _. refl) (λ _ _. refl)

-- is x in the rest of a list from n on?
pub in_rest : (x : ℕ) (l : List ℕ) (n : ℕ)
    → list_any (λ y. eqb y x) (take (length l - n) (drop n l)) ≡ member x (drop n l)
in_rest x l n = ap (list_any (λ y. eqb y x)) (take_rest l n) ∙ member_is x (drop n l)

-- of a test b of a list, what is left from i on decides: at the end, and at the element there
module _ (l : List ℕ) (i : ℕ) (b : Bool) (left : b ≡ different (drop i l)) where
  pub different_ends : length l ≤ i → true ≡ b
  different_ends h = sym (left ∙ rw (drop_of_length-le l {i = i} h))

  module _ (h : i < length l) where
    pub different_breaks : member (get_or l i 0) (drop (i + 1) l) ≡ true → false ≡ b
    different_breaks e = sym (left ∙ rw (drop-cons l i 0 h, rw (add-one i) at e))

    pub different_goes_on : member (get_or l i 0) (drop (i + 1) l) ≡ false → b ≡ different (drop (i + 1) l)
    different_goes_on e = left ∙ rw (add-one i, drop-cons l i 0 h, rw (add-one i) at e)
