-- Laws of membership in a list of numbers, as it is looked for from a place on.
-- Assumes nothing.
use mathlib.Core.Path.{◌≡◌, refl, sym, ap, ◌∙◌, subst}
use mathlib.Core.Bool.{Bool, true, false, true≢false, not, ◌||◌, or-true, or-false, or_assoc}
use mathlib.Core.Logic.{inl, inr}
use mathlib.Core.List.{List, [], ◌∷◌, ◌++◌}
use Prim.Native.Nat.{ℕ, zero, suc, ◌+◌, ◌≤◌, ◌<◌}
use native.Mathlib.Numerals.{add-one}
use native.Mathlib.Omega.{arith}
use lib.ListN.{length, get_or, take, drop, drop_of_length-le}
use lib.Seq.{drop-cons, take-suc}
use lib.Dec.{eqb}
use borrow.Author.Tests.{eqb-true, eq-eqb, ne_eqb}
use Rattle.std.specs.List.{list_any}
use Rattle.lists.specs.Lists.{In, Every, Sorted, member, different}
use Rattle.lists.proofs.Lists.{and_both, every_is}

-- what `any` answers
pub any_member : (x : ℕ) (xs : List ℕ) → list_any (λ y. eqb y x) xs ≡ member x xs
any_member x [] = refl
any_member x (y ∷ xs) = ap (λ (b : Bool). eqb y x || b) (any_member x xs)

-- an element of a list stands in it
pub member_at : (xs : List ℕ) (i : ℕ) → i < length xs → member (get_or xs i 0) xs ≡ true
member_at [] i l = absurd (omega arith)
member_at (x ∷ xs) zero l = rw (eq-eqb x x refl)
member_at (x ∷ xs) (suc i) l = rw (member_at xs i (omega arith)) (or-true (eqb x (get_or xs i 0)))

pub in_member : (x : ℕ) (xs : List ℕ) → In x xs → member x xs ≡ true
in_member x [] i = absurd i
in_member x (y ∷ xs) (inl e) = rw (eq-eqb y x (sym e))
in_member x (y ∷ xs) (inr i) = rw (in_member x xs i) (or-true (eqb y x))

pub member_in : (x : ℕ) (xs : List ℕ) → member x xs ≡ true → In x xs
member_in x [] e = absurd (true≢false (sym e))
member_in x (y ∷ xs) e = go (eqb y x) refl (member_in x xs)
  where
    go : (b : Bool) → eqb y x ≡ b → (member x xs ≡ true → In x xs) → In x (y ∷ xs)
    go true f ih = inl (sym (eqb-true y x f))
    go false f ih = inr (ih (rw f at e))

-- a list without the same number twice
apart_member : (x : ℕ) (xs : List ℕ) → not (member x xs) ≡ true → Every (λ y. x ≡ y → ⊥) xs
apart_member x xs h = every_is (λ y. x ≡ y → ⊥) xs
    (λ y i e. true≢false (sym h ∙ ap not (in_member x xs (subst (λ z. In z xs) (sym e) i))))

pub different_sorted : (xs : List ℕ) → different xs ≡ true → Sorted (λ x y. x ≡ y → ⊥) xs
different_sorted [] h = tt
different_sorted (x ∷ xs) h =
    let p = and_both (not (member x xs)) (different xs) h in
    (apart_member x xs p.0, different_sorted xs p.1)

-- a number of a list stands at a position of it
pub record Position (x : ℕ) (xs : List ℕ) : Type 0 where
  pub at : ℕ
  pub inside : at < length xs
  pub holds : get_or xs at 0 ≡ x

pub position_of : (x : ℕ) (xs : List ℕ) → member x xs ≡ true → Position x xs
position_of x [] e = absurd (true≢false (sym e))
position_of x (y ∷ xs) e = go (eqb y x) refl (position_of x xs)
  where
    go : (b : Bool) → eqb y x ≡ b → (member x xs ≡ true → Position x xs) → Position x (y ∷ xs)
    go true f ih = record { at = 0; inside = omega arith; holds = eqb-true y x f }
    go false f ih =
        let p = ih (rw f at e) in
        record { at = suc p.at; inside = omega (arith, p.inside); holds = p.holds }

-- b says whether x is in the list, if what is left from i on decides it: at the element there, and at the end
module _ (l : List ℕ) (i : ℕ) (b : Bool) (x : ℕ) (left : b ≡ member x (drop i l)) where
  pub member_ends : length l ≤ i → false ≡ b
  member_ends h = sym (left ∙ rw (drop_of_length-le l {i = i} h))

  module _ (h : i < length l) where
    pub member_found : get_or l i 0 ≡ x → true ≡ b
    member_found e = sym (left ∙ rw (drop-cons l i 0 h, eq-eqb (get_or l i 0) x e))

    pub member_goes_on : (get_or l i 0 ≡ x → ⊥) → b ≡ member x (drop (i + 1) l)
    member_goes_on e = left ∙ rw (add-one i, drop-cons l i 0 h, ne_eqb (get_or l i 0) x e)

-- ---- the first j and one more

member_snoc : (x : ℕ) (xs : List ℕ) (o : ℕ) → member x (xs ++ (o ∷ [])) ≡ (member x xs || eqb o x)
member_snoc x [] o = or-false (eqb o x)
member_snoc x (y ∷ xs) o = ap (λ (b : Bool). eqb y x || b) (member_snoc x xs o)
    ∙ sym (or_assoc (eqb y x) (member x xs) (eqb o x))

module _ (xs : List ℕ) (j : ℕ) (h : j < length xs) (x : ℕ) where
  pub member_more : member x (take (suc j) xs) ≡ (member x (take j xs) || eqb (get_or xs j 0) x)
  member_more = ap (member x) (take-suc xs j 0 h) ∙ member_snoc x (take j xs) (get_or xs j 0)

  pub member_next : member x (take (j + 1) xs) ≡ (member x (take j xs) || eqb (get_or xs j 0) x)
  member_next = ap (λ (n : ℕ). member x (take n xs)) (add-one j) ∙ member_more

  pub member_it : eqb (get_or xs j 0) x ≡ true → member x (take (suc j) xs) ≡ true
  member_it e = member_more ∙ ap (λ (b : Bool). member x (take j xs) || b) e ∙ or-true (member x (take j xs))

  pub member_other : eqb (get_or xs j 0) x ≡ false → member x (take (suc j) xs) ≡ member x (take j xs)
  member_other e = member_more ∙ ap (λ (b : Bool). member x (take j xs) || b) e
      ∙ or-false (member x (take j xs))
