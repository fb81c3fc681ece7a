-- Two numbers of a list change places: the same numbers stand in it, with the same sum.
-- Assumes nothing.
use mathlib.Core.Path.{◌≡◌, refl, sym, ap, ◌∙◌, subst}
use mathlib.Core.Bool.{Bool, true, false}
use mathlib.Core.List.{List, [], ◌∷◌, map}
use Prim.Native.Nat.{ℕ, zero, suc, ◌/◌, ◌%◌, ◌≤◌, ◌<◌}
use native.Mathlib.Omega.{arith}
use lib.ListN.{length, get_or, set, take, length-map, length-set}
use lib.Seq.{lt-length-set, get_or-set_same, get_or-set_other, get_or-take, take-set-le, take-set-lt, length-take-le}
use lib.Dec.{eqb}
use borrow.Author.Tests.{eqb-true, eqb-false}
use Rattle.lists.specs.Lists.{In, Every, member, sum_of}
use Rattle.lists.specs.Slices.{Kept}
use Rattle.lists.proofs.Lists.{get_d_map, every_at, every_placed}
use Rattle.lists.proofs.Kept.{kept_set, kept_then, sum_set}
use Rattle.lists.proofs.Members.{member_at, in_member, member_in, position_of}
use Rattle.gathering.specs.Gathering.{cell_of, listed, exchanged, OnList}

-- ---- what stands where

-- ys is xs with k and l exchanged, and so is xs of ys
pub record Exchange (xs ys : List ℕ) (k l : ℕ) : Type 0 where
  pub same_length : length ys ≡ length xs
  pub first_in : k < length xs
  pub last_in : l < length xs
  pub at_first : get_or ys k 0 ≡ get_or xs l 0
  pub at_last : get_or ys l 0 ≡ get_or xs k 0
  pub at_others : (i : ℕ) → (i ≡ k → ⊥) → (i ≡ l → ⊥) → get_or ys i 0 ≡ get_or xs i 0

pub exchange : (xs : List ℕ) (k l : ℕ) → k < length xs → l < length xs → Exchange xs (exchanged xs k l) k l
unfolding exchanged
exchange xs k l h i = record {
  same_length = length-set mid k (get_or xs l 0) ∙ length-set xs l (get_or xs k 0);
  first_in = h;
  last_in = i;
  at_first = first;
  at_last = go (eqb l k) refl;
  at_others = λ j p q. get_or-set_other mid k j (get_or xs l 0) 0 p ∙ get_or-set_other xs l j (get_or xs k 0) 0 q;
}
  where
    mid : List ℕ
    mid = set xs l (get_or xs k 0)

    first : get_or (set mid k (get_or xs l 0)) k 0 ≡ get_or xs l 0
    first = get_or-set_same mid k (get_or xs l 0) 0 (lt-length-set xs l (get_or xs k 0) h)

    go : (b : Bool) → eqb l k ≡ b → get_or (set mid k (get_or xs l 0)) l 0 ≡ get_or xs k 0
    go true e = let q = eqb-true l k e in
        ap (λ (j : ℕ). get_or (set mid k (get_or xs l 0)) j 0) q ∙ first ∙ ap (λ (j : ℕ). get_or xs j 0) q
    go false e = get_or-set_other mid k l (get_or xs l 0) 0 (eqb-false l k e) ∙ get_or-set_same xs l (get_or xs k 0) 0 i

module _ {xs ys : List ℕ} {k l : ℕ} (e : Exchange xs ys k l) where
  exchange_back : Exchange ys xs k l
  exchange_back = record {
    same_length = sym e.same_length;
    first_in = omega (arith, e.first_in, e.same_length);
    last_in = omega (arith, e.last_in, e.same_length);
    at_first = sym e.at_last;
    at_last = sym e.at_first;
    at_others = λ i p q. sym (e.at_others i p q);
  }

  -- what holds of each of the first n still does
  each_still : (P : ℕ → Type 0) (n : ℕ) → k < n → l < n → ((i : ℕ) → i < n → P (get_or xs i 0)) → (i : ℕ) → i < n
      → P (get_or ys i 0)
  each_still P n a b h i j = go (eqb i k) refl (eqb i l) refl
    where
      go : (c : Bool) → eqb i k ≡ c → (d : Bool) → eqb i l ≡ d → P (get_or ys i 0)
      go true p d q = subst (λ (m : ℕ). P (get_or ys m 0)) (sym (eqb-true i k p)) (rw e.at_first (h l b))
      go false p true q = subst (λ (m : ℕ). P (get_or ys m 0)) (sym (eqb-true i l q)) (rw e.at_last (h k a))
      go false p false q = rw (e.at_others i (eqb-false i k p) (eqb-false i l q)) (h i j)

  pub every_still : (P : ℕ → Type 0) → Every P xs → Every P ys
  every_still P h = every_placed P ys (λ j i. each_still P (length xs) e.first_in e.last_in (every_at P xs h) j
      (omega (arith, e.same_length)))

  member_was : (x : ℕ) → member x ys ≡ true → member x xs ≡ true
  member_was x m =
      let p = position_of x ys m in
      subst (λ (z : ℕ). member z xs ≡ true) p.holds
      (each_still (λ z. member z xs ≡ true) (length xs) e.first_in e.last_in (member_at xs) p.at
      (omega (arith, p.inside, e.same_length)))

-- the same numbers stand in it
pub same_members : {xs ys : List ℕ} {k l : ℕ} → Exchange xs ys k l → (x : ℕ) → member x ys ≡ member x xs
same_members {xs} {ys} e x = go (member x ys) refl (member x xs) refl
  where
    go : (a : Bool) → member x ys ≡ a → (b : Bool) → member x xs ≡ b → a ≡ b
    go true p b q = sym (member_was e x p) ∙ q
    go false p true q = sym p ∙ member_was (exchange_back e) x q
    go false p false q = refl

pub in_still : {xs ys : List ℕ} {k l : ℕ} → Exchange xs ys k l → (x : ℕ) → In x xs → In x ys
in_still {xs} {ys} e x i = member_in x ys (same_members e x ∙ in_member x xs i)

-- ---- sums, and the first n

pub sum_exchanged : (xs : List ℕ) (k l : ℕ) → k < length xs → l < length xs → sum_of (exchanged xs k l) ≡ sum_of xs
unfolding exchanged
sum_exchanged xs k l h i =
    let mid = set xs l (get_or xs k 0) in
    let e : get_or mid k 0 ≡ get_or xs k 0 = go (eqb k l) refl in
    omega (
      arith,
      e,
      sum_set xs l (get_or xs k 0) i,
      sum_set mid k (get_or xs l 0) (lt-length-set xs l (get_or xs k 0) h),
    )
  where
    go : (b : Bool) → eqb k l ≡ b → get_or (set xs l (get_or xs k 0)) k 0 ≡ get_or xs k 0
    go true e = subst (λ (j : ℕ). get_or (set xs l (get_or xs k 0)) j 0 ≡ get_or xs k 0) (sym (eqb-true k l e))
        (get_or-set_same xs l (get_or xs k 0) 0 i)
    go false e = get_or-set_other xs l k (get_or xs k 0) 0 (eqb-false k l e)

map_set : (f : ℕ → ℕ) (xs : List ℕ) (i v : ℕ) → map f (set xs i v) ≡ set (map f xs) i (f v)
map_set f [] i v = refl
map_set f (x ∷ xs) zero v = refl
map_set f (x ∷ xs) (suc i) v = ap (λ (l : List ℕ). f x ∷ l) (map_set f xs i v)

pub map_exchanged : (f : ℕ → ℕ) (xs : List ℕ) (k l : ℕ) → k < length xs → l < length xs
    → map f (exchanged xs k l) ≡ exchanged (map f xs) k l
unfolding exchanged
map_exchanged f xs k l h i = simp (map_set, get_d_map f xs k 0 h, get_d_map f xs l 0 i)

take_exchanged : (n : ℕ) (xs : List ℕ) (k l : ℕ) → k < n → l < n → take n (exchanged xs k l) ≡ exchanged (take n xs) k l
unfolding exchanged
take_exchanged n xs k l h i = simp (
  take-set-lt n (set xs l (get_or xs k 0)) k (get_or xs l 0) h,
  take-set-lt n xs l (get_or xs k 0) i,
  get_or-take n xs k 0 h,
  get_or-take n xs l 0 i,
)

-- the numbers before k stay
pub take_before : (xs : List ℕ) (k l : ℕ) → k ≤ l → take k (exchanged xs k l) ≡ take k xs
unfolding exchanged
take_before xs k l h = take-set-le k (set xs l (get_or xs k 0)) k (get_or xs l 0) (omega arith)
    ∙ take-set-le k xs l (get_or xs k 0) h

-- ---- the cells listed

pub listed_length : {rows cols : ℕ} {list : List ℕ} {n : ℕ} → OnList rows cols list n → length (listed cols list n) ≡ n
listed_length {rows} {cols} {list} {n} on = length-map (take n list) (cell_of cols) ∙ length-take-le n list on.within

module _ {rows cols : ℕ} {list : List ℕ} {n k l : ℕ} (on : OnList rows cols list n) (h : k < n) (i : l < n) where
  pub listed_exchanged : listed cols (exchanged list k l) n ≡ exchanged (listed cols list n) k l
  listed_exchanged = ap (map (cell_of cols)) (take_exchanged n list k l h i)
      ∙ map_exchanged (cell_of cols) (take n list) k l (omega (arith, length-take-le n list on.within))
      (omega (arith, length-take-le n list on.within))

  list_exchange : Exchange list (exchanged list k l) k l
  list_exchange = exchange list k l (omega (arith, on.within)) (omega (arith, on.within))

  pub on_exchanged : OnList rows cols (exchanged list k l) n
  on_exchanged = record {
    within = omega (arith, on.within, list_exchange.same_length);
    row_in = each_still list_exchange (λ x. x / 4096 < rows) n h i on.row_in;
    col_in = each_still list_exchange (λ x. x % 4096 < cols) n h i on.col_in;
  }

  pub kept_exchanged : Kept n list (exchanged list k l)
  unfolding exchanged
  kept_exchanged = kept_then (kept_set l (get_or list k 0) i) (kept_set k (get_or list l 0) h)
