-- Laws of the words on lists.
-- Assumes nothing.
use mathlib.Core.Path.{◌≡◌, refl, sym, ap, ap₂, ◌∙◌, subst}
use mathlib.Core.Bool.{Bool, true, false, ◌&&◌, ◌||◌, true≢false}
use mathlib.Core.Logic.{inl, inr}
use mathlib.Core.List.{List, [], ◌∷◌, ◌++◌, map}
use Prim.Native.Nat.{ℕ, zero, suc, ◌+◌, ◌≤◌, ◌<◌}
use native.Mathlib.Numerals.{add-one}
use native.Mathlib.Omega.{arith}
use lib.ListN.{length, get_or}
use lib.Dec.{eqb}
use borrow.Author.Tests.{eqb-true, eqb-false}
use Rattle.lists.specs.Lists.{In, Every, Sorted, keep_if, only, all_below}

pub every_append : {A : Type 0} (P : A → Type 0) (xs ys : List A) → Every P xs → Every P ys → Every P (xs ++ ys)
every_append P [] ys h i = i
every_append P (x ∷ xs) ys h i = (h.0, every_append P xs ys h.1 i)

pub every_map : {A : Type 0} (P Q : A → Type 0) → ((x : A) → P x → Q x) → (xs : List A) → Every P xs → Every Q xs
every_map P Q f [] h = tt
every_map P Q f (x ∷ xs) h = (f x h.0, every_map P Q f xs h.1)

pub every_keep : {A : Type 0} (P : A → Type 0) (b : Bool) (x : A) (xs : List A) → P x → Every P xs
    → Every P (keep_if b x xs)
every_keep P true x xs h i = (h, i)
every_keep P false x xs h i = i

pub keep_append : {A : Type 0} (b : Bool) (x : A) (xs ys : List A) → keep_if b x (xs ++ ys) ≡ keep_if b x xs ++ ys
keep_append true x xs ys = refl
keep_append false x xs ys = refl

pub only_append : {A : Type 0} (f : A → Bool) (xs ys : List A) → only f (xs ++ ys) ≡ only f xs ++ only f ys
only_append f [] ys = refl
only_append f (x ∷ xs) ys = ap (keep_if (f x) x) (only_append f xs ys) ∙ keep_append (f x) x (only f xs) (only f ys)

pub only_length : {A : Type 0} (f : A → Bool) (xs : List A) → length (only f xs) ≤ length xs
only_length f [] = omega arith
only_length f (x ∷ xs) = go (f x) (only_length f xs)
  where
    go : (b : Bool) → length (only f xs) ≤ length xs → length (keep_if b x (only f xs)) ≤ suc (length xs)
    go true h = omega (arith, h)
    go false h = omega (arith, h)

pub only_none : {A : Type 0} (f : A → Bool) (xs : List A) → Every (λ x. f x ≡ false) xs → only f xs ≡ []
only_none f [] h = refl
only_none f (x ∷ xs) h = rw h.0 (only_none f xs h.1)

pub or-false : (a b : Bool) → (a || b) ≡ false → (a ≡ false) × (b ≡ false)
or-false true b h = absurd (true≢false h)
or-false false b h = (refl, h)

pub in_left : {A : Type 0} (a : A) (xs ys : List A) → In a xs → In a (xs ++ ys)
in_left a [] ys i = absurd i
in_left a (x ∷ xs) ys (inl e) = inl e
in_left a (x ∷ xs) ys (inr i) = inr (in_left a xs ys i)

pub in_right : {A : Type 0} (a : A) (xs ys : List A) → In a ys → In a (xs ++ ys)
in_right a [] ys i = i
in_right a (x ∷ xs) ys i = inr (in_right a xs ys i)

pub in_map : {A B : Type 0} (f : A → B) (a : A) (xs : List A) → In a xs → In (f a) (map f xs)
in_map f a [] i = absurd i
in_map f a (x ∷ xs) (inl e) = inl (ap f e)
in_map f a (x ∷ xs) (inr i) = inr (in_map f a xs i)

-- an element of the images is the image of one
pub record ImageOf {A B : Type 0} (f : A → B) (b : B) : Type 0 where
  pub from : A
  pub is : b ≡ f from

pub map_in : {A B : Type 0} (f : A → B) (b : B) (xs : List A) → In b (map f xs) → ImageOf f b
map_in f b [] i = absurd i
map_in f b (x ∷ xs) (inl e) = record { from = x; is = e }
map_in f b (x ∷ xs) (inr i) = map_in f b xs i

-- functions that are alike on a list give it the same images
pub map_alike : {A B : Type 0} (f h : A → B) (xs : List A) → Every (λ x. f x ≡ h x) xs → map f xs ≡ map h xs
map_alike f h [] e = refl
map_alike f h (x ∷ xs) e = rw (e.0, map_alike f h xs e.1)

pub get_d_map : {A : Type 0} (f : A → ℕ) (l : List A) (i : ℕ) (a : A) → i < length l → get_or (map f l) i 0 ≡ f (get_or l i a)
get_d_map f [] i a h = absurd (omega arith)
get_d_map f (x ∷ xs) zero a h = refl
get_d_map f (x ∷ xs) (suc i) a h = get_d_map f xs i a (omega arith)

pub in_cases : {A C : Type 0} (a : A) (xs ys : List A) → (In a xs → C) → (In a ys → C) → In a (xs ++ ys) → C
in_cases a [] ys f g i = g i
in_cases a (x ∷ xs) ys f g (inl e) = f (inl e)
in_cases a (x ∷ xs) ys f g (inr i) = in_cases a xs ys (λ j. f (inr j)) g i

pub every_in : {A : Type 0} (P : A → Type 0) (a : A) (xs : List A) → Every P xs → In a xs → P a
every_in P a [] h i = absurd i
every_in P a (x ∷ xs) h (inl e) = rw e h.0
every_in P a (x ∷ xs) h (inr i) = every_in P a xs h.1 i

pub sorted_append : {A : Type 0} (R : A → A → Type 0) (xs ys : List A) → Sorted R xs → Sorted R ys
    → Every (λ x. Every (R x) ys) xs → Sorted R (xs ++ ys)
sorted_append R [] ys h i k = i
sorted_append R (x ∷ xs) ys h i k = (every_append (R x) xs ys h.0 k.0, sorted_append R xs ys h.1 i k.1)

pub sorted_right : {A : Type 0} (R : A → A → Type 0) (xs ys : List A) → Sorted R (xs ++ ys) → Sorted R ys
sorted_right R [] ys h = h
sorted_right R (x ∷ xs) ys h = sorted_right R xs ys h.1

pub sorted_across : {A : Type 0} (R : A → A → Type 0) (xs ys : List A) → Sorted R (xs ++ ys) → (a b : A) → In a xs
    → In b ys → R a b
sorted_across R [] ys h a b i j = absurd i
sorted_across R (x ∷ xs) ys h a b (inl e) j = rw e (every_in (R x) b (xs ++ ys) h.0 (in_right b xs ys j))
sorted_across R (x ∷ xs) ys h a b (inr i) j = sorted_across R xs ys h.1 a b i j

pub every_at : (P : ℕ → Type 0) (xs : List ℕ) → Every P xs → (j : ℕ) → j < length xs → P (get_or xs j 0)
every_at P [] h j l = absurd (omega arith)
every_at P (x ∷ xs) h zero l = h.0
every_at P (x ∷ xs) h (suc j) l = every_at P xs h.1 j (omega arith)

pub every_placed : (P : ℕ → Type 0) (xs : List ℕ) → ((j : ℕ) → j < length xs → P (get_or xs j 0)) → Every P xs
every_placed P [] h = tt
every_placed P (x ∷ xs) h = (h 0 (omega arith), every_placed P xs (λ j i. h (suc j) (omega arith)))

pub sorted_at : (R : ℕ → ℕ → Type 0) (xs : List ℕ) → Sorted R xs → (i j : ℕ) → i < j → j < length xs
    → R (get_or xs i 0) (get_or xs j 0)
sorted_at R [] h i j k l = absurd (omega arith)
sorted_at R (x ∷ xs) h i zero k l = absurd (omega arith)
sorted_at R (x ∷ xs) h zero (suc j) k l = every_at (R x) xs h.0 j (omega arith)
sorted_at R (x ∷ xs) h (suc i) (suc j) k l = sorted_at R xs h.1 i j (omega arith) (omega arith)

pub every_only : {A : Type 0} (P : A → Type 0) (f : A → Bool) (xs : List A) → Every P xs → Every P (only f xs)
every_only P f [] h = tt
every_only P f (x ∷ xs) h = go (f x) (every_only P f xs h.1)
  where
    go : (b : Bool) → Every P (only f xs) → Every P (keep_if b x (only f xs))
    go true i = (h.0, i)
    go false i = i

pub sorted_only : {A : Type 0} (R : A → A → Type 0) (f : A → Bool) (xs : List A) → Sorted R xs → Sorted R (only f xs)
sorted_only R f [] h = tt
sorted_only R f (x ∷ xs) h = go (f x) (sorted_only R f xs h.1)
  where
    go : (b : Bool) → Sorted R (only f xs) → Sorted R (keep_if b x (only f xs))
    go true i = (every_only (R x) f xs h.0, i)
    go false i = i

-- each pair of members may be looked at
pub sorted_with : {A : Type 0} (R Q : A → A → Type 0) (P : A → Type 0) → ((x y : A) → P x → P y → R x y → Q x y)
    → (xs : List A) → Every P xs → Sorted R xs → Sorted Q xs
sorted_with R Q P f [] p h = tt
sorted_with R Q P f (x ∷ xs) p h = (both xs p.1 h.0, sorted_with R Q P f xs p.1 h.1)
  where
    both : (ys : List _) → Every P ys → Every (R x) ys → Every (Q x) ys
    both [] p' h' = tt
    both (y ∷ ys) p' h' = (f x y p.0 p'.0 h'.0, both ys p'.1 h'.1)

pub every_over : {A B : Type 0} (f : A → B) (P : B → Type 0) (xs : List A) → Every (λ x. P (f x)) xs
    → Every P (map f xs)
every_over f P [] h = tt
every_over f P (x ∷ xs) h = (h.0, every_over f P xs h.1)

pub sorted_over : {A B : Type 0} (f : A → B) (R : B → B → Type 0) (xs : List A) → Sorted (λ x y. R (f x) (f y)) xs
    → Sorted R (map f xs)
sorted_over f R [] h = tt
sorted_over f R (x ∷ xs) h = (every_over f (R (f x)) xs h.0, sorted_over f R xs h.1)

pub every_is : {A : Type 0} (P : A → Type 0) (xs : List A) → ((x : A) → In x xs → P x) → Every P xs
every_is P [] h = tt
every_is P (x ∷ xs) h = (h x (inl refl), every_is P xs (λ y i. h y (inr i)))

-- two lists with the same members, both sorted by an order that never goes both ways, are the same
pub same_sorted : {A : Type 0} (R : A → A → Type 0) → ((x y : A) → R x y → R y x → ⊥) → (xs ys : List A) → Sorted R xs
    → Sorted R ys
    → ((a : A) → In a xs → In a ys) → ((a : A) → In a ys → In a xs) → xs ≡ ys
same_sorted R asym [] [] h i f g = refl
same_sorted R asym [] (y ∷ ys) h i f g = absurd (g y (inl refl))
same_sorted R asym (x ∷ xs) [] h i f g = absurd (f x (inl refl))
same_sorted R asym (x ∷ xs) (y ∷ ys) h i f g =
    ap₂ ◌∷◌ heads (same_sorted R asym xs ys h.1 i.1 (λ a m. tail_f a m (f a (inr m)))
    (λ a m. tail_g a m (g a (inr m))))
  where
    heads_of : In x (y ∷ ys) → In y (x ∷ xs) → x ≡ y
    heads_of (inl e) n = e
    heads_of (inr m) (inl e) = sym e
    heads_of (inr m) (inr n) = absurd (asym x y (every_in (R x) y xs h.0 n) (every_in (R y) x ys i.0 m))

    heads : x ≡ y
    heads = heads_of (f x (inl refl)) (g y (inl refl))

    tail_f : (a : _) → In a xs → In a (y ∷ ys) → In a ys
    tail_f a m (inl e) = let r : R x a = every_in (R x) a xs h.0 m in
        let r' : R a a = subst (λ z. R z a) (heads ∙ sym e) r in absurd (asym a a r' r')
    tail_f a m (inr n) = n

    tail_g : (a : _) → In a ys → In a (x ∷ xs) → In a xs
    tail_g a m (inl e) = let r : R y a = every_in (R y) a ys i.0 m in
        let r' : R a a = subst (λ z. R z a) (sym heads ∙ sym e) r in absurd (asym a a r' r')
    tail_g a m (inr n) = n

-- what it is to be in `only f xs`
pub in_only : {A : Type 0} (f : A → Bool) (a : A) (xs : List A) → In a (only f xs) → In a xs × (f a ≡ true)
in_only f a [] i = absurd i
in_only f a (x ∷ xs) i = go (f x) refl (in_only f a xs) i
  where
    go : (b : Bool) → f x ≡ b → (In a (only f xs) → In a xs × (f a ≡ true)) → In a (keep_if b x (only f xs))
        → In a (x ∷ xs) × (f a ≡ true)
    go true e ih (inl q) = (inl q, ap f q ∙ e)
    go true e ih (inr j) = (inr (ih j).0, (ih j).1)
    go false e ih j = (inr (ih j).0, (ih j).1)

pub only_in : {A : Type 0} (f : A → Bool) (a : A) (xs : List A) → In a xs → f a ≡ true → In a (only f xs)
only_in f a [] i t = absurd i
only_in f a (x ∷ xs) (inl q) t = rw (sym (ap f q) ∙ t) (inl q)
only_in f a (x ∷ xs) (inr j) t = go (f x) (only_in f a xs j t)
  where
    go : (b : Bool) → In a (only f xs) → In a (keep_if b x (only f xs))
    go true j = inr j
    go false j = j

-- both parts of a conjunction hold
pub and_both : (a b : Bool) → (a && b) ≡ true → (a ≡ true) × (b ≡ true)
and_both true b h = (refl, h)
and_both false b h = absurd (true≢false (sym h))

-- a test of every_cell number below n
pub all_below_lem : (f : ℕ → Bool) (n : ℕ) → all_below f n ≡ true → (x : ℕ) → x < n → f x ≡ true
all_below_lem f zero h x i = absurd (omega arith)
all_below_lem f (suc n) h x i = go (eqb x n) refl (and_both (f n) (all_below f n) h) (all_below_lem f n)
  where
    go : (b : Bool) → eqb x n ≡ b → (f n ≡ true) × (all_below f n ≡ true)
        → (all_below f n ≡ true → (x : ℕ) → x < n → f x ≡ true) → f x ≡ true
    go true e p ih = ap f (eqb-true x n e) ∙ p.0
    go false e p ih = ih p.1 x (below (eqb-false x n e))
      where
        below : (x ≡ n → ⊥) → x < n
        below k = omega arith

pub below_all : (f : ℕ → Bool) (n : ℕ) → ((x : ℕ) → x < n → f x ≡ true) → all_below f n ≡ true
below_all f zero h = refl
below_all f (suc n) h = rw (h n (omega arith)) (below_all f n (λ x i. h x (omega arith)))

-- a test of every_cell number below n that fails, fails at one
pub not_below : (f : ℕ → Bool) (n : ℕ) → all_below f n ≡ false → (x : ℕ) × (f x ≡ false)
not_below f zero h = absurd (true≢false h)
not_below f (suc n) h = go (f n) refl (not_below f n)
  where
    go : (b : Bool) → f n ≡ b → (all_below f n ≡ false → (x : ℕ) × (f x ≡ false)) → (x : ℕ) × (f x ≡ false)
    go true e ih = ih (rw e at h)
    go false e ih = (n, e)

-- a test of every number below n fails where one fails,
pub all_fails : (f : ℕ → Bool) (n x : ℕ) → x < n → f x ≡ false → all_below f n ≡ false
all_fails f n x h e = go (all_below f n) refl
  where
    go : (b : Bool) → all_below f n ≡ b → b ≡ false
    go true a = absurd (true≢false (sym (all_below_lem f n a x h) ∙ e))
    go false a = refl

-- and passes one further
pub all_more : (f : ℕ → Bool) (n : ℕ) → all_below f n ≡ true → f n ≡ true → all_below f (n + 1) ≡ true
all_more f n h e = rw (add-one n, e, h)
