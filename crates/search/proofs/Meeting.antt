-- Meeting the lengths of a list one after the other gives the longest of the list.
-- Assumes nothing.
use mathlib.Core.Path.{◌≡◌, refl, sym, ap, ◌∙◌, fun_ext}
use mathlib.Core.Bool.{Bool, true, false, not, ◌||◌, true≢false, or_assoc, or-false as or_off}
use mathlib.Core.Logic.{inl, inr}
use mathlib.Core.List.{List, [], ◌∷◌, ◌++◌, append_assoc, append-nil}
use borrow.Author.Tests.{not-true}
use Rattle.lengths.specs.Lengths.{Lengths}
use Rattle.lengths.proofs.Laws.{LengthLaws, irrefl}
use Rattle.lists.specs.Lists.{In, Every, keep_if, only}
use Rattle.ground.specs.Walk.{At}
use Rattle.lists.proofs.Lists.{every_map, only_append, only_none, or-false, in_only, only_in}
use Rattle.search.specs.Search.{exceeded, longest, meet, meet_if}

-- x is at most y
abbrev pub AtMost : {S : Type 0} (𝓛 : Lengths S) → 𝓛.Len → 𝓛.Len → Type 0
AtMost 𝓛 x y = 𝓛.shorter y x ≡ false

module _ {S : Type 0} (𝓛 : Lengths S) where
  open 𝓛 use {Len, start, ◌▹◌, top, shorter}

  -- a length met, by cases
  module _ (g : At Len) (gs : List (At Len)) (x : At Len) where
    pub meet_shorter : shorter x.len g.len ≡ true → meet 𝓛 (g ∷ gs) x ≡ g ∷ gs
    meet_shorter e = rw (e, meet)

    pub meet_longer : shorter x.len g.len ≡ false → shorter g.len x.len ≡ true → meet 𝓛 (g ∷ gs) x ≡ x ∷ []
    meet_longer e f = rw (e, f, meet)

    pub meet_tie : shorter x.len g.len ≡ false → shorter g.len x.len ≡ false
        → meet 𝓛 (g ∷ gs) x ≡ (g ∷ gs) ++ (x ∷ [])
    meet_tie e f = rw (e, f, meet)

  -- these lengths met one after the other
  unfoldable pub meets : List (At Len) → List (At Len) → List (At Len)
  meets gs [] = gs
  meets gs (x ∷ xs) = meets (meet 𝓛 gs x) xs

  pub meets_append : (gs xs ys : List (At Len)) → meets gs (xs ++ ys) ≡ meets (meets gs xs) ys
  unfolding meets
  meets_append gs [] ys = refl
  meets_append gs (x ∷ xs) ys = meets_append (meet 𝓛 gs x) xs ys

  pub exceeded_append : (xs ys : List (At Len)) (l : Len)
      → exceeded 𝓛 (xs ++ ys) l ≡ (exceeded 𝓛 xs l || exceeded 𝓛 ys l)
  exceeded_append [] ys l = refl
  exceeded_append (x ∷ xs) ys l = ap (λ b. shorter l x.len || b) (exceeded_append xs ys l)
      ∙ sym (or_assoc (shorter l x.len) (exceeded 𝓛 xs l) (exceeded 𝓛 ys l))

  -- those that are not shorter than l
  unfoldable pub tops : Len → List (At Len) → List (At Len)
  tops l xs = only (λ x. not (shorter x.len l)) xs

  pub meets_keep : (b : Bool) (gs : List (At Len)) (x : At Len) (xs : List (At Len))
      → meets (meet_if 𝓛 b gs x) xs ≡ meets gs (keep_if b x xs)
  unfolding meets
  meets_keep true gs x xs = refl
  meets_keep false gs x xs = refl

module _ {S : Type 0} (𝓛 : Lengths S) (laws : LengthLaws 𝓛) where
  open 𝓛 use {Len, start, ◌▹◌, top, shorter}
  open laws use {asym, trans, grows, mono, at_top}

  pub lt_le : (x y z : Len) → shorter x y ≡ true → AtMost 𝓛 y z → shorter x z ≡ true
  lt_le x y z h i = go (shorter x z) refl
    where
      go : (b : Bool) → shorter x z ≡ b → shorter x z ≡ true
      go true e = e
      go false e = absurd (true≢false (sym h ∙ trans y z x i e))

  pub le_lt : (x y z : Len) → AtMost 𝓛 x y → shorter y z ≡ true → shorter x z ≡ true
  le_lt x y z i h = go (shorter x z) refl
    where
      go : (b : Bool) → shorter x z ≡ b → shorter x z ≡ true
      go true e = e
      go false e = absurd (true≢false (sym h ∙ trans z x y e i))

  -- g is the greatest length of xs, and g ∷ gs are those of xs that have it
  pub record Leads (xs : List (At Len)) (g : At Len) (gs : List (At Len)) : Type 0 where
    pub greatest : (l : Len) → exceeded 𝓛 xs l ≡ shorter l g.len
    pub all : g ∷ gs ≡ tops 𝓛 g.len xs

  -- what is not exceeded is at most g
  pub leads_bound : {xs : List (At Len)} {g : At Len} {gs : List (At Len)} → Leads xs g gs
      → Every (λ x. AtMost 𝓛 x.len g.len) xs
  leads_bound {xs} {g} i = go xs (i.greatest g.len ∙ irrefl 𝓛 laws g.len)
    where
      go : (ys : List (At Len)) → exceeded 𝓛 ys g.len ≡ false → Every (λ x. AtMost 𝓛 x.len g.len) ys
      go [] h = tt
      go (y ∷ ys) h = let p = or-false (shorter g.len y.len) (exceeded 𝓛 ys g.len) h in (p.0, go ys p.1)

  pub leads_longest : {xs : List (At Len)} {g : At Len} {gs : List (At Len)} → Leads xs g gs → longest 𝓛 xs ≡ g ∷ gs
  unfolding tops
  leads_longest {xs} {g} {gs} i = ap (λ f. only f xs) (fun_ext (λ x. ap not (i.greatest x.len))) ∙ sym i.all

  -- one more
  module _ (xs : List (At Len)) (g : At Len) (gs : List (At Len)) (i : Leads xs g gs) (x : At Len) where
    stays : AtMost 𝓛 x.len g.len → (l : Len) → exceeded 𝓛 (xs ++ (x ∷ [])) l ≡ shorter l g.len
    stays h l = exceeded_append 𝓛 xs (x ∷ []) l ∙ ap (λ b. b || (shorter l x.len || false)) (i.greatest l)
        ∙ go (shorter l g.len) refl
      where
        go : (b : Bool) → shorter l g.len ≡ b → (b || (shorter l x.len || false)) ≡ b
        go true e = refl
        go false e = or_off (shorter l x.len) ∙ trans x.len g.len l h e

    more : (b : Bool) → not (shorter x.len g.len) ≡ b → g ∷ gs ++ keep_if b x [] ≡ tops 𝓛 g.len (xs ++ (x ∷ []))
    unfolding tops
    more b e = rw (only_append (λ y. not (shorter y.len g.len)) xs (x ∷ []), e)
        (ap (λ l. l ++ keep_if b x []) i.all)

    lead_shorter : shorter x.len g.len ≡ true → Leads (xs ++ (x ∷ [])) g gs
    lead_shorter h = record {
      greatest = stays (asym x.len g.len h);
      all = sym (append-nil (g ∷ gs))
          ∙ more false (ap not h);
    }

    lead_tie : shorter x.len g.len ≡ false → shorter g.len x.len ≡ false
        → Leads (xs ++ (x ∷ [])) g (gs ++ (x ∷ []))
    lead_tie h e = record { greatest = stays e; all = more true (ap not h) }

    lead_longer : shorter g.len x.len ≡ true → Leads (xs ++ (x ∷ [])) x []
    unfolding tops
    lead_longer h = record {
      greatest = λ l. exceeded_append 𝓛 xs (x ∷ []) l ∙ ap (λ b. b || (shorter l x.len || false)) (i.greatest l)
          ∙ go l (shorter l g.len) refl;
      all = rw (
        only_append (λ y. not (shorter y.len x.len)) xs (x ∷ []),
        only_none (λ y. not (shorter y.len x.len)) xs gone,
        irrefl 𝓛 laws x.len,
      );
    }
      where
        go : (l : Len) (b : Bool) → shorter l g.len ≡ b → (b || (shorter l x.len || false)) ≡ shorter l x.len
        go l true e = sym (lt_le l g.len x.len e (asym g.len x.len h))
        go l false e = or_off (shorter l x.len)

        gone : Every (λ y. not (shorter y.len x.len) ≡ false) xs
        gone = every_map (λ y. AtMost 𝓛 y.len g.len) (λ y. not (shorter y.len x.len) ≡ false)
            (λ y k. ap not (le_lt y.len g.len x.len k h)) xs (leads_bound i)

  pub leads_meets : (xs : List (At Len)) (g : At Len) (gs : List (At Len)) → Leads xs g gs → (ys : List (At Len))
      → meets 𝓛 (g ∷ gs) ys ≡ longest 𝓛 (xs ++ ys)
  unfolding meets
  leads_meets xs g gs i [] = rw (append-nil xs) (sym (leads_longest i))
  leads_meets xs g gs i (y ∷ ys) = go (λ g' gs' k. leads_meets (xs ++ (y ∷ [])) g' gs' k ys
      ∙ ap (longest 𝓛) (append_assoc xs (y ∷ []) ys)) (shorter y.len g.len) refl (shorter g.len y.len) refl
    where
      go : ((g' : At Len) (gs' : List (At Len)) → Leads (xs ++ (y ∷ [])) g' gs'
          → meets 𝓛 (g' ∷ gs') ys ≡ longest 𝓛 (xs ++ (y ∷ ys)))
          → (b : Bool) → shorter y.len g.len ≡ b → (c : Bool) → shorter g.len y.len ≡ c
          → meets 𝓛 (meet 𝓛 (g ∷ gs) y) ys ≡ longest 𝓛 (xs ++ (y ∷ ys))
      go ih true e c f = rw (e, meet) (ih g gs (lead_shorter xs g gs i y e))
      go ih false e true f = rw (e, f, meet) (ih y [] (lead_longer xs g gs i y f))
      go ih false e false f = rw (e, f, meet) (ih g (gs ++ (y ∷ [])) (lead_tie xs g gs i y e f))

  -- lengths met one by one
  pub meets_longest : (xs : List (At Len)) → meets 𝓛 [] xs ≡ longest 𝓛 xs
  unfolding meets tops
  meets_longest [] = refl
  meets_longest (x ∷ xs) = leads_meets (x ∷ []) x [] first xs
    where
      first : Leads (x ∷ []) x []
      first = record { greatest = λ l. or_off (shorter l x.len); all = rw (irrefl 𝓛 laws x.len) refl }

  -- what is shorter than the greatest is met in vain
  pub meets_vain : (g : At Len) (gs xs : List (At Len)) → Every (λ x. shorter x.len g.len ≡ true) xs
      → meets 𝓛 (g ∷ gs) xs ≡ g ∷ gs
  unfolding meets
  meets_vain g gs [] h = refl
  meets_vain g gs (x ∷ xs) h = rw (h.0, meet) (meets_vain g gs xs h.1)

module _ {S : Type 0} (𝓛 : Lengths S) where
  open 𝓛 use {Len, shorter}

  exceeded_all : (xs : List (At Len)) (l : Len) → exceeded 𝓛 xs l ≡ false → (b : At Len) → In b xs
      → shorter l b.len ≡ false
  exceeded_all [] l h b i = absurd i
  exceeded_all (x ∷ xs) l h b (inl e) = ap (λ (y : At Len). shorter l y.len) e
      ∙ (or-false (shorter l x.len) (exceeded 𝓛 xs l) h).0
  exceeded_all (x ∷ xs) l h b (inr i) = exceeded_all xs l (or-false (shorter l x.len) (exceeded 𝓛 xs l) h).1 b i

  all_exceeded : (xs : List (At Len)) (l : Len) → ((b : At Len) → In b xs → shorter l b.len ≡ false)
      → exceeded 𝓛 xs l ≡ false
  all_exceeded [] l h = refl
  all_exceeded (x ∷ xs) l h = rw (h x (inl refl)) (all_exceeded xs l (λ b i. h b (inr i)))

  -- longest is what is listed and no listed cell exceeds
  pub longest_is : (xs : List (At Len)) (a : At Len) → In a (longest 𝓛 xs)
      → In a xs × ((b : At Len) → In b xs → shorter a.len b.len ≡ false)
  longest_is xs a i = let p = in_only (λ x. not (exceeded 𝓛 xs x.len)) a xs i in
      (p.0, exceeded_all xs a.len (not-true (exceeded 𝓛 xs a.len) p.1))

  pub is_longest : (xs : List (At Len)) (a : At Len) → In a xs
      → ((b : At Len) → In b xs → shorter a.len b.len ≡ false) → In a (longest 𝓛 xs)
  is_longest xs a i h = only_in (λ x. not (exceeded 𝓛 xs x.len)) a xs i (ap not (all_exceeded xs a.len h))
