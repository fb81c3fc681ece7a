-- A network: cells that flow to one another, apart from rows and columns. Its laws, and what the forest above an outlet
-- lists: the cells whose walk meets that outlet first, each with its walk's length.
-- Assumes nothing.
use mathlib.Core.Path.{◌≡◌, refl, sym, ap, ap₂, ◌∙◌, subst}
use mathlib.Core.Bool.{Bool, true, false, true≢false}
use mathlib.Core.Logic.{◌⊎◌, inl, inr}
use mathlib.Core.List.{List, [], ◌∷◌, ◌++◌}
use mathlib.Core.Option.{Option, none, some}
use Prim.Native.Nat.{ℕ, zero, suc, ◌+◌, ◌≤◌, ◌<◌}
use native.Mathlib.Omega.{arith}
use Rattle.lengths.specs.Lengths.{Lengths}
use Rattle.lists.specs.Lists.{In, Every}
use Rattle.ground.specs.Grid.{Link}
use Rattle.ground.specs.Walk.{At}
use Rattle.ground.specs.Accumulation.{total, gathered}
use Rattle.ground.specs.Subwatershed.{longer, first_outlet}
use Rattle.ground.specs.Forest.{Forest, bare, tree, size, grow, upstream, every_cell, cells_above, cells_from}
use Rattle.lists.proofs.Lists.{every_append, in_left, in_right, in_cases}
use Rattle.ground.proofs.Sums.{one}

-- how often a cell stands in a list of links, and in a forest
abbrev pub times : {S : Type 0} → ℕ → List (Link S) → ℕ
times c [] = 0
times c (k ∷ ks) = one k.cell c + times c ks

abbrev pub count : {S : Type 0} → ℕ → Forest S → ℕ
count c bare = 0
count c (tree y s above rest) = one y c + (count c above + count c rest)

-- the laws of a network: ups are what flows in, each once, and ground is within bounds
pub record Network {S : Type 0} (next : ℕ → Option (Link S)) (ups : ℕ → List (Link S)) (ground : ℕ → Bool)
    (cell_count : ℕ) : Type 0 where
  pub sound : (x : ℕ) → Every (λ k. next k.cell ≡ some (record { cell = x; step = k.step })) (ups x)
  pub complete : (y : ℕ) (h : Link S) → next y ≡ some h → In (record { cell = y; step = h.step }) (ups h.cell)
  pub distinct : (x c : ℕ) → times c (ups x) ≤ 1
  pub solid : (y : ℕ) (h : Link S) → next y ≡ some h → ground y ≡ true
  pub lands : (y : ℕ) (h : Link S) → next y ≡ some h → ground h.cell ≡ true
  pub bounded : (x : ℕ) → ground x ≡ true → x < cell_count

-- tallies are sizes
module _ {S : Type 0} (ups : ℕ → List (Link S)) (outlet : ℕ → Bool) where
  total_size : (f : ℕ → ℕ) (g : ℕ → Forest S) → ((y : ℕ) → f y ≡ suc (size (g y))) → (ks : List (Link S))
      → total ups outlet f ks ≡ size (grow ups outlet g ks)
  total_size f g h [] = refl
  total_size f g h (k ∷ ks) = go (outlet k.cell) refl (total_size f g h ks)
    where
      go : (b : Bool) → outlet k.cell ≡ b → total ups outlet f ks ≡ size (grow ups outlet g ks)
          → total ups outlet f (k ∷ ks) ≡ size (grow ups outlet g (k ∷ ks))
      go true e ih = rw (e, total, grow) ih
      go false e ih = rw (e, total, grow) (omega (arith, h k.cell))

  pub total_same : (f g : ℕ → ℕ) (ks : List (Link S)) → Every (λ k. f k.cell ≡ g k.cell) ks
      → total ups outlet f ks ≡ total ups outlet g ks
  total_same f g [] h = refl
  total_same f g (k ∷ ks) h = go (outlet k.cell) refl (total_same f g ks h.1)
    where
      go : (b : Bool) → outlet k.cell ≡ b → total ups outlet f ks ≡ total ups outlet g ks
          → total ups outlet f (k ∷ ks) ≡ total ups outlet g (k ∷ ks)
      go true e ih = rw (e, total) ih
      go false e ih = rw (e, total) (ap₂ ◌+◌ h.0 ih)

  pub gathered_size : (n x : ℕ) → gathered ups outlet n x ≡ suc (size (upstream ups outlet n x))
  gathered_size zero x = refl
  gathered_size (suc n) x = ap suc (total_size (gathered ups outlet n) (upstream ups outlet n) (gathered_size n)
      (ups x))

-- first_outlet
module _ {S : Type 0} (𝓛 : Lengths S) (next : ℕ → Option (Link S)) (outlet : ℕ → Bool) where
  open 𝓛 use {Len, start, ◌▹◌}

  pub first_out : (n c : ℕ) → outlet c ≡ true → first_outlet 𝓛 next outlet n c ≡ some (record { cell = c; len = start })
  first_out zero c e = rw (e, first_outlet)
  first_out (suc n) c e = rw (e, first_outlet)

  pub first_next : (n c : ℕ) (h : Link S) → outlet c ≡ false → next c ≡ some h → first_outlet 𝓛 next outlet (suc n) c
      ≡ longer 𝓛 h.step (first_outlet 𝓛 next outlet n h.cell)
  first_next n c h e f = rw (e, f, first_outlet)

  pub first_end : (n c : ℕ) → outlet c ≡ false → next c ≡ none → first_outlet 𝓛 next outlet n c ≡ none
  first_end zero c e f = rw (e, first_outlet)
  first_end (suc n) c e f = rw (e, f, first_outlet)

  pub first_more : (n m c : ℕ) (a : At Len) → n ≤ m → first_outlet 𝓛 next outlet n c ≡ some a
      → first_outlet 𝓛 next outlet m c ≡ some a
  first_more zero m c a h e = go (outlet c) refl
    where
      go : (b : Bool) → outlet c ≡ b → first_outlet 𝓛 next outlet m c ≡ some a
      go true f = first_out m c f ∙ sym (first_out zero c f) ∙ e
      go false f = let z : first_outlet 𝓛 next outlet zero c ≡ none = rw (f, first_outlet) in cc
  first_more (suc n) zero c a h e = absurd (omega arith)
  first_more (suc n) (suc m) c a h e = go (outlet c) refl (next c) refl (λ c' a'. first_more n m c' a' (omega arith))
    where
      go : (b : Bool) → outlet c ≡ b → (o : Option (Link S)) → next c ≡ o
          → ((c' : ℕ) (a' : At Len) → first_outlet 𝓛 next outlet n c' ≡ some a'
          → first_outlet 𝓛 next outlet m c' ≡ some a') → first_outlet 𝓛 next outlet (suc m) c ≡ some a
      go true f o g ih = first_out (suc m) c f ∙ sym (first_out (suc n) c f) ∙ e
      go false f none g ih = cc (first_end (suc n) c f g)
      go false f (some h) g ih = step (first_outlet 𝓛 next outlet n h.cell) refl
        where
          step : (r : Option (At Len)) → first_outlet 𝓛 next outlet n h.cell ≡ r
              → first_outlet 𝓛 next outlet (suc m) c ≡ some a
          step none k = let z : first_outlet 𝓛 next outlet (suc n) c ≡ none = first_next n c h f g
              ∙ ap (longer 𝓛 h.step) k in cc
          step (some a') k = first_next m c h f g ∙ ap (longer 𝓛 h.step) (ih h.cell a' k ∙ sym k)
              ∙ sym (first_next n c h f g) ∙ e

  -- THE INDUCTION on a walk that reaches: it is at an outlet, or one step on it reaches
  pub first_induct : (P : ℕ → ℕ → At Len → Type 0)
      → ((n c : ℕ) → outlet c ≡ true → P n c (record { cell = c; len = start }))
      → ((n c : ℕ) (h : Link S) (a : At Len) → outlet c ≡ false → next c ≡ some h
      → first_outlet 𝓛 next outlet n h.cell ≡ some a → P n h.cell a
      → P (suc n) c (record { cell = a.cell; len = a.len ▹ h.step }))
      → (n c : ℕ) (a : At Len) → first_outlet 𝓛 next outlet n c ≡ some a → P n c a
  first_induct P here on n c a e = go n c a e
    where
      there : (n c : ℕ) (a : At Len) → first_outlet 𝓛 next outlet n c ≡ some a → outlet c ≡ true → P n c a
      there n c a e v =
          let p : some (record { cell = c; len = start }) ≡ some a = sym (first_out n c v) ∙ e in
          let q : record { cell = c; len = start } ≡ a = cc in
          subst (P n c) q (here n c v)

      go : (n c : ℕ) (a : At Len) → first_outlet 𝓛 next outlet n c ≡ some a → P n c a
      go zero c a e = by_out (outlet c) refl
        where
          by_out : (b : Bool) → outlet c ≡ b → P zero c a
          by_out true v = there zero c a e v
          by_out false v = let z : first_outlet 𝓛 next outlet zero c ≡ none = rw (v, first_outlet) in
              let w : ◌≡◌ {A = ℕ} 0 1 = cc in absurd (omega arith)
      go (suc n) c a e = by_out (outlet c) refl (next c) refl (go n)
        where
          by_out : (b : Bool) → outlet c ≡ b → (t : Option (Link S)) → next c ≡ t
              → ((c' : ℕ) (a' : At Len) → first_outlet 𝓛 next outlet n c' ≡ some a' → P n c' a') → P (suc n) c a
          by_out true v t f ih = there (suc n) c a e v
          by_out false v none f ih = let z = first_end (suc n) c v f in let w : ◌≡◌ {A = ℕ} 0 1 = cc in
              absurd (omega arith)
          by_out false v (some h) f ih = step (first_outlet 𝓛 next outlet n h.cell) refl
            where
              step : (r : Option (At Len)) → first_outlet 𝓛 next outlet n h.cell ≡ r → P (suc n) c a
              step none g = let z : first_outlet 𝓛 next outlet (suc n) c ≡ none = first_next n c h v f
                  ∙ ap (longer 𝓛 h.step) g in let w : ◌≡◌ {A = ℕ} 0 1 = cc in absurd (omega arith)
              step (some a') g =
                  let p : some (record { cell = a'.cell; len = a'.len ▹ h.step }) ≡ some a =
                  sym (ap (longer 𝓛 h.step) g) ∙ sym (first_next n c h v f) ∙ e in
                  let q : record { cell = a'.cell; len = a'.len ▹ h.step } ≡ a = cc in
                  subst (P (suc n) c) q (on n c h a' v f g (ih h.cell a' g))

  module _ (ups : ℕ → List (Link S)) (ground : ℕ → Bool) (cell_count : ℕ) (𝓝 : Network next ups ground cell_count) where
    -- what a forest lists reaches the outlet, at the length listed
    listed_first : (n x : ℕ) (d : Len) (o k m : ℕ)
        → first_outlet 𝓛 next outlet k x ≡ some (record { cell = o; len = d }) → n + k ≤ m
        → Every (λ a. first_outlet 𝓛 next outlet m a.cell ≡ some (record { cell = o; len = a.len }))
        (cells_above 𝓛 every_cell d (upstream ups outlet n x))
    listed_first zero x d o k m e h = tt
    listed_first (suc n) x d o k m e h =
        go (ups x) (𝓝.sound x) (λ y d' e'. listed_first n y d' o (suc k) m e' (omega arith))
      where
        P : At Len → Type 0
        P a = first_outlet 𝓛 next outlet m a.cell ≡ some (record { cell = o; len = a.len })

        go : (ks : List (Link S)) → Every (λ k. next k.cell ≡ some (record { cell = x; step = k.step })) ks
            → ((y : ℕ) (d' : Len) → first_outlet 𝓛 next outlet (suc k) y ≡ some (record { cell = o; len = d' })
            → Every P (cells_above 𝓛 every_cell d' (upstream ups outlet n y)))
            → Every P (cells_above 𝓛 every_cell d (grow ups outlet (upstream ups outlet n) ks))
        go [] s ih = tt
        go (j ∷ ks) s ih = step (outlet j.cell) refl (go ks s.1 ih)
          where
            step : (b : Bool) → outlet j.cell ≡ b
                → Every P (cells_above 𝓛 every_cell d (grow ups outlet (upstream ups outlet n) ks))
                → Every P (cells_above 𝓛 every_cell d (grow ups outlet (upstream ups outlet n) (j ∷ ks)))
            step true f rest = rw (f, grow) rest
            step false f rest = rw (f, grow) (
              first_more (suc k) m j.cell (record { cell = o; len = d ▹ j.step })
                  (omega arith) at,
              every_append P
                  (cells_above 𝓛 every_cell (d ▹ j.step) (upstream ups outlet n j.cell))
                  (cells_above 𝓛 every_cell d (grow ups outlet (upstream ups outlet n) ks))
                  (ih j.cell (d ▹ j.step) at) rest,
            )
              where
                at : first_outlet 𝓛 next outlet (suc k) j.cell ≡ some (record { cell = o; len = d ▹ j.step })
                at = first_next k j.cell (record { cell = x; step = j.step }) f s.0 ∙ ap (longer 𝓛 j.step) e

    -- a kid that is no outlet is listed
    inflow_listed : (f : ℕ → Forest S) (d : Len) (k : Link S) → outlet k.cell ≡ false → (ks : List (Link S))
        → In k ks
        → In (record { cell = k.cell; len = d ▹ k.step }) (cells_above 𝓛 every_cell d (grow ups outlet f ks))
    inflow_listed f d k u [] i = absurd i
    inflow_listed f d k u (j ∷ ks) i = step (outlet j.cell) refl (inflow_listed f d k u ks) i
      where
        a : At Len
        a = record { cell = k.cell; len = d ▹ k.step }

        step : (b : Bool) → outlet j.cell ≡ b → (In k ks → In a (cells_above 𝓛 every_cell d (grow ups outlet f ks)))
            → In k (j ∷ ks) → In a (cells_above 𝓛 every_cell d (grow ups outlet f (j ∷ ks)))
        step true v ih (inl e) = absurd (true≢false (sym v ∙ ap (λ (l : Link S). outlet l.cell) (sym e) ∙ u))
        step true v ih (inr m) = rw (v, grow) (ih m)
        step false v ih (inl e) = rw (v, grow)
            (inl (ap (λ (l : Link S). record { cell = l.cell; len = d ▹ l.step }) e))
        step false v ih (inr m) =
            rw (v, grow) (inr (in_right a (cells_above 𝓛 every_cell (d ▹ j.step) (f j.cell))
            (cells_above 𝓛 every_cell d (grow ups outlet f ks)) (ih m)))

    -- with one step more allowed, the ups of what was listed are listed
    one_more : (n z : ℕ) (d : Len) (a : At Len) (k : Link S) → outlet k.cell ≡ false → In k (ups a.cell)
        → In a (cells_above 𝓛 every_cell d (upstream ups outlet n z))
        → In (record { cell = k.cell; len = a.len ▹ k.step })
        (cells_above 𝓛 every_cell d (upstream ups outlet (suc n) z))
    one_more zero z d a k u i m = absurd m
    one_more (suc n) z d a k u i m = go (ups z) (λ y d'. one_more n y d' a k u i) m
      where
        b : At Len
        b = record { cell = k.cell; len = a.len ▹ k.step }

        go : (ks : List (Link S)) → ((y : ℕ) (d' : Len) → In a (cells_above 𝓛 every_cell d' (upstream ups outlet n y))
            → In b (cells_above 𝓛 every_cell d' (upstream ups outlet (suc n) y)))
            → In a (cells_above 𝓛 every_cell d (grow ups outlet (upstream ups outlet n) ks))
            → In b (cells_above 𝓛 every_cell d (grow ups outlet (upstream ups outlet (suc n)) ks))
        go [] ih m = absurd m
        go (j ∷ ks) ih m = step (outlet j.cell) refl (go ks ih) m
          where
            lo : List (At Len)
            lo = cells_above 𝓛 every_cell (d ▹ j.step) (upstream ups outlet n j.cell)

            hi : List (At Len)
            hi = cells_above 𝓛 every_cell (d ▹ j.step) (upstream ups outlet (suc n) j.cell)

            rest : (ℕ → Forest S) → List (At Len)
            rest f = cells_above 𝓛 every_cell d (grow ups outlet f ks)

            first : At Len
            first = record { cell = j.cell; len = d ▹ j.step }

            sub : (a ≡ first) ⊎ In a (lo ++ rest (upstream ups outlet n))
                → (In a (rest (upstream ups outlet n)) → In b (rest (upstream ups outlet (suc n))))
                → In b (hi ++ rest (upstream ups outlet (suc n)))
            sub (inl e) ih' = in_left b hi (rest (upstream ups outlet (suc n)))
                (subst (λ (x : At Len). In (record { cell = k.cell; len = x.len ▹ k.step }) hi) (sym e)
                (inflow_listed (upstream ups outlet n) (d ▹ j.step) k u (ups j.cell) (rw e at i)))
            sub (inr m) ih' = in_cases a lo (rest (upstream ups outlet n))
                (λ x. in_left b hi (rest (upstream ups outlet (suc n))) (ih j.cell (d ▹ j.step) x))
                (λ x. in_right b hi (rest (upstream ups outlet (suc n))) (ih' x)) m

            step : (t : Bool) → outlet j.cell ≡ t
                → (In a (rest (upstream ups outlet n)) → In b (rest (upstream ups outlet (suc n))))
                → In a (cells_above 𝓛 every_cell d (grow ups outlet (upstream ups outlet n) (j ∷ ks)))
                → In b (cells_above 𝓛 every_cell d (grow ups outlet (upstream ups outlet (suc n)) (j ∷ ks)))
            step true v ih' m = rw (v, grow) (ih' (rw (v, grow) at m))
            step false v ih' m = rw (v, grow) (inr (sub (rw (v, grow) at m) ih'))

    -- what reaches the outlet is listed
    next_listed : (n o : ℕ) (a : At Len) (k : Link S) → outlet k.cell ≡ false → In k (ups a.cell)
        → In a (cells_from 𝓛 every_cell o (upstream ups outlet n o))
        → In (record { cell = k.cell; len = a.len ▹ k.step })
        (cells_from 𝓛 every_cell o (upstream ups outlet (suc n) o))
    next_listed n o a k u i (inl e) =
        inr (subst (λ (x : At Len). In (record { cell = k.cell; len = x.len ▹ k.step })
        (cells_above 𝓛 every_cell start (upstream ups outlet (suc n) o))) (sym e)
        (inflow_listed (upstream ups outlet n) start k u (ups o) (rw e at i)))
    next_listed n o a k u i (inr m) = inr (one_more n o start a k u i m)

    pub first_listed : (n c : ℕ) (a : At Len) → first_outlet 𝓛 next outlet n c ≡ some a
        → In (record { cell = c; len = a.len }) (cells_from 𝓛 every_cell a.cell (upstream ups outlet n a.cell))
    first_listed = first_induct
        (λ n c a. In (record { cell = c; len = a.len })
        (cells_from 𝓛 every_cell a.cell (upstream ups outlet n a.cell)))
        (λ n c v. inl refl)
        (λ n c h a v f e ih. next_listed n a.cell (record { cell = h.cell; len = a.len })
        (record { cell = c; step = h.step }) v (𝓝.complete c h f) ih)

    -- and only that: with as many steps allowed to the walk as to the forest
    pub cells_first : (n o : ℕ) → outlet o ≡ true
        → Every (λ a. first_outlet 𝓛 next outlet n a.cell ≡ some (record { cell = o; len = a.len }))
        (cells_from 𝓛 every_cell o (upstream ups outlet n o))
    cells_first n o v = (first_out n o v, listed_first n o start o zero n (first_out zero o v) (omega arith))
