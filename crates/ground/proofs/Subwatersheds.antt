-- The subwatershed and the length in 01's words are what `first_outlet` finds; the cells are counted; the subwatersheds
-- of two outlets share no cell. Assumes nothing.
use mathlib.Core.Path.{◌≡◌, refl, sym, ap, ap₂, ◌∙◌, subst, fun_ext}
use mathlib.Core.Bool.{Bool, true, false, cond, true≢false}
use mathlib.Core.Logic.{inl, inr}
use mathlib.Core.List.{List}
use mathlib.Core.Option.{Option, none, some}
use Prim.Native.Nat.{ℕ, zero, suc, ◌+◌, ◌≤◌, ◌<◌}
use native.Mathlib.Omega.{arith}
use native.Mathlib.Decide.{dec_lt}
use lib.Dec.{eqb}
use borrow.Author.Tests.{eqb-true, eqb-false, eq-eqb}
use Rattle.lengths.specs.Lengths.{Lengths}
use Rattle.lists.specs.Lists.{In, how_many}
use Rattle.ground.specs.Grid.{Link}
use Rattle.ground.specs.Walk.{At, after, strides}
use Rattle.ground.specs.Subwatershed.{MeetsFirst, Arrives, longer, first_outlet, belongs}
use Rattle.ground.specs.Forest.{Forest, bare, tree, size, upstream, every_cell, cells_above, cells_from}
use Rattle.lists.proofs.Lists.{in_left, in_right, in_cases, every_in}
use Rattle.ground.proofs.Sums.{one, one_same, one_other, sum_to, sum_add, sum_one, many_sum}
use Rattle.ground.proofs.Walks.{after_next, after_end, after_zero, strides_next, strides_end}
use Rattle.ground.proofs.Network.{count, Network, first_out, first_next, first_induct, first_listed, cells_first}
use Rattle.ground.proofs.Agreement.{Agrees, agrees_at_most, count_once, upstream_within, sum_count}
use Rattle.ground.proofs.Rings.{after_more}

module _ {S : Type 0} (𝓛 : Lengths S) (next : ℕ → Option (Link S)) (outlet : ℕ → Bool) where
  open 𝓛 use {Len, start, ◌▹◌}

  -- what `first_outlet` finds the walk meets first, at an outlet, in no more steps than are allowed
  record Found (n c : ℕ) (a : At Len) : Type 0 where
    steps : ℕ
    within : steps ≤ n
    is_out : outlet a.cell ≡ true
    meets : after next steps c ≡ some a.cell
    not_outlet : (j x : ℕ) → j < steps → after next j c ≡ some x → outlet x ≡ false

  -- no outlet before one step on is no outlet before
  before : (c : ℕ) (h : Link S) (m : ℕ) → outlet c ≡ false → next c ≡ some h
      → ((j x : ℕ) → j < m → after next j h.cell ≡ some x → outlet x ≡ false) → (j x : ℕ) → j < suc m
      → after next j c ≡ some x → outlet x ≡ false
  before c h m v f l zero x i t = let p : some c ≡ some x = sym (after_zero next c) ∙ t in let q : c ≡ x = cc in
      ap outlet (sym q) ∙ v
  before c h m v f l (suc j) x i t = l j x (omega arith) (sym (after_next next j c h f) ∙ t)

  found : (n c : ℕ) (a : At Len) → first_outlet 𝓛 next outlet n c ≡ some a → Found n c a
  found = first_induct 𝓛 next outlet Found
      (λ n c v. record {
        steps = 0;
        within = omega arith;
        is_out = v;
        meets = after_zero next c;
        not_outlet = λ j x h. absurd (omega arith);
      })
      (λ n c h a v f e k. record {
        steps = suc k.steps;
        within = omega (arith, k.within);
        is_out = k.is_out;
        meets = after_next next k.steps c h f ∙ k.meets;
        not_outlet = before c h k.steps v f k.not_outlet;
      })

  -- THE SUBWATERSHED: what `first_outlet` finds, the walk meets before any other outlet
  pub first_meets : (n c : ℕ) (a : At Len) → first_outlet 𝓛 next outlet n c ≡ some a → MeetsFirst next outlet a.cell c
  first_meets n c a e = let f = found n c a e in
      record {
        steps = f.steps;
        meets = f.meets;
        no_other = λ j x h t v. absurd
            (true≢false (sym v ∙ f.not_outlet j x h t));
      }

  -- and the other way, if so many steps are allowed
  meets_within : (k n o c : ℕ) → outlet o ≡ true → after next k c ≡ some o
      → ((j x : ℕ) → j < k → after next j c ≡ some x → outlet x ≡ true → x ≡ o) → k ≤ n
      → (l : Len) × (first_outlet 𝓛 next outlet n c ≡ some (record { cell = o; len = l }))
  meets_within zero n o c v e lone i = let p : some c ≡ some o = sym (after_zero next c) ∙ e in let q : c ≡ o = cc in
      (start, first_out 𝓛 next outlet n c (ap outlet q ∙ v) ∙ ap (λ (x : ℕ). some (record { cell = x; len = start })) q)
  meets_within (suc k) zero o c v e lone i = absurd (omega arith)
  meets_within (suc k) (suc n) o c v e lone i = go (outlet c) refl (next c) refl (λ c'. meets_within k n o c' v)
    where
      Goal : Type 0
      Goal = (l : Len) × (first_outlet 𝓛 next outlet (suc n) c ≡ some (record { cell = o; len = l }))

      go : (b : Bool) → outlet c ≡ b → (t : Option (Link S)) → next c ≡ t
          → ((c' : ℕ) → after next k c' ≡ some o → ((j x : ℕ) → j < k → after next j c' ≡ some x → outlet x ≡ true
          → x ≡ o) → k ≤ n → (l : Len) × (first_outlet 𝓛 next outlet n c' ≡ some (record { cell = o; len = l }))) → Goal
      go true u t f ih = (
        start,
        first_out 𝓛 next outlet (suc n) c u
            ∙ ap (λ (x : ℕ). some (record { cell = x; len = start })) (lone 0 c (omega arith) (after_zero next c) u),
      )
      go false u none f ih = let p : none ≡ some o = sym (after_end next k c f) ∙ e in let w : ◌≡◌ {A = ℕ} 0 1 = cc in
          absurd (omega arith)
      go false u (some h) f ih =
          let r = ih h.cell (sym (after_next next k c h f) ∙ e)
          (λ j x l t. lone (suc j) x (omega arith) (after_next next j c h f ∙ t)) (omega arith) in
          (r.0 ▹ h.step, first_next 𝓛 next outlet n c h u f ∙ ap (longer 𝓛 h.step) r.1)

  pub meets_first : (n o c : ℕ) → outlet o ≡ true → (m : MeetsFirst next outlet o c) → m.steps ≤ n
      → (l : Len) × (first_outlet 𝓛 next outlet n c ≡ some (record { cell = o; len = l }))
  meets_first n o c v m i = meets_within m.steps n o c v m.meets m.no_other i

  -- a cell is in the subwatershed of one outlet only
  pub meets_one : (o o' c : ℕ) → outlet o ≡ true → outlet o' ≡ true → MeetsFirst next outlet o c
      → MeetsFirst next outlet o' c → o ≡ o'
  meets_one o o' c v v' m m' =
      let r = meets_first (m.steps + m'.steps) o c v m (omega arith) in
      let r' = meets_first (m.steps + m'.steps) o' c v' m' (omega arith) in
      let p : ◌≡◌ {A = Option (At Len)} (some (record { cell = o; len = r.0 }))
      (some (record { cell = o'; len = r'.0 })) = sym r.1 ∙ r'.1 in
      let q : ◌≡◌ {A = At Len} (record { cell = o; len = r.0 }) (record { cell = o'; len = r'.0 }) = cc in
      ap (λ (x : At Len). x.cell) q

  -- THE LENGTH: the state's cells are the walk's
  pub strides_after : (k : ℕ) (w x : At Len) → strides 𝓛 next k w ≡ some x → after next k w.cell ≡ some x.cell
  unfolding strides
  strides_after zero w x e = let q : w ≡ x = cc in after_zero next w.cell ∙ ap (λ (y : At Len). some y.cell) q
  strides_after (suc k) w x e = go (next w.cell) refl (λ w'. strides_after k w' x)
    where
      go : (t : Option (Link S)) → next w.cell ≡ t
          → ((w' : At Len) → strides 𝓛 next k w' ≡ some x → after next k w'.cell ≡ some x.cell)
          → after next (suc k) w.cell ≡ some x.cell
      go none f ih = let p : none ≡ some x = sym (strides_end 𝓛 next k w f) ∙ e in cc
      go (some h) f ih = after_next next k w.cell h f ∙ ih (record { cell = h.cell; len = w.len ▹ h.step })
          (sym (strides_next 𝓛 next k w h f) ∙ e)

  -- where the order of steps makes no length
  module _ (turn : (l : Len) (s t : S) → l ▹ s ▹ t ≡ l ▹ t ▹ s) where
    -- a walk begun one step longer ends one step longer
    strides_more : (k : ℕ) (w x : At Len) (s : S) → strides 𝓛 next k w ≡ some x
        → strides 𝓛 next k (record { cell = w.cell; len = w.len ▹ s })
        ≡ some (record { cell = x.cell; len = x.len ▹ s })
    unfolding strides
    strides_more zero w x s e = let q : w ≡ x = cc in
        ap (λ (y : At Len). some (record { cell = y.cell; len = y.len ▹ s })) q
    strides_more (suc k) w x s e = go (next w.cell) refl (λ w'. strides_more k w' x s)
      where
        w+ : At Len
        w+ = record { cell = w.cell; len = w.len ▹ s }

        go : (t : Option (Link S)) → next w.cell ≡ t
            → ((w' : At Len) → strides 𝓛 next k w' ≡ some x
            → strides 𝓛 next k (record { cell = w'.cell; len = w'.len ▹ s })
            ≡ some (record { cell = x.cell; len = x.len ▹ s }))
            → strides 𝓛 next (suc k) w+ ≡ some (record { cell = x.cell; len = x.len ▹ s })
        go none f ih = let p : none ≡ some x = sym (strides_end 𝓛 next k w f) ∙ e in cc
        go (some h) f ih = strides_next 𝓛 next k w+ h f
            ∙ ap (λ (l : Len). strides 𝓛 next k (record { cell = h.cell; len = l })) (turn w.len s h.step)
            ∙ ih (record { cell = h.cell; len = w.len ▹ h.step }) (sym (strides_next 𝓛 next k w h f) ∙ e)

    -- the length that `first_outlet` gives is what the state holds on arrival
    pub first_arrives : (n c : ℕ) (a : At Len) → first_outlet 𝓛 next outlet n c ≡ some a
        → Arrives 𝓛 next outlet a.cell (record { cell = c; len = a.len })
    unfolding strides
    first_arrives = first_induct 𝓛 next outlet
        (λ n c a. Arrives 𝓛 next outlet a.cell (record { cell = c; len = a.len }))
        (λ n c v. record { steps = 0; holds = refl; not_outlet = λ j x h. absurd (omega arith) })
        (λ n c h a v f e k. record {
          steps = suc k.steps;
          holds = strides_next 𝓛 next k.steps (record { cell = c; len = start }) h f
              ∙ strides_more k.steps (record { cell = h.cell; len = start })
              (record { cell = a.cell; len = a.len }) h.step k.holds;
          not_outlet = before c h k.steps v f k.not_outlet;
        })

    -- and it is the only length with which the walk arrives
    arrives_steps : (o : ℕ) (b b' : At Len) → b.cell ≡ b'.cell → outlet o ≡ true
        → (p : Arrives 𝓛 next outlet o b) (q : Arrives 𝓛 next outlet o b') → p.steps ≤ q.steps
    arrives_steps o b b' e v p q =
        elim (dec_lt q.steps p.steps) [
          | yes l ↦ absurd
              (true≢false (sym v ∙ p.not_outlet q.steps o l
              (subst (λ (c : ℕ). after next q.steps c ≡ some o) (sym e)
              (strides_after q.steps (record { cell = b'.cell; len = start }) (record { cell = o; len = b'.len })
              q.holds))))
          | no l ↦ omega arith
        ]

    pub arrives_len : (o : ℕ) (b b' : At Len) → b.cell ≡ b'.cell → outlet o ≡ true → Arrives 𝓛 next outlet o b
        → Arrives 𝓛 next outlet o b' → b.len ≡ b'.len
    arrives_len o b b' e v p q =
        let s : p.steps ≡ q.steps = omega (arith, arrives_steps o b b' e v p q, arrives_steps o b' b (sym e) v q p) in
        let r : ◌≡◌ {A = Option (At Len)} (some (record { cell = o; len = b.len }))
        (some (record { cell = o; len = b'.len })) = sym p.holds
        ∙ ap₂ (λ (k : ℕ) (c : ℕ). strides 𝓛 next k (record { cell = c; len = start })) s e ∙ q.holds in
        let t : ◌≡◌ {A = At Len} (record { cell = o; len = b.len }) (record { cell = o; len = b'.len }) = cc in
        ap (λ (x : At Len). x.len) t

    pub arrives_first : (n o : ℕ) (b : At Len) → outlet o ≡ true → (p : Arrives 𝓛 next outlet o b) → p.steps ≤ n
        → first_outlet 𝓛 next outlet n b.cell ≡ some (record { cell = o; len = b.len })
    arrives_first n o b v p i =
        let r = meets_within p.steps n o b.cell v
        (strides_after p.steps (record { cell = b.cell; len = start }) (record { cell = o; len = b.len })
        p.holds) (λ j x h t u. absurd (true≢false (sym u ∙ p.not_outlet j x h t))) i in
        r.1 ∙ ap (λ (l : Len). some (record { cell = o; len = l }))
        (arrives_len o (record { cell = b.cell; len = r.0 }) b refl v
        (first_arrives n b.cell (record { cell = o; len = r.0 }) r.1) p)

  -- THE COUNT
  pub belongs_true : (n o c : ℕ) (l : Len) → first_outlet 𝓛 next outlet n c ≡ some (record { cell = o; len = l })
      → belongs 𝓛 next outlet n o c ≡ true
  unfolding belongs
  belongs_true n o c l e = rw (e, belongs) (eq-eqb o o refl)

  pub true_belongs : (n o c : ℕ) → belongs 𝓛 next outlet n o c ≡ true
      → (l : Len) × (first_outlet 𝓛 next outlet n c ≡ some (record { cell = o; len = l }))
  unfolding belongs
  true_belongs n o c h = go (first_outlet 𝓛 next outlet n c) refl
    where
      go : (r : Option (At Len)) → first_outlet 𝓛 next outlet n c ≡ r
          → (l : Len) × (first_outlet 𝓛 next outlet n c ≡ some (record { cell = o; len = l }))
      go none e = absurd (true≢false (sym h ∙ rw (e, belongs)))
      go (some a) e = (
        a.len,
        e ∙ ap (λ (x : ℕ). some (record { cell = x; len = a.len }))
            (eqb-true a.cell o (sym (rw (e, belongs)) ∙ h)),
      )

  -- what is listed is counted, and what is counted is listed
  listed_count : (d : Len) (f : Forest S) (b : At Len) → In b (cells_above 𝓛 every_cell d f) → 0 < count b.cell f
  listed_count d bare b i = absurd i
  listed_count d (tree c s above rest) b (inl e) =
      omega (arith, one_same c b.cell (ap (λ (x : At Len). x.cell) (sym e)))
  listed_count d (tree c s above rest) b (inr i) = in_cases b (cells_above 𝓛 every_cell (d ▹ s) above)
      (cells_above 𝓛 every_cell d rest) (λ j. omega (arith, listed_count (d ▹ s) above b j))
      (λ j. omega (arith, listed_count d rest b j)) i

  count_listed : (d : Len) (f : Forest S) (c : ℕ) → 0 < count c f
      → (l : Len) × In (record { cell = c; len = l }) (cells_above 𝓛 every_cell d f)
  count_listed d bare c h = absurd (omega arith)
  count_listed d (tree y s above rest) c h = go (eqb y c) refl (dec_lt 0 (count c above))
      (count_listed (d ▹ s) above c) (count_listed d rest c)
    where
      us : List (At Len)
      us = cells_above 𝓛 every_cell (d ▹ s) above

      vs : List (At Len)
      vs = cells_above 𝓛 every_cell d rest

      go : (b : Bool) → eqb y c ≡ b → Dec (0 < count c above)
          → (0 < count c above → (l : Len) × In (record { cell = c; len = l }) us)
          → (0 < count c rest → (l : Len) × In (record { cell = c; len = l }) vs)
          → (l : Len) × In (record { cell = c; len = l }) (cells_above 𝓛 every_cell d (tree y s above rest))
      go true e t ia ir = (d ▹ s, inl (ap (λ (x : ℕ). record { cell = x; len = d ▹ s }) (sym (eqb-true y c e))))
      go false e (yes k) ia ir = let p = ia k in (p.0, inr (in_left (record { cell = c; len = p.0 }) us vs p.1))
      go false e (no k) ia ir = let p = ir (omega (arith, one_other y c (eqb-false y c e))) in
          (p.0, inr (in_right (record { cell = c; len = p.0 }) us vs p.1))

  module _ (ups : ℕ → List (Link S)) (ground : ℕ → Bool) (cell_count : ℕ) (𝓝 : Network next ups ground cell_count)
      (A : ℕ → ℕ)
      (agrees : Agrees ups ground A) where
    -- no walk is longer than there are places
    pub meets_at_most : (o c : ℕ) → ground o ≡ true → (m : MeetsFirst next outlet o c) → m.steps ≤ cell_count
    meets_at_most o c v m = omega (
      arith,
      after_more next ups ground cell_count 𝓝 A agrees m.steps c o m.meets,
      agrees_at_most next ups ground cell_count 𝓝 A agrees o v,
    )

    module _ (o : ℕ) (is_out : outlet o ≡ true) (v : ground o ≡ true) where
      upstream_count : (n c : ℕ) → one o c + count c (upstream ups outlet n o) ≡ cond (belongs 𝓛 next outlet n o c) 1 0
      upstream_count n c = go (belongs 𝓛 next outlet n o c) refl
        where
          f : Forest S
          f = upstream ups outlet n o

          go : (b : Bool) → belongs 𝓛 next outlet n o c ≡ b → one o c + count c f ≡ cond b 1 0
          go true e = listed (true_belongs n o c e)
            where
              listed : (l : Len) × (first_outlet 𝓛 next outlet n c ≡ some (record { cell = o; len = l }))
                  → one o c + count c f ≡ 1
              listed p = omega (
                arith,
                count_once next ups ground cell_count 𝓝 A agrees outlet n o c v,
                some_of (first_listed 𝓛 next outlet ups ground cell_count 𝓝 n c (record { cell = o; len = p.0 })
                    p.1),
              )
                where
                  some_of : In (record { cell = c; len = p.0 }) (cells_from 𝓛 every_cell o f) → 0 < one o c + count c f
                  some_of (inl q) = omega (arith, one_same o c (ap (λ (x : At Len). x.cell) (sym q)))
                  some_of (inr i) = omega (arith, listed_count start f (record { cell = c; len = p.0 }) i)
          go false e = elim (dec_lt 0 (one o c + count c f)) [
            | yes k ↦ absurd
                (true≢false (sym (found_in k (eqb o c) refl) ∙ e))
            | no k ↦ none_left k
          ]
            where
              none_left : (0 < one o c + count c f → ⊥) → one o c + count c f ≡ 0
              none_left k = omega arith

              reached : (l : Len) → In (record { cell = c; len = l }) (cells_from 𝓛 every_cell o f)
                  → belongs 𝓛 next outlet n o c ≡ true
              reached l i = belongs_true n o c l
                  (every_in (λ a. first_outlet 𝓛 next outlet n a.cell ≡ some (record { cell = o; len = a.len }))
                  (record { cell = c; len = l }) (cells_from 𝓛 every_cell o f)
                  (cells_first 𝓛 next outlet ups ground cell_count 𝓝 n o is_out) i)

              found_in : 0 < one o c + count c f → (b : Bool) → eqb o c ≡ b → belongs 𝓛 next outlet n o c ≡ true
              found_in k true q = reached start
                  (inl (ap (λ (x : ℕ). record { cell = x; len = start }) (sym (eqb-true o c q))))
              found_in k false q = let p = count_listed start f c (omega (arith, one_other o c (eqb-false o c q))) in
                  reached p.0 (inr p.1)

      -- the cells of the subwatershed, counted over all places, are those of the forest and the outlet
      pub count_at_most : (n : ℕ) → how_many (belongs 𝓛 next outlet n o) cell_count ≡ suc (size (upstream ups outlet n o))
      count_at_most n = many_sum (belongs 𝓛 next outlet n o) cell_count
          ∙ ap (sum_to cell_count) (fun_ext (λ c. sym (upstream_count n c)))
          ∙ omega (
            arith,
            sum_add cell_count (one o) (λ c. count c (upstream ups outlet n o)),
            sum_one cell_count o (𝓝.bounded o v),
            sum_count cell_count (upstream ups outlet n o)
                (upstream_within next ups ground cell_count 𝓝 A agrees outlet n o v),
          )

    pub arrives_at_most : (o : ℕ) (b : At Len) → ground o ≡ true → (p : Arrives 𝓛 next outlet o b)
        → p.steps ≤ cell_count
    arrives_at_most o b v p =
        omega (
          arith,
          after_more next ups ground cell_count 𝓝 A agrees p.steps b.cell o
              (strides_after p.steps (record { cell = b.cell; len = start }) (record { cell = o; len = b.len })
              p.holds),
          agrees_at_most next ups ground cell_count 𝓝 A agrees o v,
        )
