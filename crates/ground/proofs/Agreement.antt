-- Where an accumulation agrees with its equation at every cell, it is the accumulation, no more steps up are needed
-- than there are places, and a forest lists no cell twice. Assumes nothing.
use mathlib.Core.Path.{◌≡◌, refl, sym, ap, ap₂, ◌∙◌, subst}
use mathlib.Core.Bool.{Bool, true, false}
use mathlib.Core.List.{List, [], ◌∷◌}
use mathlib.Core.Option.{Option, none, some}
use Prim.Native.Nat.{ℕ, zero, suc, ◌+◌, ◌≤◌, ◌<◌}
use native.Mathlib.Omega.{arith}
use lib.Dec.{eqb}
use borrow.Author.Tests.{eqb-true, eqb-false}
use Rattle.lists.specs.Lists.{Every}
use Rattle.ground.specs.Grid.{Link}
use Rattle.ground.specs.Accumulation.{total, gathered}
use Rattle.ground.specs.Forest.{Forest, bare, tree, size, grow, upstream}
use Rattle.lists.proofs.Lists.{every_map, every_in}
use Rattle.ground.proofs.Sums.{one, one_le, one_same, one_other, sum_to, sum_add, sum_zero, sum_le, sum_one}
use Rattle.ground.proofs.Network.{Network, times, count, gathered_size}

abbrev pub no_outlet : ℕ → Bool
no_outlet c = false

-- all the cells of a forest
abbrev pub AllCells : {S : Type 0} → (ℕ → Type 0) → Forest S → Type 0
AllCells P bare = Unit {0}
AllCells P (tree c s above rest) = P c × AllCells P above × AllCells P rest

pub sum_count : {S : Type 0} (n : ℕ) (f : Forest S) → AllCells (λ c. c < n) f → sum_to n (λ c. count c f) ≡ size f
sum_count n bare h = sum_zero n
sum_count n (tree c s above rest) h =
    omega (
      arith,
      sum_add n (one c) (λ x. count x above + count x rest),
      sum_add n (λ x. count x above)
          (λ x. count x rest),
      sum_one n c h.0,
      sum_count n above h.1,
      sum_count n rest h.2,
    )

-- all the trees of a forest: of each its cell and what lies above it
abbrev pub AllTrees : {S : Type 0} → (ℕ → Forest S → Type 0) → Forest S → Type 0
AllTrees P bare = Unit {0}
AllTrees P (tree c s above rest) = P c above × AllTrees P above × AllTrees P rest

-- the equation of the accumulation, at every_cell cell of ground
unfoldable pub Agrees : {S : Type 0} → (ℕ → List (Link S)) → (ℕ → Bool) → (ℕ → ℕ) → Type 0
Agrees ups ground A = (x : ℕ) → ground x ≡ true → A x ≡ suc (total ups no_outlet A (ups x))

module _ {S : Type 0} (next : ℕ → Option (Link S)) (ups : ℕ → List (Link S)) (ground : ℕ → Bool) (cell_count : ℕ)
    (𝓝 : Network next ups ground cell_count) where
  module _ (A : ℕ → ℕ) (agrees : Agrees ups ground A) where
    -- what is known of a kid
    record Inflowing (x : ℕ) (k : Link S) : Type 0 where
      flows : next k.cell ≡ some (record { cell = x; step = k.step })
      solid : ground k.cell ≡ true
      fewer : A k.cell < A x

    inflow_facts : (x : ℕ) → ground x ≡ true → Every (Inflowing x) (ups x)
    unfolding Agrees
    inflow_facts x v = go (ups x) (𝓝.sound x) (omega (arith, agrees x v))
      where
        go : (ks : List (Link S)) → Every (λ k. next k.cell ≡ some (record { cell = x; step = k.step })) ks
            → total ups no_outlet A ks < A x → Every (Inflowing x) ks
        go [] s h = tt
        go (k ∷ ks) s h = (
          record {
            flows = s.0;
            solid = 𝓝.solid k.cell (record { cell = x; step = k.step })
                s.0;
            fewer = omega arith;
          },
          go ks s.1 (omega arith),
        )

    -- fewer cells above a cell than above the next
    pub fewer_next : (y : ℕ) (h : Link S) → next y ≡ some h → A y < A h.cell
    fewer_next y h e = (every_in (Inflowing h.cell) (record { cell = y; step = h.step }) (ups h.cell)
        (inflow_facts h.cell (𝓝.lands y h e)) (𝓝.complete y h e)).fewer

    module _ (outlet : ℕ → Bool) where
      -- two functions that are the same at the ups
      grow_same : (f g : ℕ → Forest S) (ks : List (Link S)) → Every (λ k. f k.cell ≡ g k.cell) ks
          → grow ups outlet f ks ≡ grow ups outlet g ks
      grow_same f g [] h = refl
      grow_same f g (k ∷ ks) h = go (outlet k.cell) refl (grow_same f g ks h.1)
        where
          go : (b : Bool) → outlet k.cell ≡ b → grow ups outlet f ks ≡ grow ups outlet g ks
              → grow ups outlet f (k ∷ ks) ≡ grow ups outlet g (k ∷ ks)
          go true e ih = rw (e, grow) ih
          go false e ih = rw (e, grow) (ap₂ (tree k.cell k.step) h.0 ih)

      -- the steps allowed make no difference, if they are as many as the accumulation
      pub upstream_stable : (n m x : ℕ) → ground x ≡ true → A x ≤ n → A x ≤ m
          → upstream ups outlet n x ≡ upstream ups outlet m x
      unfolding Agrees
      upstream_stable zero m x v h i = absurd (omega (arith, agrees x v))
      upstream_stable (suc n) zero x v h i = absurd (omega (arith, agrees x v))
      upstream_stable (suc n) (suc m) x v h i = grow_same (upstream ups outlet n) (upstream ups outlet m) (ups x)
          (every_map (Inflowing x) (λ k. upstream ups outlet n k.cell ≡ upstream ups outlet m k.cell)
          (λ k f. upstream_stable n m k.cell f.solid (omega (arith, f.fewer)) (omega (arith, f.fewer)))
          (ups x) (inflow_facts x v))

      -- what holds of ups' cells, and of all above them, holds of all that is grown
      grow_cells : (P : ℕ → Type 0) (f : ℕ → Forest S) (ks : List (Link S))
          → Every (λ k. P k.cell × AllCells P (f k.cell)) ks → AllCells P (grow ups outlet f ks)
      grow_cells P f [] h = tt
      grow_cells P f (k ∷ ks) h = go (outlet k.cell) refl (grow_cells P f ks h.1)
        where
          go : (b : Bool) → outlet k.cell ≡ b → AllCells P (grow ups outlet f ks)
              → AllCells P (grow ups outlet f (k ∷ ks))
          go true e ih = rw (e, grow) ih
          go false e ih = rw (e, grow) (h.0.0, h.0.1, ih)

      -- every_cell cell above has ground, fewer cells above it, and a next cell
      record Upper (x c : ℕ) : Type 0 where
        solid : ground c ≡ true
        fewer : A c < A x

      upstream_upper : (n x : ℕ) → ground x ≡ true → AllCells (Upper x) (upstream ups outlet n x)
      upstream_upper zero x v = tt
      upstream_upper (suc n) x v = grow_cells (Upper x) (upstream ups outlet n) (ups x)
          (every_map (Inflowing x) (λ k. Upper x k.cell × AllCells (Upper x) (upstream ups outlet n k.cell))
          (λ k f. (
            record { solid = f.solid; fewer = f.fewer },
            weaken x k.cell f.fewer
                (upstream ups outlet n k.cell) (upstream_upper n k.cell f.solid),
          )) (ups x) (inflow_facts x v))
        where
          weaken : (x y : ℕ) → A y < A x → (f : Forest S) → AllCells (Upper y) f → AllCells (Upper x) f
          weaken x y h bare u = tt
          weaken x y h (tree c s above rest) u = (
            record { solid = u.0.solid; fewer = omega (arith, u.0.fewer) },
            weaken x y h above u.1,
            weaken x y h rest u.2,
          )

      count_none : (c : ℕ) (f : Forest S) → AllCells (λ y. y ≡ c → ⊥) f → count c f ≡ 0
      count_none c bare h = refl
      count_none c (tree y s above rest) h =
          omega (arith, one_other y c h.0, count_none c above h.1, count_none c rest h.2)

      all_map : (P Q : ℕ → Type 0) → ((c : ℕ) → P c → Q c) → (f : Forest S) → AllCells P f → AllCells Q f
      all_map P Q g bare h = tt
      all_map P Q g (tree c s above rest) h = (g c h.0, all_map P Q g above h.1, all_map P Q g rest h.2)

      -- a cell does not lie above itself
      count_self : (n x : ℕ) → ground x ≡ true → count x (upstream ups outlet n x) ≡ 0
      count_self n x v = count_none x (upstream ups outlet n x)
          (all_map (Upper x) (λ y. y ≡ x → ⊥) (λ c u e. omega (arith, u.fewer, ap A e)) (upstream ups outlet n x)
          (upstream_upper n x v))

      -- only the ups of a cell's next cell can be that cell
      times_next : (z c : ℕ) (h : Link S) → next c ≡ some h → times c (ups z) ≤ one z h.cell
      times_next z c h e = go (eqb z h.cell) refl
        where
          none_of : (z ≡ h.cell → ⊥) → (ks : List (Link S))
              → Every (λ k. next k.cell ≡ some (record { cell = z; step = k.step })) ks → times c ks ≡ 0
          none_of f [] s = refl
          none_of f (k ∷ ks) s = omega (arith, none_of f ks s.1, one_other k.cell c (λ q. f (same q)))
            where
              same : k.cell ≡ c → z ≡ h.cell
              same q = let p : some (record { cell = z; step = k.step }) ≡ some h = sym s.0 ∙ ap next q ∙ e in
                  let r : record { cell = z; step = k.step } ≡ h = cc in ap (λ (l : Link S). l.cell) r

          go : (b : Bool) → eqb z h.cell ≡ b → times c (ups z) ≤ one z h.cell
          go true q = omega (arith, 𝓝.distinct z c, one_same z h.cell (eqb-true z h.cell q))
          go false q = omega (arith, none_of (eqb-false z h.cell q) (ups z) (𝓝.sound z))

      -- a cell stands in a forest at most as often as the next cell, one step lower
      grow_bare : (c : ℕ) (ks : List (Link S)) → count c (grow ups outlet (upstream ups outlet zero) ks) ≤ times c ks
      grow_bare c [] = omega arith
      grow_bare c (k ∷ ks) = go (outlet k.cell) refl (grow_bare c ks)
        where
          go : (b : Bool) → outlet k.cell ≡ b
              → count c (grow ups outlet (upstream ups outlet zero) ks) ≤ times c ks
              → count c (grow ups outlet (upstream ups outlet zero) (k ∷ ks)) ≤ times c (k ∷ ks)
          go true e ih = rw (e, grow) (omega arith)
          go false e ih = rw (e, grow) (omega arith)

      grow_next : (c x : ℕ) (f g : ℕ → Forest S) → ((y : ℕ) → count c (f y) ≤ one y x + count x (g y))
          → (ks : List (Link S))
          → count c (grow ups outlet f ks) ≤ times c ks + count x (grow ups outlet g ks)
      grow_next c x f g h [] = omega arith
      grow_next c x f g h (k ∷ ks) = go (outlet k.cell) refl (grow_next c x f g h ks)
        where
          go : (b : Bool) → outlet k.cell ≡ b → count c (grow ups outlet f ks) ≤ times c ks + count x
              (grow ups outlet g ks)
              → count c (grow ups outlet f (k ∷ ks)) ≤ times c (k ∷ ks) + count x (grow ups outlet g (k ∷ ks))
          go true e ih = rw (e, grow) (omega arith)
          go false e ih = rw (e, grow) (omega (arith, h k.cell))

      count_next : (n z c : ℕ) (h : Link S) → next c ≡ some h
          → count c (upstream ups outlet (suc n) z) ≤ one z h.cell + count h.cell (upstream ups outlet n z)
      count_next zero z c h e = omega (arith, times_next z c h e, grow_bare c (ups z))
      count_next (suc n) z c h e =
          omega (
            arith,
            times_next z c h e,
            grow_next c h.cell (upstream ups outlet (suc n))
                (upstream ups outlet n) (λ y. count_next n y c h e) (ups z),
          )

      -- a cell that flows no_outlet is above none
      grow_end : (c : ℕ) (f : ℕ → Forest S) → next c ≡ none → ((y : ℕ) → count c (f y) ≡ 0)
          → (z : ℕ) (ks : List (Link S)) → Every (λ k. next k.cell ≡ some (record { cell = z; step = k.step })) ks
          → count c (grow ups outlet f ks) ≡ 0
      grow_end c f e h z [] s = refl
      grow_end c f e h z (k ∷ ks) s = go (outlet k.cell) refl (grow_end c f e h z ks s.1)
        where
          other : k.cell ≡ c → ⊥
          other q = let p = sym s.0 ∙ ap next q ∙ e in let w : ◌≡◌ {A = ℕ} 0 1 = cc in omega arith

          go : (b : Bool) → outlet k.cell ≡ b → count c (grow ups outlet f ks) ≡ 0
              → count c (grow ups outlet f (k ∷ ks)) ≡ 0
          go true e ih = rw (e, grow) ih
          go false e ih = rw (e, grow) (omega (arith, h k.cell, one_other k.cell c other))

      count_end : (n z c : ℕ) → next c ≡ none → count c (upstream ups outlet n z) ≡ 0
      count_end zero z c e = refl
      count_end (suc n) z c e = grow_end c (upstream ups outlet n) e (λ y. count_end n y c e) z (ups z) (𝓝.sound z)

      -- each cell once
      pub count_once : (n z c : ℕ) → ground z ≡ true → one z c + count c (upstream ups outlet n z) ≤ 1
      count_once zero z c v = omega (arith, one_le z c)
      count_once (suc n) z c v = go (eqb z c) refl (next c) refl (λ c'. count_once n z c' v)
        where
          go : (b : Bool) → eqb z c ≡ b → (o : Option (Link S)) → next c ≡ o
              → ((c' : ℕ) → one z c' + count c' (upstream ups outlet n z) ≤ 1)
              → one z c + count c (upstream ups outlet (suc n) z) ≤ 1
          go true e o f ih = omega (
            arith,
            one_le z c,
            subst (λ (y : ℕ). count y (upstream ups outlet (suc n) z) ≡ 0)
                (eqb-true z c e) (count_self (suc n) z v),
          )
          go false e none f ih = omega (arith, one_le z c, count_end (suc n) z c f)
          go false e (some h) f ih = omega (arith, one_other z c (eqb-false z c e), count_next n z c h f, ih h.cell)

      -- all of them are places
      pub upstream_within : (n z : ℕ) → ground z ≡ true → AllCells (λ c. c < cell_count) (upstream ups outlet n z)
      upstream_within n z v = all_map (Upper z) (λ c. c < cell_count) (λ c u. 𝓝.bounded c u.solid)
          (upstream ups outlet n z) (upstream_upper n z v)

      -- no more cells than places
      pub upstream_at_most : (n z : ℕ) → ground z ≡ true → suc (size (upstream ups outlet n z)) ≤ cell_count
      upstream_at_most n z v = omega (
        arith,
        sum_le cell_count (λ c. one z c + count c (upstream ups outlet n z)) (λ c. count_once n z c v),
        sum_add cell_count (one z) (λ c. count c (upstream ups outlet n z)),
        sum_one cell_count z (𝓝.bounded z v),
        sum_count cell_count (upstream ups outlet n z) (upstream_within n z v),
      )

    -- the accumulation that agrees is what is gathered, with steps enough
    gathered_agrees : (n x : ℕ) → ground x ≡ true → A x ≤ n → gathered ups no_outlet n x ≡ A x
    unfolding Agrees
    gathered_agrees zero x v h = absurd (omega (arith, agrees x v))
    gathered_agrees (suc n) x v h =
        ap suc (go (ups x) (every_map (Inflowing x) (λ k. gathered ups no_outlet n k.cell ≡ A k.cell)
        (λ k f. gathered_agrees n k.cell f.solid (omega (arith, f.fewer))) (ups x) (inflow_facts x v)))
        ∙ sym (agrees x v)
      where
        go : (ks : List (Link S)) → Every (λ k. gathered ups no_outlet n k.cell ≡ A k.cell) ks
            → total ups no_outlet (gathered ups no_outlet n) ks ≡ total ups no_outlet A ks
        go [] s = refl
        go (k ∷ ks) s = ap₂ ◌+◌ s.0 (go ks s.1)

    -- it is no more than the places
    pub agrees_at_most : (x : ℕ) → ground x ≡ true → A x ≤ cell_count
    agrees_at_most x v = omega (
      arith,
      gathered_agrees (A x) x v (omega arith),
      gathered_size ups no_outlet (A x) x,
      upstream_at_most no_outlet (A x) x v,
    )

    -- so the accumulation that agrees is the accumulation, and the forest needs no more steps than places
    pub agrees_is : (x : ℕ) → ground x ≡ true → A x ≡ gathered ups no_outlet cell_count x
    agrees_is x v = sym (gathered_agrees cell_count x v (agrees_at_most x v))

    -- the equation of the subaccumulation
    gathered_stable : (outlet : ℕ → Bool) (n m x : ℕ) → ground x ≡ true → A x ≤ n → A x ≤ m
        → gathered ups outlet n x ≡ gathered ups outlet m x
    gathered_stable outlet n m x v h i = gathered_size ups outlet n x
        ∙ ap (λ f. suc (size f)) (upstream_stable outlet n m x v h i) ∙ sym (gathered_size ups outlet m x)

    pub gathered_equation : (outlet : ℕ → Bool) (x : ℕ) → ground x ≡ true
        → gathered ups outlet cell_count x ≡ suc (total ups outlet (gathered ups outlet cell_count) (ups x))
    gathered_equation outlet x v = gathered_stable outlet cell_count (suc cell_count) x v (agrees_at_most x v)
        (omega (arith, agrees_at_most x v))

    pub upstream_equation : (outlet : ℕ → Bool) (x : ℕ) → ground x ≡ true
        → upstream ups outlet cell_count x ≡ grow ups outlet (upstream ups outlet cell_count) (ups x)
    upstream_equation outlet x v = upstream_stable outlet cell_count (suc cell_count) x v (agrees_at_most x v)
        (omega (arith, agrees_at_most x v))

    -- what lies above a cell of a forest is what lies above that cell
    module _ (outlet : ℕ → Bool) where
      grow_trees : (P : ℕ → Forest S → Type 0) (f : ℕ → Forest S) (ks : List (Link S))
          → Every (λ k. P k.cell (f k.cell) × AllTrees P (f k.cell)) ks → AllTrees P (grow ups outlet f ks)
      grow_trees P f [] h = tt
      grow_trees P f (k ∷ ks) h = go (outlet k.cell) refl (grow_trees P f ks h.1)
        where
          go : (b : Bool) → outlet k.cell ≡ b → AllTrees P (grow ups outlet f ks)
              → AllTrees P (grow ups outlet f (k ∷ ks))
          go true e ih = rw (e, grow) ih
          go false e ih = rw (e, grow) (h.0.0, h.0.1, ih)

      upstream_trees : (n x : ℕ) → ground x ≡ true → A x ≤ n
          → AllTrees (λ c up. (ground c ≡ true) × (up ≡ upstream ups outlet cell_count c)) (upstream ups outlet n x)
      upstream_trees zero x v h = tt
      upstream_trees (suc n) x v h = grow_trees (λ c up. (ground c ≡ true) × (up ≡ upstream ups outlet cell_count c))
          (upstream ups outlet n) (ups x)
          (every_map (Inflowing x)
          (λ k. ((ground k.cell ≡ true) × (upstream ups outlet n k.cell
          ≡ upstream ups outlet cell_count k.cell))
          × AllTrees (λ c up. (ground c ≡ true) × (up ≡ upstream ups outlet cell_count c))
          (upstream ups outlet n k.cell))
          (λ k f. (
            (
              f.solid,
              upstream_stable outlet n cell_count k.cell f.solid (omega (arith, f.fewer))
                  (agrees_at_most k.cell f.solid),
            ),
            upstream_trees n k.cell f.solid (omega (arith, f.fewer)),
          ))
          (ups x) (inflow_facts x v))

      pub forest_trees : (x : ℕ) → ground x ≡ true
          → AllTrees (λ c up. (ground c ≡ true) × (up ≡ upstream ups outlet cell_count c))
          (upstream ups outlet cell_count x)
      forest_trees x v = upstream_trees cell_count x v (agrees_at_most x v)
