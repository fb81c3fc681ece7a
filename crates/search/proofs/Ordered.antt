-- THE ORDER OF STARTS: what a forest lists, it lists in the order in which the walks, read upward, part.
-- Assumes nothing.
use mathlib.Core.Path.{◌≡◌, refl, sym, ap, ap₂, ◌∙◌, subst}
use mathlib.Core.Bool.{Bool, true, false, not, ◌||◌, true≢false}
use mathlib.Core.Logic.{◌⊎◌, inl, inr}
use mathlib.Core.List.{List, [], ◌∷◌, ◌++◌, map, map-append, append_assoc}
use mathlib.Core.Option.{Option, some}
use Prim.Native.Nat.{ℕ, zero, suc, ◌≤◌, ◌<◌}
use native.Mathlib.Omega.{arith}
use Rattle.lengths.specs.Lengths.{Lengths}
use Rattle.lengths.proofs.Laws.{LengthLaws}
use Rattle.lists.specs.Lists.{In, Every, Sorted, keep_if, only}
use Rattle.ground.specs.Compass.{Dir, place_of, opposite}
use Rattle.ground.specs.Grid.{Link}
use Rattle.ground.specs.Walk.{At}
use Rattle.ground.specs.Subwatershed.{first_outlet, route, Parts}
use Rattle.ground.specs.Forest.{Forest, bare, tree, grow, upstream, every_cell, cells_above, cells_from}
use Rattle.lists.proofs.Lists.{
  every_append,
  every_map,
  every_in,
  every_is,
  sorted_append,
  sorted_only,
  sorted_with,
  sorted_over,
  in_only,
}
use Rattle.ground.proofs.Walks.{route_out, route_next}
use Rattle.ground.proofs.Network.{Network, first_induct, cells_first}
use Rattle.ground.proofs.Cells.{opposite_twice}
use Rattle.ground.proofs.GridNetwork.{Rising}
use Rattle.search.specs.Search.{exceeded, longest}
use Rattle.search.proofs.Meeting.{lt_le, longest_is}

-- two routes do not part both ways
parts_never : (c c' : List Dir) (xs ys : List Dir) (d e d' e' : Dir) (l r l' r' : List Dir)
    → xs ≡ c ++ (d ∷ l) → ys ≡ c ++ (e ∷ r) → place_of d < place_of e → ys ≡ c' ++ (d' ∷ l') → xs ≡ c' ++ (e' ∷ r')
    → place_of d' < place_of e' → ⊥
parts_never [] [] xs ys d e d' e' l r l' r' p q h p' q' h' = let u : d ≡ e' = cc in let v : e ≡ d' = cc in
    omega (arith, ap place_of u, ap place_of v)
parts_never [] (z ∷ c') xs ys d e d' e' l r l' r' p q h p' q' h' = let u : d ≡ e = cc in omega (arith, ap place_of u)
parts_never (z ∷ c) [] xs ys d e d' e' l r l' r' p q h p' q' h' = let u : d' ≡ e' = cc in omega (arith, ap place_of u)
parts_never (z ∷ c) (z' ∷ c') xs ys d e d' e' l r l' r' p q h p' q' h' =
    let u : c ++ (d ∷ l) ≡ c' ++ (e' ∷ r') = cc in
    let v : c ++ (e ∷ r) ≡ c' ++ (d' ∷ l') = cc in
    parts_never c c' (c ++ (d ∷ l)) (c ++ (e ∷ r)) d e d' e' l r l' r' refl refl h v u h'

pub parts_asym : (xs ys : List Dir) → Parts xs ys → Parts ys xs → ⊥
parts_asym xs ys p q = parts_never p.shared q.shared xs ys p.left p.right q.left q.right p.lefts
    p.rights q.lefts q.rights p.is_left p.is_right p.earlier q.is_left q.is_right q.earlier

-- one route goes on from another
record Extends (xs ys : List Dir) : Type 0 where
  on : Dir
  more : List Dir
  is : ys ≡ xs ++ (on ∷ more)

-- side by side in order

abbrev pub Orderly : ℕ → Forest Dir → Type 0
Orderly n bare = Unit {0}
Orderly n (tree c s above rest) = (n ≤ place_of (opposite s)) × Orderly 0 above
    × Orderly (suc (place_of (opposite s))) rest

orderly_less : (n m : ℕ) (f : Forest Dir) → n ≤ m → Orderly m f → Orderly n f
orderly_less n m bare h o = tt
orderly_less n m (tree c s above rest) h o = (omega (arith, o.0), o.1, o.2)

-- the forest of ups in order is in order
module _ (ups : ℕ → List (Link Dir)) (outlet : ℕ → Bool) (rising : (x : ℕ) → Rising 0 (ups x)) where
  grow_orderly : (f : ℕ → Forest Dir) → ((y : ℕ) → Orderly 0 (f y)) → (n : ℕ) (ks : List (Link Dir)) → Rising n ks
      → Orderly n (grow ups outlet f ks)
  grow_orderly f h n [] r = tt
  grow_orderly f h n (k ∷ ks) r =
      go (outlet k.cell) refl (grow_orderly f h (suc (place_of (opposite k.step))) ks r.1)
    where
      go : (b : Bool) → outlet k.cell ≡ b → Orderly (suc (place_of (opposite k.step))) (grow ups outlet f ks)
          → Orderly n (grow ups outlet f (k ∷ ks))
      go true e ih = rw (e, grow) (orderly_less n (suc (place_of (opposite k.step))) (grow ups outlet f ks)
          (omega (arith, r.0)) ih)
      go false e ih = rw (e, grow) (r.0, h k.cell, ih)

  pub upstream_orderly : (n x : ℕ) → Orderly 0 (upstream ups outlet n x)
  upstream_orderly zero x = tt
  upstream_orderly (suc n) x = grow_orderly (upstream ups outlet n) (upstream_orderly n) 0 (ups x) (rising x)

module _ (𝓛 : Lengths Dir) (laws : LengthLaws 𝓛) where
  open 𝓛 use {Len, start, ◌▹◌, top, shorter}
  open laws use {asym, trans, grows, mono, at_top}

  -- lengths that carry the route, and are compared without it
  pub record Routed : Type 0 where
    pub len : Len
    pub route : List Dir

  abbrev pub routed : Lengths Dir
  routed = record {
    Len = Routed;
    start = record { len = start; route = [] };
    ◌▹◌ = λ l d. record { len = l.len ▹ d; route = l.route ++ (opposite d ∷ []) };
    top = top;
    shorter = λ x y. shorter x.len y.len;
  }

  abbrev forget : At Routed → At Len
  forget a = record { cell = a.cell; len = a.len.len }

  cells_forget : (d : Routed) (f : Forest Dir)
      → cells_above 𝓛 every_cell d.len f ≡ map forget (cells_above routed every_cell d f)
  cells_forget d bare = refl
  cells_forget d (tree c s above rest) = ap (λ l. record { cell = c; len = d.len ▹ s } ∷ l)
      (ap₂ ◌++◌ (cells_forget (routed.◌▹◌ d s) above) (cells_forget d rest)
      ∙ sym (map-append forget (cells_above routed every_cell (routed.◌▹◌ d s) above)
      (cells_above routed every_cell d rest)))

  exceeded_forget : (xs : List (At Routed)) (l : Routed) → exceeded 𝓛 (map forget xs) l.len ≡ exceeded routed xs l
  exceeded_forget [] l = refl
  exceeded_forget (x ∷ xs) l = ap (λ b. shorter l.len x.len.len || b) (exceeded_forget xs l)

  only_forget : (f : At Len → Bool) (g : At Routed → Bool) → ((x : At Routed) → f (forget x) ≡ g x)
      → (xs : List (At Routed)) → only f (map forget xs) ≡ map forget (only g xs)
  only_forget f g h [] = refl
  only_forget f g h (x ∷ xs) = rw (h x) (go (g x) (only_forget f g h xs))
    where
      go : (b : Bool) → only f (map forget xs) ≡ map forget (only g xs) → keep_if b (forget x) (only f (map forget xs))
          ≡ map forget (keep_if b x (only g xs))
      go true e = ap (λ l. forget x ∷ l) e
      go false e = e

  longest_forget : (xs : List (At Routed)) → longest 𝓛 (map forget xs) ≡ map forget (longest routed xs)
  longest_forget xs = only_forget (λ x. not (exceeded 𝓛 (map forget xs) x.len))
      (λ x. not (exceeded routed xs x.len)) (λ x. ap not (exceeded_forget xs x.len)) xs

  -- the length of a route
  spell : Len → List Dir → Len
  spell l [] = l
  spell l (d ∷ ds) = spell (l ▹ opposite d) ds

  spell_append : (l : Len) (xs ys : List Dir) → spell l (xs ++ ys) ≡ spell (spell l xs) ys
  unfolding spell
  spell_append l [] ys = refl
  spell_append l (x ∷ xs) ys = spell_append (l ▹ opposite x) xs ys

  spell_grows : (l : Len) (d : Dir) (ds : List Dir) → shorter l (spell l (d ∷ ds)) ≡ true
  unfolding spell
  spell_grows l d [] = grows l (opposite d)
  spell_grows l d (e ∷ ds) = lt_le 𝓛 laws l (l ▹ opposite d) (spell (l ▹ opposite d) (e ∷ ds)) (grows l (opposite d))
      (asym (l ▹ opposite d) (spell (l ▹ opposite d) (e ∷ ds)) (spell_grows (l ▹ opposite d) e ds))

  -- a listed length is that of its route
  Spelt : Routed → Type 0
  Spelt r = r.len ≡ spell start r.route

  spelt_step : (r : Routed) (d : Dir) → Spelt r → Spelt (routed.◌▹◌ r d)
  unfolding Spelt spell
  spelt_step r d h = ap (λ l. l ▹ d) h ∙ ap (λ e. spell start r.route ▹ e) (sym (opposite_twice d))
      ∙ sym (spell_append start r.route (opposite d ∷ []))

  cells_spelt : (d : Routed) (f : Forest Dir) → Spelt d → Every (λ x. Spelt x.len) (cells_above routed every_cell d f)
  cells_spelt d bare h = tt
  cells_spelt d (tree c s above rest) h = (
    spelt_step d s h,
    every_append (λ x. Spelt x.len) (cells_above routed every_cell (routed.◌▹◌ d s) above)
        (cells_above routed every_cell d rest) (cells_spelt (routed.◌▹◌ d s) above (spelt_step d s h))
        (cells_spelt d rest h),
  )

  start_spelt : Spelt routed.start
  unfolding Spelt spell
  start_spelt = refl

  -- what goes on from a route is longer
  longer_of_lem : (x y : At Routed) → Spelt x.len → Spelt y.len → Extends x.len.route y.len.route
      → shorter x.len.len y.len.len ≡ true
  unfolding Spelt
  longer_of_lem x y p q e = subst (λ l. shorter x.len.len l ≡ true)
      (sym (q ∙ ap (spell start) e.is ∙ spell_append start x.len.route (e.on ∷ e.more)
      ∙ ap (λ l. spell l (e.on ∷ e.more)) (sym p))) (spell_grows x.len.len e.on e.more)

  -- the cells above a cell at route p leave it by one of its sides, the n-th or a later one
  record Leaves (p : List Dir) (n : ℕ) (x : At Routed) : Type 0 where
    side : Dir
    more : List Dir
    is : x.len.route ≡ p ++ (side ∷ more)
    late : n ≤ place_of side

  -- or by this one
  record By (p : List Dir) (d : Dir) (x : At Routed) : Type 0 where
    more : List Dir
    is : x.len.route ≡ p ++ (d ∷ more)

  leaves_by : (p : List Dir) (d : Dir) (x : At Routed) → Leaves (p ++ (d ∷ [])) 0 x → By p d x
  leaves_by p d x l = record { more = l.side ∷ l.more; is = l.is ∙ append_assoc p (d ∷ []) (l.side ∷ l.more) }

  cells_leave : (d : Routed) (n : ℕ) (f : Forest Dir) → Orderly n f
      → Every (Leaves d.route n) (cells_above routed every_cell d f)
  cells_leave d n bare o = tt
  cells_leave d n (tree c s above rest) o = (
    record { side = opposite s; more = []; is = refl; late = o.0 },
    every_append (Leaves d.route n) (cells_above routed every_cell (routed.◌▹◌ d s) above)
        (cells_above routed every_cell d rest)
        (every_map (Leaves (d.route ++ (opposite s ∷ [])) 0) (Leaves d.route n)
        (λ x l. let b = leaves_by d.route (opposite s) x l in
        record { side = opposite s; more = b.more; is = b.is; late = o.0 })
        (cells_above routed every_cell (routed.◌▹◌ d s) above) (cells_leave (routed.◌▹◌ d s) 0 above o.1))
        (every_map (Leaves d.route (suc (place_of (opposite s)))) (Leaves d.route n)
        (λ x l. record { side = l.side; more = l.more; is = l.is; late = omega (arith, o.0, l.late) })
        (cells_above routed every_cell d rest) (cells_leave d (suc (place_of (opposite s))) rest o.2)),
  )

  -- a cell stands before what lies above it, and before what parts from it by a later neighbour
  Ahead : At Routed → At Routed → Type 0
  Ahead x y = Extends x.len.route y.len.route ⊎ Parts x.len.route y.len.route

  parted : (p : List Dir) (d : Dir) (x y : At Routed) → By p d x → Leaves p (suc (place_of d)) y → Ahead x y
  unfolding Ahead
  parted p d x y b l = inr
      (record {
        shared = p;
        left = d;
        right = l.side;
        lefts = b.more;
        rights = l.more;
        is_left = b.is;
        is_right = l.is;
        earlier = omega (arith, l.late);
      })

  cells_sorted : (d : Routed) (n : ℕ) (f : Forest Dir) → Orderly n f → Sorted Ahead (cells_above routed every_cell d f)
  unfolding Ahead
  cells_sorted d n bare o = tt
  cells_sorted d n (tree c s above rest) o = (
    every_append (Ahead x) us vs
        (every_map (Leaves (d.route ++ (opposite s ∷ [])) 0) (Ahead x)
        (λ y l. inl (record { on = l.side; more = l.more; is = l.is })) us us_leave)
        (every_map (Leaves d.route (suc (place_of (opposite s)))) (Ahead x)
        (λ y l. parted d.route (opposite s) x y (record { more = []; is = refl }) l) vs vs_leave),
    sorted_append Ahead us vs (cells_sorted (routed.◌▹◌ d s) 0 above o.1)
        (cells_sorted d (suc (place_of (opposite s))) rest o.2)
        (every_map (Leaves (d.route ++ (opposite s ∷ [])) 0) (λ a. Every (Ahead a) vs)
        (λ a l. every_map (Leaves d.route (suc (place_of (opposite s)))) (Ahead a)
        (λ b m. parted d.route (opposite s) a b (leaves_by d.route (opposite s) a l) m) vs vs_leave) us us_leave),
  )
    where
      x : At Routed
      x = record { cell = c; len = routed.◌▹◌ d s }

      us : List (At Routed)
      us = cells_above routed every_cell (routed.◌▹◌ d s) above

      vs : List (At Routed)
      vs = cells_above routed every_cell d rest

      us_leave : Every (Leaves (d.route ++ (opposite s ∷ [])) 0) us
      us_leave = cells_leave (routed.◌▹◌ d s) 0 above o.1

      vs_leave : Every (Leaves d.route (suc (place_of (opposite s)))) vs
      vs_leave = cells_leave d (suc (place_of (opposite s))) rest o.2

  -- the same with the outlet
  all_sorted : (o : ℕ) (f : Forest Dir) → Orderly 0 f → Sorted Ahead (cells_from routed every_cell o f)
  unfolding Ahead
  all_sorted o f h = (
    every_map (Leaves [] 0) (Ahead (record { cell = o; len = record { len = start; route = [] } }))
        (λ y l. inl (record { on = l.side; more = l.more; is = l.is }))
        (cells_above routed every_cell (record { len = start; route = [] }) f)
        (cells_leave (record { len = start; route = [] }) 0 f h),
    cells_sorted (record { len = start; route = [] }) 0 f h,
  )

  module _ (next : ℕ → Option (Link Dir)) (outlet : ℕ → Bool) where
    -- the route that is carried is the route of the walk
    first_route : (n c : ℕ) (a : At Routed) → first_outlet routed next outlet n c ≡ some a
        → a.len.route ≡ route next outlet n c
    first_route = first_induct routed next outlet (λ n c a. a.len.route ≡ route next outlet n c)
        (λ n c v. sym (route_out next outlet n c v))
        (λ n c h a v f e ih. ap (λ r. r ++ (opposite h.step ∷ [])) ih ∙ sym (route_next next outlet n c h v f))

    module _ (ups : ℕ → List (Link Dir)) (ground : ℕ → Bool) (cell_count : ℕ) (𝓝 : Network next ups ground cell_count)
        (rising : (x : ℕ) → Rising 0 (ups x)) where
      -- THE ORDER: the longest of the cells that may start stand in the order in which their walks, read upstream, part
      pub longest_sorted : (may : ℕ → Bool) (n o : ℕ) → outlet o ≡ true
          → Sorted (λ x y. Parts (route next outlet n x.cell) (route next outlet n y.cell))
          (longest 𝓛 (only (λ x. may x.cell) (cells_from 𝓛 every_cell o (upstream ups outlet n o))))
      unfolding Ahead
      longest_sorted may n o v =
          subst (Sorted Q) (sym (ap
          (λ l. longest 𝓛 (only (λ x. may x.cell) (record { cell = o; len = start } ∷ l)))
          (cells_forget routed.start f)
          ∙ ap (longest 𝓛) (only_forget (λ x. may x.cell) (λ x. may x.cell) (λ x. refl) ws) ∙ longest_forget ts))
          (sorted_over forget Q (longest routed ts) (sorted_with Ahead (λ x y. Q (forget x) (forget y))
          (λ x. In x (longest routed ts)) part (longest routed ts)
          (every_is (λ x. In x (longest routed ts)) (longest routed ts) (λ x i. i))
          (sorted_only Ahead (λ x. not (exceeded routed ts x.len)) ts
          (sorted_only Ahead (λ x. may x.cell) ws (all_sorted o f (upstream_orderly ups outlet rising n o))))))
        where
          f : Forest Dir
          f = upstream ups outlet n o

          ws : List (At Routed)
          ws = cells_from routed every_cell o f

          ts : List (At Routed)
          ts = only (λ x. may x.cell) ws

          Q : At Len → At Len → Type 0
          Q x y = Parts (route next outlet n x.cell) (route next outlet n y.cell)

          routes : (x : At Routed) → In x ws → x.len.route ≡ route next outlet n x.cell
          routes x i = first_route n x.cell (record { cell = o; len = x.len })
              (every_in (λ a. first_outlet routed next outlet n a.cell ≡ some (record { cell = o; len = a.len })) x
              ws (cells_first routed next outlet ups ground cell_count 𝓝 n o v) i)

          spelt : (x : At Routed) → In x ws → Spelt x.len
          spelt x i = every_in (λ y. Spelt y.len) x ws (start_spelt, cells_spelt routed.start f start_spelt) i

          part : (x y : At Routed) → In x (longest routed ts) → In y (longest routed ts) → Ahead x y
              → Q (forget x) (forget y)
          part x y i j a = go (longest_is routed ts x i) (longest_is routed ts y j).0 a
            where
              from : (z : At Routed) → In z ts → In z ws
              from z k = (in_only (λ x. may x.cell) z ws k).0

              go : In x ts × ((b : At Routed) → In b ts → shorter x.len.len b.len.len ≡ false) → In y ts
                  → Extends x.len.route y.len.route ⊎ Parts x.len.route y.len.route
                  → Q (forget x) (forget y)
              go p q (inl e) = absurd (true≢false
                  (sym (longer_of_lem x y (spelt x (from x p.0)) (spelt y (from y q)) e) ∙ p.1 y q))
              go p q (inr d) = subst (λ (r : List Dir). Parts r (route next outlet n y.cell))
                  (routes x (from x p.0)) (subst (λ (r : List Dir). Parts x.len.route r) (routes y (from y q)) d)
