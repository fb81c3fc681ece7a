-- A grid is a network, and its inflows stand in neighbour order. Here alone cells are split into rows and columns.
-- Assumes nothing.
use mathlib.Core.Path.{◌≡◌, refl, sym, ap, ap₂, ◌∙◌, subst}
use mathlib.Core.Bool.{Bool, true, false, cond, true≢false}
use mathlib.Core.Logic.{inl, inr}
use mathlib.Core.List.{List, [], ◌∷◌, map}
use mathlib.Core.Option.{Option, none, some}
use Prim.Native.Nat.{ℕ, suc, ◌+◌, ◌≤◌}
use native.Mathlib.Omega.{arith}
use lib.ListN.{get_or}
use lib.Dec.{eqb}
use borrow.Author.Tests.{eqb-true, eq-eqb}
use Rattle.lists.specs.Lists.{In, Every, sum_of}
use Rattle.ground.specs.Compass.{Dir, E, SE, S, SW, W, NW, N, NE, dirs, place_of, opposite}
use Rattle.ground.specs.Grid.{Grid, Link, cell_count, ground, neighbour, flow, next, flows_in, inflow, inflows_from}
use Rattle.ground.specs.Grid.{inflows, inflow_value, inflow_record}
use Rattle.ground.specs.Accumulation.{total}
use Rattle.ground.proofs.Sums.{one}
use Rattle.ground.proofs.Network.{times, Network}
use Rattle.ground.proofs.Tables.{all_dirs}
use Rattle.ground.proofs.Agreement.{no_outlet}
use Rattle.ground.proofs.Cells.{opposite_twice, ground_within, neighbour_back, flow_ground, points_flow}
use Rattle.ground.proofs.Cells.{flow_points, next_along, next_none, next_is, ground_inflows, null_inflows}

module _ (g : Grid) where
  -- the walk's step, by what it is made of
  pub record Stepped (y : ℕ) (h : Link Dir) : Type 0 where
    pub dir : Dir
    pub flows : flow g y ≡ some dir
    pub leads : neighbour g y dir ≡ some h.cell
    pub solid : ground g h.cell ≡ true
    pub is_step : dir ≡ h.step

  pub stepped : (y : ℕ) (h : Link Dir) → next g y ≡ some h → Stepped y h
  stepped y h e = by_dir (flow g y) refl
    where
      never : next g y ≡ none → Stepped y h
      never z = let w : ◌≡◌ {A = ℕ} 0 1 = cc in absurd (omega arith)

      by_ground : (d : Dir) → flow g y ≡ some d → (x : ℕ) → neighbour g y d ≡ some x → (b : Bool) → ground g x ≡ b
          → Stepped y h
      by_ground d f x n true v =
          let p : some (record { cell = x; step = d }) ≡ some h = sym (next_is g y d x f n v) ∙ e in
          let q : record { cell = x; step = d } ≡ h = cc in
          subst (Stepped y) q (record { dir = d; flows = f; leads = n; solid = v; is_step = refl })
      by_ground d f x n false v = never (next_along g y d f ∙ rw (n, v))

      by_place : (d : Dir) → flow g y ≡ some d → (o : Option ℕ) → neighbour g y d ≡ o → Stepped y h
      by_place d f none n = never (next_along g y d f ∙ rw n)
      by_place d f (some x) n = by_ground d f x n (ground g x) refl

      by_dir : (o : Option Dir) → flow g y ≡ o → Stepped y h
      by_dir none f = never (next_none g y f)
      by_dir (some d) f = by_place d f (neighbour g y d) refl

  -- the cell from which a step leads lies on the opposite side
  pub next_back : (y : ℕ) (h : Link Dir) → next g y ≡ some h → neighbour g h.cell (opposite h.step) ≡ some y
  next_back y h e =
      let s = stepped y h e in
      subst (λ (d : Dir). neighbour g h.cell (opposite d) ≡ some y) s.is_step
      (neighbour_back g y s.dir h.cell (ground_within g y (flow_ground g y s.dir s.flows)) s.leads)

  -- a neighbour that flows in flows here
  pub inflow_next : (x : ℕ) (d : Dir) (y : ℕ) → ground g x ≡ true → neighbour g x d ≡ some y
      → flows_in g d (some y) ≡ true → next g y ≡ some (record { cell = x; step = opposite d })
  inflow_next x d y v n f = next_is g y (opposite d) x (points_flow g (opposite d) y f)
      (neighbour_back g x d y (ground_within g x v) n) v

  -- an induction on the neighbours of a cell, one direction after the other: each is off the grid, flows in, or does
  -- not
  pub inflows_induct : (x : ℕ) (P : List Dir → List (Link Dir) → Type 0) → P [] []
      → ((d : Dir) (ds : List Dir) (ks : List (Link Dir)) → neighbour g x d ≡ none → P ds ks → P (d ∷ ds) ks)
      → ((d : Dir) (ds : List Dir) (ks : List (Link Dir)) (y : ℕ) → neighbour g x d ≡ some y
      → flows_in g d (some y) ≡ true → P ds ks → P (d ∷ ds) (record { cell = y; step = opposite d } ∷ ks))
      → ((d : Dir) (ds : List Dir) (ks : List (Link Dir)) (y : ℕ) → neighbour g x d ≡ some y
      → flows_in g d (some y) ≡ false → P ds ks → P (d ∷ ds) ks)
      → (ds : List Dir) → P ds (inflows_from g ds x)
  inflows_induct x P done off in' away [] = done
  inflows_induct x P done off in' away (d ∷ ds) = by_place (neighbour g x d) refl
      (inflows_induct x P done off in' away ds)
    where
      by_flow : (y : ℕ) → neighbour g x d ≡ some y → (b : Bool) → flows_in g d (some y) ≡ b → P ds (inflows_from g ds x)
          → P (d ∷ ds) (inflow g d (some y) (inflows_from g ds x))
      by_flow y n true f ih = rw f (in' d ds (inflows_from g ds x) y n f ih)
      by_flow y n false f ih = rw f (away d ds (inflows_from g ds x) y n f ih)

      by_place : (o : Option ℕ) → neighbour g x d ≡ o → P ds (inflows_from g ds x)
          → P (d ∷ ds) (inflow g d o (inflows_from g ds x))
      by_place none n ih = off d ds (inflows_from g ds x) n ih
      by_place (some y) n ih = by_flow y n (flows_in g d (some y)) refl ih

  sound_from : (x : ℕ) → ground g x ≡ true → (ds : List Dir)
      → Every (λ k. next g k.cell ≡ some (record { cell = x; step = k.step })) (inflows_from g ds x)
  sound_from x v = inflows_induct x
      (λ ds ks. Every (λ k. next g k.cell ≡ some (record { cell = x; step = k.step })) ks) tt
      (λ d ds ks n ih. ih) (λ d ds ks y n f ih. (inflow_next x d y v n f, ih)) (λ d ds ks y n f ih. ih)

  -- each that flows in is found
  found_from : (x y : ℕ) (d : Dir) → neighbour g x d ≡ some y → flow g y ≡ some (opposite d) → (ds : List Dir)
      → In d ds → In (record { cell = y; step = opposite d }) (inflows_from g ds x)
  found_from x y d n f = inflows_induct x (λ ds ks. In d ds → In (record { cell = y; step = opposite d }) ks) (λ i. i)
      (λ e ds ks n' ih i. off e ds ks n' ih i) (λ e ds ks z n' f' ih i. flows e ds ks z n' ih i)
      (λ e ds ks z n' f' ih i. away e ds ks z n' f' ih i)
    where
      a : Link Dir
      a = record { cell = y; step = opposite d }

      off : (e : Dir) (ds : List Dir) (ks : List (Link Dir)) → neighbour g x e ≡ none → (In d ds → In a ks)
          → In d (e ∷ ds) → In a ks
      off e ds ks n' ih (inl q) = let p : none ≡ some y = sym n' ∙ ap (neighbour g x) (sym q) ∙ n in
          let w : ◌≡◌ {A = ℕ} 0 1 = cc in absurd (omega arith)
      off e ds ks n' ih (inr i) = ih i

      flows : (e : Dir) (ds : List Dir) (ks : List (Link Dir)) (z : ℕ) → neighbour g x e ≡ some z
          → (In d ds → In a ks) → In d (e ∷ ds) → In a (record { cell = z; step = opposite e } ∷ ks)
      flows e ds ks z n' ih (inl q) =
          let p : some y ≡ some z = sym n ∙ ap (neighbour g x) q ∙ n' in
          let r : y ≡ z = cc in
          inl (λ t. record { cell = r t; step = opposite (q t) })
      flows e ds ks z n' ih (inr i) = inr (ih i)

      away : (e : Dir) (ds : List Dir) (ks : List (Link Dir)) (z : ℕ) → neighbour g x e ≡ some z
          → flows_in g e (some z) ≡ false → (In d ds → In a ks) → In d (e ∷ ds) → In a ks
      away e ds ks z n' f' ih (inl q) =
          let p : some y ≡ some z = sym n ∙ ap (neighbour g x) q ∙ n' in
          let r : y ≡ z = cc in
          absurd (true≢false (sym (flow_points g (opposite d) y f)
          ∙ ap₂ (λ (u : Dir) (c : ℕ). flows_in g u (some c)) q r ∙ f'))
      away e ds ks z n' f' ih (inr i) = ih i

  -- each once: the direction in which a cell flows says on which side it lies
  hits : Dir → List Dir → ℕ
  hits e [] = 0
  hits e (d ∷ ds) = cond (eqb (place_of e) (place_of (opposite d))) 1 0 + hits e ds

  hits_once : (e : Dir) → hits e dirs ≡ 1
  unfolding hits
  hits_once E = refl
  hits_once SE = refl
  hits_once S = refl
  hits_once SW = refl
  hits_once W = refl
  hits_once NW = refl
  hits_once N = refl
  hits_once NE = refl

  times_hits : (x c : ℕ) (e : Dir) → flow g c ≡ some e → (ds : List Dir) → times c (inflows_from g ds x) ≤ hits e ds
  unfolding hits
  times_hits x c e p = inflows_induct x (λ ds ks. times c ks ≤ hits e ds) (omega arith)
      (λ d ds ks n ih. omega arith) (λ d ds ks y n f ih. omega (arith, here d y f (eqb y c) refl))
      (λ d ds ks y n f ih. omega arith)
    where
      here : (d : Dir) (y : ℕ) → flows_in g d (some y) ≡ true → (b : Bool) → eqb y c ≡ b
          → one y c ≤ cond (eqb (place_of e) (place_of (opposite d))) 1 0
      here d y f true q =
          let r : some e ≡ some (opposite d) = sym p ∙ ap (flow g) (sym (eqb-true y c q))
          ∙ points_flow g (opposite d) y f in
          let w : e ≡ opposite d = cc in
          rw (q, one, eq-eqb (place_of e) (place_of (opposite d)) (ap place_of w)) (omega arith)
      here d y f false q = rw (q, one) (omega arith)

  times_none : (x c : ℕ) → flow g c ≡ none → (ds : List Dir) → times c (inflows_from g ds x) ≡ 0
  times_none x c e = inflows_induct x (λ ds ks. times c ks ≡ 0) refl (λ d ds ks n ih. ih)
      (λ d ds ks y n f ih. omega (arith, other d y f (eqb y c) refl)) (λ d ds ks y n f ih. ih)
    where
      other : (d : Dir) (y : ℕ) → flows_in g d (some y) ≡ true → (b : Bool) → eqb y c ≡ b → one y c ≡ 0
      other d y f true q = let p : none ≡ some (opposite d) = sym e ∙ ap (flow g) (sym (eqb-true y c q))
          ∙ points_flow g (opposite d) y f in let w : ◌≡◌ {A = ℕ} 0 1 = cc in absurd (omega arith)
      other d y f false q = rw (q, one)

  times_once : (x c : ℕ) → times c (inflows_from g dirs x) ≤ 1
  times_once x c = go (flow g c) refl
    where
      go : (o : Option Dir) → flow g c ≡ o → times c (inflows_from g dirs x) ≤ 1
      go none f = omega (arith, times_none x c f dirs)
      go (some e) f = omega (arith, times_hits x c e f dirs, hits_once e)

  -- A GRID IS A NETWORK
  pub network : Network (next g) (inflows g) (ground g) (cell_count g)
  network = record {
    sound = λ x. sound x (ground g x) refl;
    complete = λ y h e. complete y h (stepped y h e);
    distinct = λ x c. distinct x c (ground g x) refl;
    solid = λ y h e. let s = stepped y h e in flow_ground g y s.dir s.flows;
    lands = λ y h e. (stepped y h e).solid;
    bounded = ground_within g;
  }
    where
      sound : (x : ℕ) (b : Bool) → ground g x ≡ b
          → Every (λ k. next g k.cell ≡ some (record { cell = x; step = k.step })) (inflows g x)
      sound x true v = rw (ground_inflows g x v) (sound_from x v dirs)
      sound x false v = rw (null_inflows g x v) tt

      complete : (y : ℕ) (h : Link Dir) → Stepped y h → In (record { cell = y; step = h.step }) (inflows g h.cell)
      complete y h s = rw (ground_inflows g h.cell s.solid)
          (subst (λ (k : Dir). In (record { cell = y; step = k }) (inflows_from g dirs h.cell))
          (opposite_twice s.dir ∙ s.is_step)
          (found_from h.cell y (opposite s.dir)
          (neighbour_back g y s.dir h.cell (ground_within g y (flow_ground g y s.dir s.flows)) s.leads)
          (s.flows ∙ ap some (sym (opposite_twice s.dir))) dirs (all_dirs (opposite s.dir))))

      distinct : (x c : ℕ) (b : Bool) → ground g x ≡ b → times c (inflows g x) ≤ 1
      distinct x c true v = rw (ground_inflows g x v) (times_once x c)
      distinct x c false v = rw (null_inflows g x v) (omega arith)

  -- the sum of the inflow record is the sum over the inflows
  sum_from : (a : List ℕ) (x : ℕ) (ds : List Dir) → total (inflows g) no_outlet (λ y. get_or a y 0) (inflows_from g ds x)
      ≡ sum_of (map (λ d. inflow_value g a d (neighbour g x d)) ds)
  unfolding sum_of
  sum_from a x = inflows_induct x (λ ds ks. total (inflows g) no_outlet (λ y. get_or a y 0) ks
      ≡ sum_of (map (λ d. inflow_value g a d (neighbour g x d)) ds)) refl
      (λ d ds ks n ih. rw n (omega arith))
      (λ d ds ks y n f ih. rw (n, f) (ap (λ (k : ℕ). get_or a y 0 + k) ih))
      (λ d ds ks y n f ih. rw (n, f) (omega arith))

  pub record_sum : (a : List ℕ) (x : ℕ) → ground g x ≡ true → sum_of (inflow_record g a x) ≡ total (inflows g) no_outlet
      (λ y. get_or a y 0) (inflows g x)
  unfolding inflow_record
  record_sum a x v = rw (ground_inflows g x v) (sym (sum_from a x dirs))

-- inflows in neighbour order
abbrev pub Rising : ℕ → List (Link Dir) → Type 0
Rising n [] = Unit {0}
Rising n (k ∷ ks) = (n ≤ place_of (opposite k.step)) × Rising (suc (place_of (opposite k.step))) ks

abbrev Ascending : ℕ → List Dir → Type 0
Ascending n [] = Unit {0}
Ascending n (d ∷ ds) = (n ≤ place_of d) × Ascending (suc (place_of d)) ds

dirs_ascend : Ascending 0 dirs
dirs_ascend = (
  omega arith,
  (omega arith, (omega arith, (omega arith, (omega arith, (omega arith, (omega arith, (omega arith, tt))))))),
)

rising_less : (n m : ℕ) (ks : List (Link Dir)) → n ≤ m → Rising m ks → Rising n ks
rising_less n m [] h r = tt
rising_less n m (k ∷ ks) h r = (omega (arith, r.0), r.1)

module _ (g : Grid) where
  rise_from : (x : ℕ) (ds : List Dir) (n : ℕ) → Ascending n ds → Rising n (inflows_from g ds x)
  rise_from x = inflows_induct g x (λ ds ks. (n : ℕ) → Ascending n ds → Rising n ks) (λ n h. tt)
      (λ d ds ks o ih n h. rising_less n (suc (place_of d)) ks (omega (arith, h.0)) (ih (suc (place_of d)) h.1))
      (λ d ds ks y o f ih n h. subst (λ (e : Dir). (n ≤ place_of e) × Rising (suc (place_of e)) ks)
      (sym (opposite_twice d)) (h.0, ih (suc (place_of d)) h.1))
      (λ d ds ks y o f ih n h. rising_less n (suc (place_of d)) ks (omega (arith, h.0)) (ih (suc (place_of d)) h.1))

  pub inflows_rise : (x : ℕ) → Rising 0 (inflows g x)
  inflows_rise x = go (ground g x) refl
    where
      go : (b : Bool) → ground g x ≡ b → Rising 0 (inflows g x)
      go true v = rw (ground_inflows g x v) (rise_from x dirs 0 dirs_ascend)
      go false v = rw (null_inflows g x v) tt
