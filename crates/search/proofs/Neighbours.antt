-- The search neighbour by neighbour, case by case: the equations that an engine follows.
-- Assumes nothing.
use mathlib.Core.Path.{◌≡◌, refl, sym, ap, ◌∙◌, subst}
use mathlib.Core.Bool.{Bool, true, false}
use mathlib.Core.List.{List, [], ◌∷◌}
use mathlib.Core.Option.{Option, none, some}
use Prim.Native.Nat.{ℕ, suc}
use native.Mathlib.Omega.{arith}
use Rattle.lengths.specs.Lengths.{Lengths}
use Rattle.lists.specs.Lists.{member}
use Rattle.ground.specs.Compass.{Dir, dirs, opposite}
use Rattle.ground.specs.Grid.{Grid, Link, ground, neighbour, flows_in, inflows, inflows_from}
use Rattle.ground.specs.Accumulation.{total, agrees, subaccumulation}
use Rattle.ground.specs.Subwatershed.{is_outlet}
use Rattle.ground.specs.Forest.{Forest, tree, grow, forest}
use Rattle.ground.proofs.Cells.{ground_inflows, flow_ground, points_flow}
use Rattle.ground.proofs.GridNetwork.{inflows_induct}
use Rattle.ground.proofs.Ground.{sub_size, sub_equation, forest_equation}
use Rattle.search.specs.Search.{State, fresh, Rule, drops, drop_cells, visit, search_above, search_from}
use Rattle.search.specs.Neighbours.{unless_outlet, inflow_in, cells_in, turn_to, enter}
use Rattle.search.proofs.Dropping.{search_dropped, search_entered}

module _ (𝓛 : Lengths Dir) (rule : Rule 𝓛) (g : Grid) (outlets : List ℕ) where
  open 𝓛 use {Len, start, ◌▹◌}

  abbrev growth : List Dir → ℕ → Forest Dir
  growth ds x = grow (inflows g) (λ c. member c outlets) (forest g outlets) (inflows_from g ds x)

  -- no direction is left
  pub turn_done : (x : ℕ) (d : Len) (st : State 𝓛) → turn_to 𝓛 rule g outlets [] x d st ≡ st
  unfolding turn_to
  turn_done x d st = refl

  module _ (e : Dir) (ds : List Dir) (x : ℕ) (d : Len) (st : State 𝓛) where
    -- off the grid
    pub turn_off : neighbour g x e ≡ none → turn_to 𝓛 rule g outlets (e ∷ ds) x d st ≡ turn_to 𝓛 rule g outlets ds x d st
    unfolding turn_to
    turn_off n = rw n

    module _ (y : ℕ) (n : neighbour g x e ≡ some y) where
      -- does not flow in
      pub turn_away : flows_in g e (some y) ≡ false → turn_to 𝓛 rule g outlets (e ∷ ds) x d st
          ≡ turn_to 𝓛 rule g outlets ds x d st
      unfolding turn_to
      turn_away f = rw (n, f)

      -- is an outlet
      pub turn_outlet : flows_in g e (some y) ≡ true → member y outlets ≡ true
          → turn_to 𝓛 rule g outlets (e ∷ ds) x d st ≡ turn_to 𝓛 rule g outlets ds x d st
      unfolding turn_to
      turn_outlet f o = rw (n, f) (rw (o, grow))

      module _ (f : flows_in g e (some y) ≡ true) (o : member y outlets ≡ false) where
        opened : turn_to 𝓛 rule g outlets (e ∷ ds) x d st ≡ search_above 𝓛 rule d st
            (tree y (opposite e) (forest g outlets y) (growth ds x))
        unfolding turn_to
        opened = rw (n, f) (rw (o, grow))

        module _ (a : List ℕ) (h : agrees g a ≡ true) (v : ground g y ≡ true) where
          -- is dropped with all its cells
          pub turn_dropped : drops 𝓛 rule st.starts d (opposite e) (subaccumulation g outlets y) ≡ true
              → turn_to 𝓛 rule g outlets (e ∷ ds) x d st ≡ turn_to 𝓛 rule g outlets ds x d
              (drop_cells 𝓛 st (subaccumulation g outlets y))
          unfolding turn_to
          turn_dropped k = opened
              ∙ search_dropped 𝓛 rule d st y (opposite e) (forest g outlets y) (growth ds x)
              (ap (drops 𝓛 rule st.starts d (opposite e)) (sym (sub_size g a h outlets y v)) ∙ k)
              ∙ ap (λ (m : ℕ). search_above 𝓛 rule d (drop_cells 𝓛 st m) (growth ds x)) (sym (sub_size g a h outlets y v))

          -- is entered, and all above it finished before the next
          pub turn_entered : drops 𝓛 rule st.starts d (opposite e) (subaccumulation g outlets y) ≡ false
              → turn_to 𝓛 rule g outlets (e ∷ ds) x d st ≡ turn_to 𝓛 rule g outlets ds x d
              (enter 𝓛 rule g outlets y (d ▹ opposite e) st)
          unfolding turn_to enter
          turn_entered k = opened
              ∙ search_entered 𝓛 rule d st y (opposite e) (forest g outlets y) (growth ds x)
              (ap (drops 𝓛 rule st.starts d (opposite e)) (sym (sub_size g a h outlets y v)) ∙ k)
              ∙ ap (λ (t : Forest Dir). search_above 𝓛 rule d
              (search_above 𝓛 rule (d ▹ opposite e) (visit 𝓛 rule st y (d ▹ opposite e) (forest g outlets y)) t)
              (growth ds x))
              (forest_equation g a h outlets y v ∙ ap (grow (inflows g) (λ c. member c outlets) (forest g outlets))
              (ground_inflows g y v))

  -- the whole search enters the outlet
  pub search_enters : (a : List ℕ) → agrees g a ≡ true → (o : ℕ) → ground g o ≡ true
      → search_from 𝓛 rule o (forest g outlets o) ≡ enter 𝓛 rule g outlets o start (fresh 𝓛)
  unfolding enter turn_to
  search_enters a h o v = ap (search_above 𝓛 rule start (visit 𝓛 rule (fresh 𝓛) o start (forest g outlets o)))
      (forest_equation g a h outlets o v ∙ ap (grow (inflows g) (λ c. member c outlets) (forest g outlets))
      (ground_inflows g o v))

-- ---- by what a direction holds

-- a cell found in a direction is the neighbour, flows in and is no outlet
pub record Found (g : Grid) (outlets : List ℕ) (x : ℕ) (d : Dir) (y : ℕ) : Type 0 where
  pub there : neighbour g x d ≡ some y
  pub flows : flows_in g d (some y) ≡ true
  pub not_outlet : member y outlets ≡ false

pub found_in : (g : Grid) (outlets : List ℕ) (x : ℕ) (d : Dir) (y : ℕ) → inflow_in g outlets x d ≡ some y
    → Found g outlets x d y
unfolding inflow_in
found_in g outlets x d y e = by_place (neighbour g x d) refl
  where
    by_test : (z : ℕ) → neighbour g x d ≡ some z → (b : Bool) → flows_in g d (some z) ≡ b → (c : Bool)
        → member z outlets ≡ c → unless_outlet g outlets d (some z) ≡ some y → Found g outlets x d y
    by_test z n true f false o k =
        let p : some z ≡ some y = sym (rw (f, o)) ∙ k in
        let q : z ≡ y = cc in
        subst (Found g outlets x d) q (record { there = n; flows = f; not_outlet = o })
    by_test z n true f true o k = let p : none ≡ some y = sym (rw (f, o)) ∙ k in let w : ◌≡◌ {A = ℕ} 0 1 = cc in
        absurd (omega arith)
    by_test z n false f c o k = let p : none ≡ some y = sym (rw f) ∙ k in let w : ◌≡◌ {A = ℕ} 0 1 = cc in
        absurd (omega arith)

    by_place : (p : Option ℕ) → neighbour g x d ≡ p → Found g outlets x d y
    by_place none n = let p : none ≡ some y = sym (rw n) ∙ e in let w : ◌≡◌ {A = ℕ} 0 1 = cc in absurd (omega arith)
    by_place (some z) n = by_test z n (flows_in g d (some z)) refl (member z outlets) refl (sym (rw n) ∙ e)

-- what is found has ground
pub found_ground : (g : Grid) (outlets : List ℕ) (x : ℕ) (d : Dir) (y : ℕ) → Found g outlets x d y → ground g y ≡ true
found_ground g outlets x d y f = flow_ground g y (opposite d) (points_flow g (opposite d) y f.flows)

module _ (𝓛 : Lengths Dir) (rule : Rule 𝓛) (g : Grid) (outlets : List ℕ) (x : ℕ) (e : Dir) (ds : List Dir)
    (d : 𝓛.Len) (st : State 𝓛) where
  -- nothing is there to turn to
  pub turn_none : inflow_in g outlets x e ≡ none → turn_to 𝓛 rule g outlets (e ∷ ds) x d st
      ≡ turn_to 𝓛 rule g outlets ds x d st
  unfolding inflow_in
  turn_none h = by_place (neighbour g x e) refl
    where
      by_test : (z : ℕ) → neighbour g x e ≡ some z → (b : Bool) → flows_in g e (some z) ≡ b → (c : Bool)
          → member z outlets ≡ c → unless_outlet g outlets e (some z) ≡ none → turn_to 𝓛 rule g outlets (e ∷ ds) x d st
          ≡ turn_to 𝓛 rule g outlets ds x d st
      by_test z n false f c o k = turn_away 𝓛 rule g outlets e ds x d st z n f
      by_test z n true f true o k = turn_outlet 𝓛 rule g outlets e ds x d st z n f o
      by_test z n true f false o k = let p : some z ≡ none = sym (rw (f, o)) ∙ k in let w : ◌≡◌ {A = ℕ} 0 1 = cc in
          absurd (omega arith)

      by_place : (p : Option ℕ) → neighbour g x e ≡ p → turn_to 𝓛 rule g outlets (e ∷ ds) x d st
          ≡ turn_to 𝓛 rule g outlets ds x d st
      by_place none n = turn_off 𝓛 rule g outlets e ds x d st n
      by_place (some z) n = by_test z n (flows_in g e (some z)) refl (member z outlets) refl (sym (rw n) ∙ h)

  -- what is there is dropped, or entered
  module _ (a : List ℕ) (h : agrees g a ≡ true) (y : ℕ) (f : Found g outlets x e y) where
    pub turn_drops : drops 𝓛 rule st.starts d (opposite e) (subaccumulation g outlets y) ≡ true
        → turn_to 𝓛 rule g outlets (e ∷ ds) x d st ≡ turn_to 𝓛 rule g outlets ds x d
        (drop_cells 𝓛 st (subaccumulation g outlets y))
    turn_drops k = turn_dropped 𝓛 rule g outlets e ds x d st y f.there f.flows f.not_outlet a h
        (found_ground g outlets x e y f) k

    pub turn_enters : drops 𝓛 rule st.starts d (opposite e) (subaccumulation g outlets y) ≡ false
        → turn_to 𝓛 rule g outlets (e ∷ ds) x d st ≡ turn_to 𝓛 rule g outlets ds x d
        (enter 𝓛 rule g outlets y (𝓛.◌▹◌ d (opposite e)) st)
    turn_enters k = turn_entered 𝓛 rule g outlets e ds x d st y f.there f.flows f.not_outlet a h
        (found_ground g outlets x e y f) k

-- a cell's subaccumulation counts itself and what the search turns to from it
total_cells : (g : Grid) (outlets : List ℕ) (x : ℕ) (ds : List Dir)
    → total (inflows g) (is_outlet g outlets) (subaccumulation g outlets) (inflows_from g ds x) ≡ cells_in g outlets ds x
unfolding cells_in inflow_in
total_cells g outlets x =
    inflows_induct g x (λ ds ks. total (inflows g) (is_outlet g outlets) (subaccumulation g outlets) ks
    ≡ cells_in g outlets ds x) refl
    (λ d ds ks n ih. rw n (omega arith))
    (λ d ds ks y n f ih. flowing d ds ks y n f ih (member y outlets) refl)
    (λ d ds ks y n f ih. rw (n, f) (omega arith))
  where
    flowing : (d : Dir) (ds : List Dir) (ks : List (Link Dir)) (y : ℕ) → neighbour g x d ≡ some y
        → flows_in g d (some y) ≡ true
        → total (inflows g) (is_outlet g outlets) (subaccumulation g outlets) ks ≡ cells_in g outlets ds x → (b : Bool)
        → member y outlets ≡ b
        → total (inflows g) (is_outlet g outlets) (subaccumulation g outlets) (record { cell = y; step = opposite d }
        ∷ ks) ≡ cells_in g outlets (d ∷ ds) x
    flowing d ds ks y n f ih true o = rw (n, f) (rw (o, total) (omega arith))
    flowing d ds ks y n f ih false o = rw (n, f) (rw (o, total) (omega arith))

pub cells_above_lem : (g : Grid) (a : List ℕ) → agrees g a ≡ true → (outlets : List ℕ) (x : ℕ) → ground g x ≡ true
    → suc (cells_in g outlets dirs x) ≡ subaccumulation g outlets x
cells_above_lem g a h outlets x v = sym (sub_equation g a h outlets x v
    ∙ ap (λ ks. suc (total (inflows g) (is_outlet g outlets) (subaccumulation g outlets) ks)) (ground_inflows g x v)
    ∙ ap suc (total_cells g outlets x dirs))
