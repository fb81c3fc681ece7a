-- The next turn as the traversal asks for it: where the marks are at the outlets, what is found is a tributary, and
-- none is passed over. Assumes nothing.
use mathlib.Core.Path.{◌≡◌, refl, sym, ap, ◌∙◌, subst}
use mathlib.Core.Bool.{Bool, true, false, cond}
use mathlib.Core.List.{List}
use mathlib.Core.Option.{Option as Maybe, none, some}
use Rattle.std.specs.Prelude.{Option, Some, None}
use Prim.Native.Nat.{ℕ, ◌≤◌, ◌<◌, ◌^◌}
use native.Mathlib.Omega.{arith}
use lib.ListN.{get_or}
use lib.Dec.{ltb}
use borrow.Author.Tests.{ltb-true}
use Rattle.ground.specs.Compass.{Dir, opposite, place_of}
use Rattle.ground.specs.Grid.{Grid, Link, cell_count, ground, neighbour, next, flows_in}
use Rattle.ground.specs.Subwatershed.{is_outlet}
use Rattle.ground.proofs.Cells.{opposite_twice, ground_within, flow_points}
use Rattle.ground.proofs.GridNetwork.{stepped, next_back, inflow_next, network}
use Rattle.moves.specs.Moves.{dir_at}
use Rattle.moves.specs.Walks.{if_flows_in, inflow_from}
use Rattle.downstream.proofs.Steps.{place_small}
use Rattle.traversal.specs.Traversal.{Tributary}
use Rattle.traversal.specs.Turns.{if_unmarked, unmarked_from, Passed, NextTurn, HasNeighbour}
use Rattle.traversal.proofs.Traversing.{at_place}
use Rattle.traversal.proofs.Moving.{place_at}
use Rattle.traversal.proofs.Turning.{is_unmarked}

never : {P : Type 0} {y : ℕ} → none ≡ some y → P
never e = cc

-- what an inflow is
record FlowsAt (g : Grid) (x : ℕ) (d : Dir) (y : ℕ) : Type 0 where
  there : neighbour g x d ≡ some y
  flows : flows_in g d (some y) ≡ true

flows_at_lem : (g : Grid) (x : ℕ) (d : Dir) (y : ℕ) → inflow_from g x d ≡ some y → FlowsAt g x d y
unfolding inflow_from
flows_at_lem g x d y e = by_place (neighbour g x d) refl
  where
    by_test : (z : ℕ) → neighbour g x d ≡ some z → (b : Bool) → flows_in g d (some z) ≡ b
        → if_flows_in g d (some z) ≡ some y → FlowsAt g x d y
    by_test z n true f k =
        let p : some z ≡ some y = sym (rw f) ∙ k in
        let q : z ≡ y = cc in
        subst (FlowsAt g x d) q (record { there = n; flows = f })
    by_test z n false f k = never (sym (rw f) ∙ k)

    by_place : (o : Maybe ℕ) → neighbour g x d ≡ o → FlowsAt g x d y
    by_place none n = never (sym (rw n) ∙ e)
    by_place (some z) n = by_test z n (flows_in g d (some z)) refl (sym (rw n) ∙ e)

record Unmarked (g : Grid) (marks : List ℕ) (x : ℕ) (d : Dir) (y : ℕ) : Type 0 where
  inflow : inflow_from g x d ≡ some y
  small : get_or marks y 0 < 2 ^ 31

unmarked_is : (g : Grid) (marks : List ℕ) (x : ℕ) (d : Dir) (y : ℕ) → unmarked_from g marks x d ≡ some y
    → Unmarked g marks x d y
unfolding unmarked_from
unmarked_is g marks x d y e = go (inflow_from g x d) refl
  where
    by_mark : (z : ℕ) → inflow_from g x d ≡ some z → (b : Bool) → ltb (get_or marks z 0) (2 ^ 31) ≡ b
        → cond b (some z) none ≡ some y → Unmarked g marks x d y
    by_mark z n true f k =
        let q : z ≡ y = cc in
        subst (Unmarked g marks x d) q (record { inflow = n; small = ltb-true (get_or marks z 0) (2 ^ 31) f })
    by_mark z n false f k = never k

    go : (o : Maybe ℕ) → inflow_from g x d ≡ o → Unmarked g marks x d y
    go none n = never (sym (ap (if_unmarked marks) n) ∙ e)
    go (some z) n = by_mark z n (ltb (get_or marks z 0) (2 ^ 31)) refl (sym (ap (if_unmarked marks) n) ∙ e)

module _ (g : Grid) (outlets marks : List ℕ)
    (marked : (c : ℕ) → is_outlet g outlets c ≡ true → 2 ^ 31 ≤ get_or marks c 0)
    (unmarked : (c : ℕ) → c < cell_count g → is_outlet g outlets c ≡ false → get_or marks c 0 < 2 ^ 31)
    {x k : ℕ} {r : Option ℕ} (is_ground : ground g x ≡ true) (n : NextTurn g marks x k r) where
  abbrev Trib : Dir → ℕ → Type 0
  Trib d y = Tributary (next g) (is_outlet g outlets) x d y

  -- a tributary would be found
  seen : (d : Dir) (y : ℕ) → Trib d y → unmarked_from g marks x (dir_at (place_of d)) ≡ some y
  unfolding inflow_from
  seen d y u =
      let h : Link Dir = record { cell = x; step = opposite d } in
      let s = stepped g y h u.flows in
      let b : neighbour g x d ≡ some y = subst (λ (e : Dir). neighbour g x e ≡ some y) (opposite_twice d)
      (next_back g y h u.flows) in
      let f : flows_in g d (some y) ≡ true = flow_points g (opposite d) y (s.flows ∙ ap some s.is_step) in
      let e : inflow_from g x d ≡ some y = ap (if_flows_in g d) b ∙ ap (λ (t : Bool). cond t (some y) none) f in
      is_unmarked g marks x (place_of d)
      (ap (inflow_from g x) (at_place d) ∙ e)
      (unmarked y (ground_within g y ((network g).solid y h u.flows)) u.not_outlet)

  passed_over : {m : ℕ} → Passed g marks x k m → (d : Dir) (y : ℕ) → Trib d y → k ≤ place_of d → place_of d < m → ⊥
  passed_over p d y u i j = never (sym (p.none_there (place_of d) i j) ∙ seen d y u)

  -- none is ahead
  pub none_ahead : r ≡ None → (d : Dir) (y : ℕ) → Tributary (next g) (is_outlet g outlets) x d y → k ≤ place_of d → ⊥
  none_ahead e d y u i = passed_over (n.all_passed e) d y u i (omega (arith, place_small d))

  -- one is found, and it is the next
  module _ {m : ℕ} (e : r ≡ Some m) where
    f : Unmarked g marks x (dir_at m) (n.found m e).0
    f = unmarked_is g marks x (dir_at m) (n.found m e).0 (n.found m e).1

    pub found_beside : HasNeighbour g x m
    found_beside = ((n.found m e).0, (flows_at_lem g x (dir_at m) (n.found m e).0 f.inflow).there)

    pub found_tributary : {y : ℕ} → neighbour g x (dir_at m) ≡ some y
        → Tributary (next g) (is_outlet g outlets) x (dir_at m) y
    found_tributary {y} h =
        let a = flows_at_lem g x (dir_at m) (n.found m e).0 f.inflow in
        let p : some (n.found m e).0 ≡ some y = sym a.there ∙ h in
        let q : (n.found m e).0 ≡ y = cc in
        subst (Trib (dir_at m)) q (record {
          flows = inflow_next g x (dir_at m) (n.found m e).0 is_ground a.there a.flows;
          not_outlet = go (is_outlet g outlets (n.found m e).0) refl;
        })
      where
        go : (b : Bool) → is_outlet g outlets (n.found m e).0 ≡ b → is_outlet g outlets (n.found m e).0 ≡ false
        go true o = absurd (omega (arith, marked (n.found m e).0 o, f.small))
        go false o = o

    at_place_m : place_of (dir_at m) ≡ m
    at_place_m = place_at m (n.is_turn m e)

    pub found_far : k ≤ place_of (dir_at m)
    found_far = omega (arith, (n.passed m e).at_least, at_place_m)

    pub found_next : (d : Dir) (y : ℕ) → Tributary (next g) (is_outlet g outlets) x d y → k ≤ place_of d
        → place_of d < place_of (dir_at m) → ⊥
    found_next d y u i j = passed_over (n.passed m e) d y u i (omega (arith, at_place_m))
