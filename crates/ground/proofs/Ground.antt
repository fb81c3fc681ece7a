-- THE LAWS OF THE GROUND, over a grid: rings, the accumulation's equation, subaccumulation and subwatershed.
-- Assumes nothing.
use mathlib.Core.Path.{◌≡◌, refl, sym, ap, ◌∙◌}
use mathlib.Core.Bool.{Bool, true, false}
use mathlib.Core.Logic.{◌↔◌}
use mathlib.Core.List.{List, [], ◌∷◌, ◌++◌, map, map-append}
use mathlib.Core.Option.{some}
use Prim.Native.Nat.{ℕ, zero, suc, ◌+◌, ◌≤◌, ◌<◌}
use native.Mathlib.Omega.{arith}
use lib.ListN.{length, get_or, length-map, length-append, get_or-append}
use lib.Seq.{get_or_at}
use lib.Dec.{eqb}
use borrow.Author.Tests.{eqb-true, eqb-false, eq-eqb}
use Rattle.lengths.specs.declared.Length.{Length}
use Rattle.lengths.specs.declared.Step.{Step}
use Rattle.lengths.specs.declared.Step.TheVariants.{Straight, Diagonal}
use Rattle.lengths.specs.Rule.{plus_step}
use Rattle.lengths.specs.Lengths.{square_cells}
use Rattle.lengths.proofs.Laws.{LengthLaws, square_laws, stepped_laws}
use Rattle.lists.specs.Lists.{member, up_to, how_many}
use Rattle.ground.specs.Compass.{Dir, SE, step_of, squares}
use Rattle.ground.specs.Grid.{Grid, cell_count, ground, next, inflows}
use Rattle.ground.specs.Walk.{after, ends, Ring, ring_free}
use Rattle.ground.specs.Accumulation.{total, gathered, balance, agrees, subaccumulation, accumulation}
use Rattle.ground.specs.Subwatershed.{first_outlet, is_outlet, InSubwatershed, in_subwatershed, HasLength}
use Rattle.ground.specs.Forest.{size, grow, forest}
use Rattle.lists.proofs.Lists.{every_map, all_below_lem, below_all, not_below}
use Rattle.ground.proofs.Network.{Network, total_same, gathered_size}
use Rattle.ground.proofs.Agreement.{Agrees, no_outlet, agrees_is, agrees_at_most, gathered_equation}
use Rattle.ground.proofs.Agreement.{upstream_equation, upstream_at_most}
use Rattle.ground.proofs.Endings.{free_agrees}
use Rattle.ground.proofs.Rings.{after_more, no_ring, long_ring}
use Rattle.ground.proofs.Subwatersheds.{
  first_meets,
  meets_first,
  meets_one,
  meets_at_most,
  first_arrives,
  arrives_first,
  arrives_at_most,
  belongs_true,
  true_belongs,
  count_at_most,
}
use Rattle.ground.proofs.Cells.{ground_sub, null_sub, ground_balance, null_balance}
use Rattle.ground.proofs.GridNetwork.{network, record_sum}

-- square cells by directions fulfil the laws of lengths
pub squares_laws : LengthLaws squares
squares_laws = stepped_laws step_of SE square_cells refl square_laws

steps_turn : (l : Length) (s t : Step) → plus_step (plus_step l s) t ≡ plus_step (plus_step l t) s
steps_turn l Straight Straight = refl
steps_turn l Straight Diagonal = refl
steps_turn l Diagonal Straight = refl
steps_turn l Diagonal Diagonal = refl

-- the order of two steps makes no length
pub squares_turn : (l : Length) (s t : Dir) → plus_step (plus_step l (step_of s)) (step_of t)
    ≡ plus_step (plus_step l (step_of t)) (step_of s)
squares_turn l s t = steps_turn l (step_of s) (step_of t)

length_up : (n : ℕ) → length (up_to n) ≡ n
length_up zero = refl
length_up (suc n) = length-append (up_to n) (n ∷ []) ∙ omega (arith, length_up n)

-- a grid of numbers: its length, and what it holds at a cell
pub grid_length : (f : ℕ → ℕ) (n : ℕ) → length (map f (up_to n)) ≡ n
grid_length f n = length-map (up_to n) f ∙ length_up n

pub grid_at : (f : ℕ → ℕ) (n x : ℕ) → x < n → get_or (map f (up_to n)) x 0 ≡ f x
grid_at f zero x h = absurd (omega arith)
grid_at f (suc n) x h = go (eqb x n) refl (grid_at f n x)
  where
    go : (b : Bool) → eqb x n ≡ b → (x < n → get_or (map f (up_to n)) x 0 ≡ f x)
        → get_or (map f (up_to n ++ (n ∷ []))) x 0 ≡ f x
    go true e ih = rw (map-append f (up_to n) (n ∷ []))
        (get_or_at (map f (up_to n)) (f n) [] 0 x (grid_length f n ∙ sym (eqb-true x n e)) ∙ ap f (sym (eqb-true x n e)))
    go false e ih = let k : x < n = below (eqb-false x n e) in
        rw (map-append f (up_to n) (n ∷ [])) (get_or-append (map f (up_to n)) (f n ∷ []) 0 x
        (omega (arith, grid_length f n))
        ∙ ih k)
      where
        below : (x ≡ n → ⊥) → x < n
        below k = omega arith

module _ (g : Grid) where
  pub 𝓝 : Network (next g) (inflows g) (ground g) (cell_count g)
  𝓝 = network g

  -- RINGS: where the test of check 13 fails there is a ring,
  pub ring_found : ring_free g ≡ false → Ring (next g) (ground g)
  unfolding ring_free
  ring_found h = let p = not_below (ends (next g) (cell_count g)) (cell_count g) h in
      long_ring (next g) (inflows g) (ground g) (cell_count g) 𝓝 p.0 p.1

  free_ends : ring_free g ≡ true → (x : ℕ) → ground g x ≡ true → ends (next g) (cell_count g) x ≡ true
  unfolding ring_free
  free_ends h x v = all_below_lem (ends (next g) (cell_count g)) (cell_count g) h x (𝓝.bounded x v)

  -- and it passes exactly if no walk comes back to a cell
  pub ring_free_lem : (ring_free g ≡ true) ↔ (Ring (next g) (ground g) → ⊥)
  ring_free_lem = (there, λ f. back f (ring_free g) refl)
    where
      there : ring_free g ≡ true → Ring (next g) (ground g) → ⊥
      there h r = no_ring (next g) (inflows g) (ground g) (cell_count g) 𝓝 (gathered (inflows g) no_outlet (cell_count g))
          (free_agrees (next g) (inflows g) (ground g) (cell_count g) 𝓝 (free_ends h)) r

      back : (Ring (next g) (ground g) → ⊥) → (b : Bool) → ring_free g ≡ b → b ≡ true
      back f true e = refl
      back f false e = absurd (f (ring_found e))

  -- THE EQUATION, as 01 words it, at a cell of ground
  pub balance_is : (a : List ℕ) (x : ℕ) → ground g x ≡ true
      → balance g a x ≡ suc (total (inflows g) no_outlet (λ y. get_or a y 0) (inflows g x))
  balance_is a x v = ground_balance g a x v ∙ ap suc (record_sum g a x v)

  agrees_at_lem : (a : List ℕ) → agrees g a ≡ true → (x : ℕ) → x < cell_count g → get_or a x 0 ≡ balance g a x
  unfolding agrees
  agrees_at_lem a h x i = eqb-true (get_or a x 0) (balance g a x)
      (all_below_lem (λ y. eqb (get_or a y 0) (balance g a y)) (cell_count g) h x i)

  -- a list that passes check 14 fulfils the equation of the network
  pub lent : (a : List ℕ) → agrees g a ≡ true → Agrees (inflows g) (ground g) (λ x. get_or a x 0)
  unfolding Agrees
  lent a h x v = agrees_at_lem a h x (𝓝.bounded x v) ∙ balance_is a x v

  -- AT MOST ONE SOLUTION: what agrees is the accumulation
  pub agrees_accumulation : (a : List ℕ) → agrees g a ≡ true → (x : ℕ) → x < cell_count g → get_or a x 0 ≡ accumulation g x
  agrees_accumulation a h x i = go (ground g x) refl
    where
      go : (b : Bool) → ground g x ≡ b → get_or a x 0 ≡ accumulation g x
      go true v = rw (ground_sub g [] x v) (agrees_is (next g) (inflows g) (ground g) (cell_count g) 𝓝 (λ y. get_or a y 0)
          (lent a h) x v)
      go false v = rw (null_sub g [] x v) (agrees_at_lem a h x i ∙ null_balance g a x v)

  pub agrees_one : (a b : List ℕ) → agrees g a ≡ true → agrees g b ≡ true → (x : ℕ) → x < cell_count g
      → get_or a x 0 ≡ get_or b x 0
  agrees_one a b h k x i = agrees_accumulation a h x i ∙ sym (agrees_accumulation b k x i)

  -- NONE ON A RING
  pub agrees_no_ring : (a : List ℕ) → agrees g a ≡ true → Ring (next g) (ground g) → ⊥
  agrees_no_ring a h r = no_ring (next g) (inflows g) (ground g) (cell_count g) 𝓝 (λ x. get_or a x 0) (lent a h) r

  -- ONE WHERE THERE IS NO RING: the accumulation fulfils the equation
  free_equation : ring_free g ≡ true → (x : ℕ) → ground g x ≡ true
      → accumulation g x ≡ suc (total (inflows g) no_outlet (accumulation g) (inflows g x))
  unfolding Agrees
  free_equation h x v = ground_sub g [] x v ∙ free x v
      ∙ ap suc (total_same (inflows g) no_outlet (gathered (inflows g) no_outlet (cell_count g)) (accumulation g)
      (inflows g x)
      (every_map (λ k. next g k.cell ≡ some (record { cell = x; step = k.step }))
      (λ k. gathered (inflows g) no_outlet (cell_count g) k.cell ≡ accumulation g k.cell)
      (λ k e. sym (ground_sub g [] k.cell (𝓝.solid k.cell (record { cell = x; step = k.step }) e)))
      (inflows g x) (𝓝.sound x)))
    where
      free : Agrees (inflows g) (ground g) (gathered (inflows g) no_outlet (cell_count g))
      free = free_agrees (next g) (inflows g) (ground g) (cell_count g) 𝓝 (free_ends h)

  -- in a list of any length
  module _ (h : ring_free g ≡ true) (a : List ℕ) (is : (x : ℕ) → x < cell_count g → get_or a x 0 ≡ accumulation g x) where
    pub free_agree : agrees g a ≡ true
    unfolding agrees
    free_agree = below_all (λ x. eqb (get_or a x 0) (balance g a x)) (cell_count g)
        (λ x i. eq-eqb (get_or a x 0) (balance g a x) (at x i (ground g x) refl))
      where
        same : (x : ℕ)
            → total (inflows g) no_outlet (accumulation g) (inflows g x)
            ≡ total (inflows g) no_outlet (λ y. get_or a y 0) (inflows g x)
        same x = total_same (inflows g) no_outlet (accumulation g) (λ y. get_or a y 0) (inflows g x)
            (every_map (λ k. next g k.cell ≡ some (record { cell = x; step = k.step }))
            (λ k. accumulation g k.cell ≡ get_or a k.cell 0)
            (λ k e. sym (is k.cell
            (𝓝.bounded k.cell (𝓝.solid k.cell (record { cell = x; step = k.step }) e)))) (inflows g x)
            (𝓝.sound x))

        at : (x : ℕ) → x < cell_count g → (b : Bool) → ground g x ≡ b → get_or a x 0 ≡ balance g a x
        at x i true v = is x i ∙ free_equation h x v ∙ ap suc (same x) ∙ sym (balance_is a x v)
        at x i false v = is x i ∙ null_sub g [] x v ∙ sym (null_balance g a x v)

  -- so check 13 and check 14 ask the same: some list agrees exactly if the grid is free of rings
  pub agrees_free_of_rings : (a : List ℕ) → agrees g a ≡ true → ring_free g ≡ true
  agrees_free_of_rings a h = ring_free_lem.1 (agrees_no_ring a h)

  -- no cell is in the subwatersheds of two outlets, on any grid
  pub disjoint : (outlets : List ℕ) (o p c : ℕ) → member o outlets ≡ true → member p outlets ≡ true
      → InSubwatershed g outlets o c → InSubwatershed g outlets p c → o ≡ p
  disjoint outlets o p c u v m n = meets_one squares (next g) (λ x. member x outlets) o p c u v m n

  module _ (a : List ℕ) (h : agrees g a ≡ true) where
    -- IT GROWS STRICTLY ALONG WALKS: by one at least with each step
    pub grows_along : (k c x : ℕ) → after (next g) k c ≡ some x → get_or a c 0 + k ≤ get_or a x 0
    grows_along k c x e = after_more (next g) (inflows g) (ground g) (cell_count g) 𝓝 (λ y. get_or a y 0)
        (lent a h) k c x e

    -- and is at most R × C
    pub at_most_cells : (x : ℕ) → ground g x ≡ true → get_or a x 0 ≤ cell_count g
    at_most_cells x v = agrees_at_most (next g) (inflows g) (ground g) (cell_count g) 𝓝 (λ y. get_or a y 0) (lent a h) x v

    module _ (outlets : List ℕ) where
      -- SUBACCUMULATION: 1 and the sum over the inflows, outlets left out
      pub sub_equation : (x : ℕ) → ground g x ≡ true
          → subaccumulation g outlets x ≡ suc (total (inflows g) (is_outlet g outlets) (subaccumulation g outlets)
          (inflows g x))
      sub_equation x v = ground_sub g outlets x v ∙ gathered_equation (next g) (inflows g) (ground g) (cell_count g) 𝓝
          (λ y. get_or a y 0) (lent a h) (is_outlet g outlets) x v
          ∙ ap suc (total_same (inflows g) (is_outlet g outlets)
          (gathered (inflows g) (is_outlet g outlets) (cell_count g))
          (subaccumulation g outlets) (inflows g x)
          (every_map (λ k. next g k.cell ≡ some (record { cell = x; step = k.step }))
          (λ k. gathered (inflows g) (is_outlet g outlets) (cell_count g) k.cell ≡ subaccumulation g outlets k.cell)
          (λ k e. sym (ground_sub g outlets k.cell (𝓝.solid k.cell (record { cell = x; step = k.step }) e)))
          (inflows g x) (𝓝.sound x)))

      -- it is the number of cells of the forest and the cell itself
      pub sub_size : (x : ℕ) → ground g x ≡ true → subaccumulation g outlets x ≡ suc (size (forest g outlets x))
      unfolding forest
      sub_size x v = rw (ground_sub g outlets x v) (gathered_size (inflows g) (is_outlet g outlets) (cell_count g) x)

      pub sub_at_most : (x : ℕ) → ground g x ≡ true → subaccumulation g outlets x ≤ cell_count g
      unfolding forest
      sub_at_most x v = rw (sub_size x v) (upstream_at_most (next g) (inflows g) (ground g) (cell_count g) 𝓝
          (λ y. get_or a y 0) (lent a h) (is_outlet g outlets) (cell_count g) x v)

      -- the forest above a cell: its inflows in order, outlets left out, each with the forest above it
      pub forest_equation : (x : ℕ) → ground g x ≡ true → forest g outlets x ≡ grow (inflows g) (is_outlet g outlets)
          (forest g outlets) (inflows g x)
      unfolding forest
      forest_equation x v = upstream_equation (next g) (inflows g) (ground g) (cell_count g) 𝓝 (λ y. get_or a y 0)
          (lent a h) (is_outlet g outlets) x v

      module _ (o : ℕ) (listed : member o outlets ≡ true) (v : ground g o ≡ true) where
        -- THE SUBWATERSHED: 01's words and the test of check 22 are the same
        pub inside_test : (c : ℕ) → InSubwatershed g outlets o c ↔ (in_subwatershed g outlets o c ≡ true)
        unfolding in_subwatershed
        inside_test c = (there, back)
          where
            there : InSubwatershed g outlets o c → in_subwatershed g outlets o c ≡ true
            there m =
                let r = meets_first squares (next g) (is_outlet g outlets) (cell_count g) o c listed m
                (meets_at_most squares (next g) (is_outlet g outlets) (inflows g) (ground g) (cell_count g) 𝓝
                (λ x. get_or a x 0) (lent a h) o c v m) in
                belongs_true squares (next g) (is_outlet g outlets) (cell_count g) o c r.0 r.1

            back : in_subwatershed g outlets o c ≡ true → InSubwatershed g outlets o c
            back e = let r = true_belongs squares (next g) (is_outlet g outlets) (cell_count g) o c e in
                first_meets squares (next g) (is_outlet g outlets) (cell_count g) c (record { cell = o; len = r.0 })
                r.1

        -- THE COUNT: an outlet has as many cells as its subaccumulation says
        pub sub_cells : how_many (in_subwatershed g outlets o) (cell_count g) ≡ subaccumulation g outlets o
        unfolding forest in_subwatershed
        sub_cells = count_at_most squares (next g) (is_outlet g outlets) (inflows g) (ground g) (cell_count g) 𝓝
            (λ x. get_or a x 0) (lent a h) o listed v (cell_count g) ∙ sym (sub_size o v)

        -- THE LENGTH: what the walk's state holds on arrival is what `first_outlet` gives
        pub length_first : (c : ℕ) (l : Length)
            → HasLength g outlets o c l ↔ (first_outlet squares (next g) (is_outlet g outlets) (cell_count g) c
            ≡ some (record { cell = o; len = l }))
        length_first c l = (
          λ p. arrives_first squares (next g) (is_outlet g outlets) squares_turn (cell_count g) o
              (record { cell = c; len = l }) listed p (arrives_at_most squares (next g) (is_outlet g outlets)
              (inflows g) (ground g) (cell_count g) 𝓝 (λ x. get_or a x 0) (lent a h) o (record { cell = c; len = l }) v p),
          λ e. first_arrives squares (next g) (is_outlet g outlets) squares_turn (cell_count g) c
              (record { cell = o; len = l }) e,
        )
