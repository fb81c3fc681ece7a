-- THE LAWS OF FLOW LENGTHS: how the upstream length of a cell stands to that of its inflows, and the arrival of a cell
-- to that of the cell it flows to. Assumes nothing.
use mathlib.Core.Path.{◌≡◌, refl, sym, ap, ◌∙◌, subst}
use mathlib.Core.Bool.{Bool, true, false, not, true≢false}
use mathlib.Core.Logic.{◌⊎◌, inl, inr, ◌↔◌}
use mathlib.Core.List.{List, [], ◌∷◌, map}
use mathlib.Core.Option.{some}
use Prim.Native.Nat.{ℕ, suc, ◌+◌, ◌≤◌, ◌<◌}
use native.Mathlib.Omega.{arith}
use lib.ListN.{get_or}
use borrow.Author.Tests.{eqb-true}
use Rattle.lengths.specs.declared.Length.{Length}
use Rattle.lengths.specs.declared.Step.{Step}
use Rattle.lengths.specs.declared.Step.TheVariants.{Straight, Diagonal}
use Rattle.lengths.specs.Rule.{counts, plus_step, is_shorter}
use Rattle.lengths.specs.Lengths.{Lengths}
use Rattle.lengths.proofs.Laws.{LengthLaws, irrefl}
use Rattle.lists.specs.Lists.{In, member, only}
use Rattle.lists.proofs.Lists.{every_in}
use Rattle.ground.specs.Compass.{Dir, step_of, squares}
use Rattle.ground.specs.Grid.{Grid, Link, cell_count, ground, next, inflows}
use Rattle.ground.specs.Walk.{At}
use Rattle.ground.specs.Accumulation.{agrees, subaccumulation, is_headwater}
use Rattle.ground.specs.Subwatershed.{longer, first_outlet, is_outlet, InSubwatershed, in_subwatershed, HasLength}
use Rattle.ground.specs.Forest.{Forest, bare, tree, size, grow, forest}
use Rattle.ground.specs.FlowLengths.{longer_of, reach, greatest, upstream_length, upstream_by, arrival}
use Rattle.ground.proofs.Network.{first_out, first_next, first_more, first_induct}
use Rattle.ground.proofs.Subwatersheds.{first_arrives, arrives_first, arrives_at_most, true_belongs}
use Rattle.ground.proofs.Ground.{squares_laws, squares_turn, 𝓝, lent, sub_size, sub_at_most, forest_equation}
use Rattle.ground.proofs.Ground.{inside_test, length_first}

-- ---- the longer of two lengths

module _ {S : Type 0} (𝓛 : Lengths S) where
  open 𝓛 use {Len, start, ◌▹◌, shorter}

  -- it is one of the two
  pub longer_one : (l m : Len) → (longer_of 𝓛 l m ≡ l) ⊎ (longer_of 𝓛 l m ≡ m)
  unfolding longer_of
  longer_one l m = go (shorter l m) refl
    where
      go : (b : Bool) → shorter l m ≡ b → (longer_of 𝓛 l m ≡ l) ⊎ (longer_of 𝓛 l m ≡ m)
      go true e = inr (rw e)
      go false e = inl (rw e)

  -- and not shorter than either
  module _ (laws : LengthLaws 𝓛) where
    open laws use {asym}

    pub longer_left : (l m : Len) → shorter (longer_of 𝓛 l m) l ≡ false
    unfolding longer_of
    longer_left l m = go (shorter l m) refl
      where
        go : (b : Bool) → shorter l m ≡ b → shorter (longer_of 𝓛 l m) l ≡ false
        go true e = rw e (asym l m e)
        go false e = rw e (irrefl 𝓛 laws l)

    pub longer_right : (l m : Len) → shorter (longer_of 𝓛 l m) m ≡ false
    unfolding longer_of
    longer_right l m = go (shorter l m) refl
      where
        go : (b : Bool) → shorter l m ≡ b → shorter (longer_of 𝓛 l m) m ≡ false
        go true e = rw e (irrefl 𝓛 laws m)
        go false e = rw e e

  -- ---- over a list of inflows

  module _ (ups : ℕ → List (Link S)) (outlet : ℕ → Bool) (f : ℕ → Forest S) where
    -- the reach is the greatest over the inflows, outlets left out, of theirs plus the step
    reach_greatest : (ks : List (Link S)) → reach 𝓛 (grow ups outlet f ks)
        ≡ greatest 𝓛 (map (λ k. reach 𝓛 (f k.cell) ▹ k.step) (only (λ k. not (outlet k.cell)) ks))
    reach_greatest [] = refl
    reach_greatest (k ∷ ks) = go (outlet k.cell) refl (reach_greatest ks)
      where
        go : (b : Bool) → outlet k.cell ≡ b
            → reach 𝓛 (grow ups outlet f ks)
            ≡ greatest 𝓛 (map (λ k. reach 𝓛 (f k.cell) ▹ k.step) (only (λ k. not (outlet k.cell)) ks))
            → reach 𝓛 (grow ups outlet f (k ∷ ks))
            ≡ greatest 𝓛 (map (λ k. reach 𝓛 (f k.cell) ▹ k.step) (only (λ k. not (outlet k.cell)) (k ∷ ks)))
        go true e ih = rw (e, grow, only) ih
        go false e ih = rw (e, grow, only) (ap (longer_of 𝓛 (reach 𝓛 (f k.cell) ▹ k.step)) ih)

    -- one of the inflows has the reach of all
    record Reaching (ks : List (Link S)) : Type 0 where
      link : Link S
      listed : In link ks
      not_outlet : outlet link.cell ≡ false
      is_reach : reach 𝓛 (grow ups outlet f ks) ≡ reach 𝓛 (f link.cell) ▹ link.step

    reach_attained : (ks : List (Link S)) → (reach 𝓛 (grow ups outlet f ks) ≡ start) ⊎ Reaching ks
    reach_attained [] = inl refl
    reach_attained (k ∷ ks) = go (outlet k.cell) refl (reach_attained ks)
      where
        later : (reach 𝓛 (grow ups outlet f (k ∷ ks)) ≡ reach 𝓛 (grow ups outlet f ks))
            → (reach 𝓛 (grow ups outlet f ks) ≡ start) ⊎ Reaching ks
            → (reach 𝓛 (grow ups outlet f (k ∷ ks)) ≡ start) ⊎ Reaching (k ∷ ks)
        later e (inl p) = inl (e ∙ p)
        later e (inr r) = inr (record {
          link = r.link;
          listed = inr r.listed;
          not_outlet = r.not_outlet;
          is_reach = e ∙ r.is_reach;
        })

        go : (b : Bool) → outlet k.cell ≡ b → (reach 𝓛 (grow ups outlet f ks) ≡ start) ⊎ Reaching ks
            → (reach 𝓛 (grow ups outlet f (k ∷ ks)) ≡ start) ⊎ Reaching (k ∷ ks)
        go true e ih = later (rw (e, grow)) ih
        go false e ih = step (longer_one (reach 𝓛 (f k.cell) ▹ k.step) (reach 𝓛 (grow ups outlet f ks)))
          where
            grown : reach 𝓛 (grow ups outlet f (k ∷ ks)) ≡ longer_of 𝓛 (reach 𝓛 (f k.cell) ▹ k.step)
                (reach 𝓛 (grow ups outlet f ks))
            grown = rw (e, grow)

            step : (longer_of 𝓛 (reach 𝓛 (f k.cell) ▹ k.step) (reach 𝓛 (grow ups outlet f ks))
                ≡ reach 𝓛 (f k.cell) ▹ k.step)
                ⊎ (longer_of 𝓛 (reach 𝓛 (f k.cell) ▹ k.step) (reach 𝓛 (grow ups outlet f ks))
                ≡ reach 𝓛 (grow ups outlet f ks))
                → (reach 𝓛 (grow ups outlet f (k ∷ ks)) ≡ start) ⊎ Reaching (k ∷ ks)
            step (inl p) = inr (record { link = k; listed = inl refl; not_outlet = e; is_reach = grown ∙ p })
            step (inr p) = later (grown ∙ p) ih

    -- and it is not shorter than any inflow's
    module _ (laws : LengthLaws 𝓛) where
      open laws use {trans}

      reach_bound : (ks : List (Link S)) (k : Link S) → outlet k.cell ≡ false → In k ks
          → shorter (reach 𝓛 (grow ups outlet f ks)) (reach 𝓛 (f k.cell) ▹ k.step) ≡ false
      reach_bound [] k u i = absurd i
      reach_bound (j ∷ ks) k u i = go (outlet j.cell) refl (reach_bound ks k u) i
        where
          first : Len
          first = reach 𝓛 (f j.cell) ▹ j.step

          others : Len
          others = reach 𝓛 (grow ups outlet f ks)

          go : (b : Bool) → outlet j.cell ≡ b
              → (In k ks → shorter others (reach 𝓛 (f k.cell) ▹ k.step) ≡ false) → In k (j ∷ ks)
              → shorter (reach 𝓛 (grow ups outlet f (j ∷ ks))) (reach 𝓛 (f k.cell) ▹ k.step) ≡ false
          go true e ih (inl q) = absurd (true≢false (sym e ∙ ap (λ (l : Link S). outlet l.cell) (sym q) ∙ u))
          go true e ih (inr m) = rw (e, grow) (ih m)
          go false e ih (inl q) = rw (e, grow)
              (ap (λ (l : Link S). shorter (longer_of 𝓛 first others) (reach 𝓛 (f l.cell) ▹ l.step)) q
              ∙ longer_left laws first others)
          go false e ih (inr m) = rw (e, grow) (trans (reach 𝓛 (f k.cell) ▹ k.step) others (longer_of 𝓛 first others)
              (ih m) (longer_right laws first others))

-- ---- counts

pub step_counts : (l : Length) (s : Step) → (plus_step l s).straight + (plus_step l s).diagonal
    ≡ suc (l.straight + l.diagonal)
step_counts l Straight = omega arith
step_counts l Diagonal = omega arith

-- a reach has no more steps than there are cells
reach_size : (f : Forest Dir) → (reach squares f).straight + (reach squares f).diagonal ≤ size f
reach_size bare = omega arith
reach_size (tree c s above rest) =
    go (longer_one squares (plus_step (reach squares above) (step_of s)) (reach squares rest)) (reach_size above)
    (reach_size rest)
  where
    l : Length
    l = longer_of squares (plus_step (reach squares above) (step_of s)) (reach squares rest)

    go : (l ≡ plus_step (reach squares above) (step_of s)) ⊎ (l ≡ reach squares rest)
        → (reach squares above).straight + (reach squares above).diagonal ≤ size above
        → (reach squares rest).straight + (reach squares rest).diagonal ≤ size rest
        → l.straight + l.diagonal ≤ suc (size above + size rest)
    go (inl e) i j = rw e (omega (arith, step_counts (reach squares above) (step_of s), i))
    go (inr e) i j = rw e (omega (arith, j))

-- ---- the arrival of a cell

-- where a cell that is no outlet flows, and what arrives there
pub record Onward (g : Grid) (outlets : List ℕ) (y : ℕ) (b : At Length) : Type 0 where
  pub link : Link Dir
  pub flows : next g y ≡ some link
  pub there : At Length
  pub arrives : arrival g outlets link.cell ≡ some there
  pub same_cell : b.cell ≡ there.cell
  pub is_length : b.len ≡ plus_step there.len (step_of link.step)

module _ (g : Grid) (outlets : List ℕ) where
  -- an outlet arrives at itself
  pub arrival_outlet : (o : ℕ) → is_outlet g outlets o ≡ true
      → arrival g outlets o ≡ some (record { cell = o; len = counts 0 0 })
  unfolding arrival
  arrival_outlet o e = first_out squares (next g) (is_outlet g outlets) (cell_count g) o e

  -- every arrival is at an outlet of the list
  pub arrival_listed : (c : ℕ) (b : At Length) → arrival g outlets c ≡ some b → is_outlet g outlets b.cell ≡ true
  unfolding arrival
  arrival_listed = first_induct squares (next g) (is_outlet g outlets) (λ n c b. is_outlet g outlets b.cell ≡ true)
      (λ n c v. v) (λ n c k b v f e ih. ih) (cell_count g)

  -- in no more steps than there are cells
  pub arrival_small : (c : ℕ) (b : At Length) → arrival g outlets c ≡ some b
      → b.len.straight + b.len.diagonal ≤ cell_count g
  unfolding arrival
  arrival_small = first_induct squares (next g) (is_outlet g outlets)
      (λ n c b. b.len.straight + b.len.diagonal ≤ n) (λ n c v. omega arith)
      (λ n c k b v f e ih. omega (arith, ih, step_counts b.len (step_of k.step))) (cell_count g)

  -- one step down
  pub arrival_down : (y : ℕ) (b : At Length) → is_outlet g outlets y ≡ false → arrival g outlets y ≡ some b
      → Onward g outlets y b
  unfolding arrival
  arrival_down y b u e = first_induct squares (next g) (is_outlet g outlets)
      (λ n c b. n ≤ cell_count g → is_outlet g outlets c ≡ false → Onward g outlets c b)
      (λ n c v i u. absurd (true≢false (sym v ∙ u)))
      (λ n c k b v f e ih i u. record {
        link = k;
        flows = f;
        there = b;
        arrives = first_more squares (next g) (is_outlet g outlets) n (cell_count g) k.cell b (omega arith) e;
        same_cell = refl;
        is_length = refl;
      })
      (cell_count g) y b e (omega arith) u

  -- what a cell of ground arrives at is ground
  first_ground : (n c : ℕ) (b : At Length) → first_outlet squares (next g) (is_outlet g outlets) n c ≡ some b
      → ground g c ≡ true → ground g b.cell ≡ true
  first_ground = first_induct squares (next g) (is_outlet g outlets)
      (λ n c b. ground g c ≡ true → ground g b.cell ≡ true) (λ n c v w. w)
      (λ n c k b v f e ih w. ih ((𝓝 g).lands c k f))

-- ---- the laws that rest on the accumulation

-- a cell of the subwatershed of o arrives there, with the length of its walk
module _ (g : Grid) (a : List ℕ) (h : agrees g a ≡ true) (outlets : List ℕ) (o : ℕ)
    (listed : member o outlets ≡ true) (v : ground g o ≡ true) where
  pub length_arrives : (c : ℕ) (l : Length)
      → HasLength g outlets o c l ↔ (arrival g outlets c ≡ some (record { cell = o; len = l }))
  unfolding arrival
  length_arrives c l = length_first g a h outlets o listed v c l

  pub inside_arrives : (c : ℕ) → InSubwatershed g outlets o c
      → (l : Length) × (arrival g outlets c ≡ some (record { cell = o; len = l }))
  unfolding arrival in_subwatershed
  inside_arrives c i = true_belongs squares (next g) (is_outlet g outlets) (cell_count g) o c
      ((inside_test g a h outlets o listed v c).0 i)

-- the inflow that the upstream length comes by
pub record LongestInflow (g : Grid) (outlets : List ℕ) (x : ℕ) : Type 0 where
  pub cell : ℕ
  pub step : Dir
  pub flows : next g cell ≡ some (record { cell = x; step = step })
  pub not_outlet : is_outlet g outlets cell ≡ false
  pub is_length : upstream_length g outlets x ≡ plus_step (upstream_length g outlets cell) (step_of step)

module _ (g : Grid) (a : List ℕ) (h : agrees g a ≡ true) (outlets : List ℕ) where
  -- one step up
  pub arrival_up : (y : ℕ) (k : Link Dir) (b : At Length) → is_outlet g outlets y ≡ false → next g y ≡ some k
      → arrival g outlets k.cell ≡ some b
      → arrival g outlets y ≡ some (record { cell = b.cell; len = plus_step b.len (step_of k.step) })
  unfolding arrival
  arrival_up y k b u f e =
      let there : At Length = record { cell = b.cell; len = plus_step b.len (step_of k.step) } in
      let p = first_arrives squares (next g) (is_outlet g outlets) squares_turn (suc (cell_count g)) y there
      (first_next squares (next g) (is_outlet g outlets) (cell_count g) y k u f
      ∙ ap (longer squares k.step) e) in
      arrives_first squares (next g) (is_outlet g outlets) squares_turn (cell_count g) b.cell
      (record { cell = y; len = there.len }) (arrival_listed g outlets k.cell b e) p
      (arrives_at_most squares (next g) (is_outlet g outlets) (inflows g) (ground g) (cell_count g) (𝓝 g)
      (λ x. get_or a x 0) (lent g a h) b.cell (record { cell = y; len = there.len })
      (first_ground g outlets (cell_count g) k.cell b e ((𝓝 g).lands y k f)) p)

  -- the upstream length of a cell is not shorter than that of an inflow, no outlet, and the step
  pub upstream_bound : (y : ℕ) (k : Link Dir) → next g y ≡ some k → is_outlet g outlets y ≡ false
      → is_shorter (upstream_length g outlets k.cell) (plus_step (upstream_length g outlets y) (step_of k.step))
      ≡ false
  unfolding upstream_length
  upstream_bound y k f u =
      subst (λ (t : Forest Dir). is_shorter (reach squares t)
      (plus_step (reach squares (forest g outlets y)) (step_of k.step)) ≡ false)
      (sym (forest_equation g a h outlets k.cell ((𝓝 g).lands y k f)))
      (reach_bound squares (inflows g) (is_outlet g outlets) (forest g outlets) squares_laws (inflows g k.cell)
      (record { cell = y; step = k.step }) u ((𝓝 g).complete y k f))

  -- 02'S SENTENCE of the upstream length
  pub upstream_law : (x : ℕ) → ground g x ≡ true → upstream_length g outlets x
      ≡ upstream_by g outlets (upstream_length g outlets) x
  unfolding upstream_length
  upstream_law x v = go (is_headwater g outlets x) refl
    where
      grown : reach squares (forest g outlets x)
          ≡ reach squares (grow (inflows g) (is_outlet g outlets) (forest g outlets) (inflows g x))
      grown = ap (reach squares) (forest_equation g a h outlets x v)

      no_reach : (f : Forest Dir) → size f ≡ 0 → reach squares f ≡ counts 0 0
      no_reach bare e = refl
      no_reach (tree c s above rest) e = absurd (omega (arith, e))

      go : (b : Bool) → is_headwater g outlets x ≡ b → upstream_length g outlets x
          ≡ upstream_by g outlets (upstream_length g outlets) x
      go true e = rw e (no_reach (forest g outlets x)
          (omega (arith, sub_size g a h outlets x v, eqb-true (subaccumulation g outlets x) 1 e)))
      go false e = rw e
          (grown ∙ reach_greatest squares (inflows g) (is_outlet g outlets) (forest g outlets) (inflows g x))

  -- it is 0, or an inflow has it
  pub upstream_attained : (x : ℕ) → ground g x ≡ true
      → (upstream_length g outlets x ≡ counts 0 0) ⊎ LongestInflow g outlets x
  unfolding upstream_length
  upstream_attained x v =
      go (reach_attained squares (inflows g) (is_outlet g outlets) (forest g outlets) (inflows g x))
    where
      grown : reach squares (forest g outlets x)
          ≡ reach squares (grow (inflows g) (is_outlet g outlets) (forest g outlets) (inflows g x))
      grown = ap (reach squares) (forest_equation g a h outlets x v)

      go : (reach squares (grow (inflows g) (is_outlet g outlets) (forest g outlets) (inflows g x)) ≡ counts 0 0)
          ⊎ Reaching squares (inflows g) (is_outlet g outlets) (forest g outlets) (inflows g x)
          → (upstream_length g outlets x ≡ counts 0 0) ⊎ LongestInflow g outlets x
      go (inl e) = inl (grown ∙ e)
      go (inr r) = inr (record {
        cell = r.link.cell;
        step = r.link.step;
        flows = every_in (λ k. next g k.cell ≡ some (record { cell = x; step = k.step })) r.link (inflows g x)
            ((𝓝 g).sound x) r.listed;
        not_outlet = r.not_outlet;
        is_length = grown ∙ r.is_reach;
      })

  -- it has fewer steps than there are cells
  pub upstream_small : (x : ℕ) → ground g x ≡ true
      → (upstream_length g outlets x).straight + (upstream_length g outlets x).diagonal < cell_count g
  unfolding upstream_length
  upstream_small x v = omega (
    arith,
    reach_size (forest g outlets x),
    sub_size g a h outlets x v,
    sub_at_most g a h outlets x v,
  )
