-- The two lengths of a cell, added up: they never fall along a walk, and some cell above has the sum as its walk's
-- length. Assumes nothing.
use mathlib.Core.Path.{◌≡◌, refl, sym, ap, ap₂, ◌∙◌, subst}
use mathlib.Core.Bool.{Bool, true, false, true≢false}
use mathlib.Core.Logic.{◌⊎◌, inl, inr}
use mathlib.Core.List.{List, [], ◌∷◌}
use mathlib.Core.Option.{Option, none, some}
use Prim.Native.Nat.{ℕ, zero, suc, ◌+◌, ◌≤◌}
use native.Mathlib.Omega.{arith}
use Rattle.lengths.specs.declared.Length.{Length}
use Rattle.lengths.specs.declared.Step.{Step}
use Rattle.lengths.specs.declared.Step.TheVariants.{Straight, Diagonal}
use Rattle.lengths.specs.Rule.{counts, plus_step, is_shorter}
use Rattle.lengths.specs.Lengths.{Lengths}
use Rattle.lengths.proofs.Laws.{irrefl, sum_keeps}
use Rattle.lists.specs.Lists.{In}
use Rattle.ground.specs.Compass.{Dir, step_of, squares}
use Rattle.ground.specs.Grid.{Grid, Link, cell_count, ground, next}
use Rattle.ground.specs.Walk.{At}
use Rattle.ground.specs.Accumulation.{agrees}
use Rattle.ground.specs.Subwatershed.{walked, first_outlet, is_outlet, InSubwatershed, path_from}
use Rattle.ground.specs.FlowLengths.{through_length, upstream_length, arrival, lengths_by, flow_lengths}
use Rattle.ground.proofs.Walks.{walked_out, walked_next}
use Rattle.ground.proofs.Network.{first_more, first_induct}
use Rattle.ground.proofs.Subwatersheds.{first_meets}
use Rattle.ground.proofs.Ground.{squares_laws, 𝓝}
use Rattle.ground.proofs.FlowLengths.{
  step_counts,
  LongestInflow,
  arrival_outlet,
  arrival_listed,
  arrival_up,
  upstream_bound,
  upstream_attained,
}

-- ---- the cells of a path

module _ {S : Type 0} (𝓛 : Lengths S) (next : ℕ → Option (Link S)) (outlet : ℕ → Bool) where
  open 𝓛 use {Len}

  -- a cell is on its own path,
  pub path_begins : (n c : ℕ) → In c (walked next outlet n c)
  unfolding walked
  path_begins zero c = inl refl
  path_begins (suc n) c = go (outlet c) refl (next c) refl
    where
      go : (b : Bool) → outlet c ≡ b → (t : Option (Link S)) → next c ≡ t → In c (walked next outlet (suc n) c)
      go true e t f = rw (e, walked) (inl refl)
      go false e none f = rw (e, f, walked) (inl refl)
      go false e (some h) f = rw (e, f, walked) (inl refl)

  -- so is the outlet where it arrives,
  pub path_ends : (n c : ℕ) (b : At Len) → first_outlet 𝓛 next outlet n c ≡ some b
      → In b.cell (walked next outlet n c)
  path_ends = first_induct 𝓛 next outlet (λ n c b. In b.cell (walked next outlet n c))
      (λ n c v. path_begins n c)
      (λ n c h b v f e ih. subst (In b.cell) (sym (walked_next next outlet c v n h f)) (inr ih))

  -- and with a cell that is no outlet the one that it flows to
  pub path_next : (y : ℕ) (k : Link S) → outlet y ≡ false → next y ≡ some k → (n c : ℕ) (b : At Len)
      → first_outlet 𝓛 next outlet n c ≡ some b → In y (walked next outlet n c) → In k.cell (walked next outlet n c)
  path_next y k u g = first_induct 𝓛 next outlet
      (λ n c b. In y (walked next outlet n c) → In k.cell (walked next outlet n c))
      (λ n c v i. last c v (subst (In y) (walked_out next outlet n c v) i))
      (λ n c h b v f e ih i. subst (In k.cell) (sym (walked_next next outlet c v n h f))
      (inr (on n c h f ih (subst (In y) (walked_next next outlet c v n h f) i))))
    where
      last : {A : Type 0} (c : ℕ) → outlet c ≡ true → In y (c ∷ []) → A
      last c v (inl q) = absurd (true≢false (sym v ∙ ap outlet (sym q) ∙ u))
      last c v (inr i) = absurd i

      on : (n c : ℕ) (h : Link S) → next c ≡ some h
          → (In y (walked next outlet n h.cell) → In k.cell (walked next outlet n h.cell))
          → In y (c ∷ walked next outlet n h.cell) → In k.cell (walked next outlet n h.cell)
      on n c h f ih (inl q) =
          let p : some k ≡ some h = sym g ∙ ap next q ∙ f in
          let r : k ≡ h = cc in
          subst (λ (l : Link S). In l.cell (walked next outlet n h.cell)) (sym r) (path_begins n h.cell)
      on n c h f ih (inr m) = ih m

-- ---- lengths added up

abbrev added : Length → Length → Length
added l m = through_length (record { down = l; up = m })

-- a step may be added to either
added_step : (l m : Length) (s : Step) → added (plus_step l s) m ≡ added l (plus_step m s)
added_step l m Straight = let e : l.straight + 1 + m.straight ≡ l.straight + (m.straight + 1) = omega arith in rw e
added_step l m Diagonal = let e : l.diagonal + 1 + m.diagonal ≡ l.diagonal + (m.diagonal + 1) = omega arith in rw e

added_none : (l : Length) → added l (counts 0 0) ≡ l
added_none l = ap₂ counts (omega arith) (omega arith)

none_added : (l : Length) → added (counts 0 0) l ≡ l
none_added l = ap₂ counts (omega arith) (omega arith)

-- a cell above c, or c itself: nothing lies above it, c is on its path, and its walk is as long as the lengths of c
-- add up to
pub record HeadAbove (g : Grid) (outlets : List ℕ) (c : ℕ) (b : At Length) : Type 0 where
  pub head : ℕ
  pub none_above : upstream_length g outlets head ≡ counts 0 0
  pub on_path : In c (path_from g outlets head)
  pub arrives : arrival g outlets head
      ≡ some (record { cell = b.cell; len = through_length (flow_lengths g outlets c) })

module _ (g : Grid) (outlets : List ℕ) where
  -- the lengths of a cell that arrives
  pub flow_at : (c : ℕ) (b : At Length) → arrival g outlets c ≡ some b
      → flow_lengths g outlets c ≡ record { down = b.len; up = upstream_length g outlets c }
  unfolding flow_lengths
  flow_at c b e = ap (lengths_by g outlets c) e

  -- and of one that is in the subwatershed of no outlet
  pub flow_outside : (c : ℕ) → ((p : ℕ) → is_outlet g outlets p ≡ true → InSubwatershed g outlets p c → ⊥)
      → flow_lengths g outlets c ≡ record { down = counts 0 0; up = counts 0 0 }
  unfolding flow_lengths arrival
  flow_outside c out = go (arrival g outlets c) refl
    where
      go : (r : Option (At Length)) → arrival g outlets c ≡ r
          → flow_lengths g outlets c ≡ record { down = counts 0 0; up = counts 0 0 }
      go none e = ap (lengths_by g outlets c) e
      go (some b) e = absurd (out b.cell (arrival_listed g outlets c b e)
          (first_meets squares (next g) (is_outlet g outlets) (cell_count g) c b e))

  abbrev pub through : ℕ → Length
  through c = through_length (flow_lengths g outlets c)

  through_at : (c : ℕ) (b : At Length) → arrival g outlets c ≡ some b
      → through c ≡ added b.len (upstream_length g outlets c)
  through_at c b e = ap through_length (flow_at c b e)

  -- at an outlet they are its upstream length
  pub through_outlet : (o : ℕ) → is_outlet g outlets o ≡ true → through o ≡ upstream_length g outlets o
  through_outlet o e = through_at o (record { cell = o; len = counts 0 0 }) (arrival_outlet g outlets o e)
      ∙ none_added (upstream_length g outlets o)

  -- what arrives at ground is ground
  pub arrival_ground : (c : ℕ) (b : At Length) → arrival g outlets c ≡ some b → ground g b.cell ≡ true
      → ground g c ≡ true
  unfolding arrival
  arrival_ground = first_induct squares (next g) (is_outlet g outlets)
      (λ n c b. ground g b.cell ≡ true → ground g c ≡ true) (λ n c v w. w)
      (λ n c k b v f e ih w. (𝓝 g).solid c k f) (cell_count g)

module _ (g : Grid) (a : List ℕ) (h : agrees g a ≡ true) (outlets : List ℕ) where
  -- THEY NEVER FALL: in one step,
  through_rises : (y : ℕ) (k : Link Dir) (b : At Length) → is_outlet g outlets y ≡ false → next g y ≡ some k
      → arrival g outlets k.cell ≡ some b → is_shorter (through g outlets k.cell) (through g outlets y) ≡ false
  through_rises y k b u f e =
      ap₂ is_shorter (through_at g outlets k.cell b e)
      (through_at g outlets y (record { cell = b.cell; len = plus_step b.len (step_of k.step) })
      (arrival_up g a h outlets y k b u f e)
      ∙ added_step b.len (upstream_length g outlets y) (step_of k.step))
      ∙ sum_keeps b.len (upstream_length g outlets k.cell)
      (plus_step (upstream_length g outlets y) (step_of k.step))
      ∙ upstream_bound g a h outlets y k f u

  -- and along a path
  pub through_path : (c : ℕ) (b : At Length) → arrival g outlets c ≡ some b → (x : ℕ) → In x (path_from g outlets c)
      → is_shorter (through g outlets x) (through g outlets c) ≡ false
  unfolding arrival
  through_path c b e x i = first_induct squares (next g) (is_outlet g outlets)
      (λ n c b. n ≤ cell_count g → In x (walked (next g) (is_outlet g outlets) n c)
      → is_shorter (through g outlets x) (through g outlets c) ≡ false)
      (λ n c v l i. last c (subst (In x) (walked_out (next g) (is_outlet g outlets) n c v) i))
      (λ n c k b v f e ih l i. on n c k b v f
      (first_more squares (next g) (is_outlet g outlets) n (cell_count g) k.cell b (omega arith) e)
      (ih (omega arith)) (subst (In x) (walked_next (next g) (is_outlet g outlets) c v n k f) i))
      (cell_count g) c b e (omega arith) i
    where
      same : (c : ℕ) → x ≡ c → is_shorter (through g outlets x) (through g outlets c) ≡ false
      same c q = subst (λ (z : ℕ). is_shorter (through g outlets z) (through g outlets c) ≡ false) (sym q)
          (irrefl squares squares_laws (through g outlets c))

      last : (c : ℕ) → In x (c ∷ []) → is_shorter (through g outlets x) (through g outlets c) ≡ false
      last c (inl q) = same c q
      last c (inr i) = absurd i

      on : (n c : ℕ) (k : Link Dir) (b : At Length) → is_outlet g outlets c ≡ false → next g c ≡ some k
          → arrival g outlets k.cell ≡ some b
          → (In x (walked (next g) (is_outlet g outlets) n k.cell)
          → is_shorter (through g outlets x) (through g outlets k.cell) ≡ false)
          → In x (c ∷ walked (next g) (is_outlet g outlets) n k.cell)
          → is_shorter (through g outlets x) (through g outlets c) ≡ false
      on n c k b v f e ih (inl q) = same c q
      on n c k b v f e ih (inr i) = squares_laws.trans (through g outlets c) (through g outlets k.cell)
          (through g outlets x) (through_rises c k b v f e) (ih i)

  -- SOME CELL ABOVE HAS THE SUM: c itself if nothing lies above it,
  head_here : (c : ℕ) (b : At Length) → arrival g outlets c ≡ some b → upstream_length g outlets c ≡ counts 0 0
      → HeadAbove g outlets c b
  head_here c b e p = record {
    head = c;
    none_above = p;
    on_path = path_begins squares (next g) (is_outlet g outlets) (cell_count g) c;
    arrives = e ∙ ap (λ (l : Length). some (record { cell = b.cell; len = l }))
        (sym (through_at g outlets c b e ∙ ap (added b.len) p ∙ added_none b.len));
  }

  -- else the one that its longest inflow has, whose lengths add up to the same
  head_on : (c : ℕ) (b : At Length) → arrival g outlets c ≡ some b → (r : LongestInflow g outlets c)
      → ((b' : At Length) → arrival g outlets r.cell ≡ some b' → HeadAbove g outlets r.cell b')
      → HeadAbove g outlets c b
  unfolding arrival
  head_on c b e r above = record {
    head = up.head;
    none_above = up.none_above;
    on_path = path_next squares (next g) (is_outlet g outlets) r.cell k r.not_outlet r.flows (cell_count g)
        up.head (record { cell = b.cell; len = through g outlets r.cell }) up.arrives up.on_path;
    arrives = up.arrives ∙ ap (λ (l : Length). some (record { cell = b.cell; len = l })) same;
  }
    where
      k : Link Dir
      k = record { cell = c; step = r.step }

      there : At Length
      there = record { cell = b.cell; len = plus_step b.len (step_of r.step) }

      came : arrival g outlets r.cell ≡ some there
      came = arrival_up g a h outlets r.cell k b r.not_outlet r.flows e

      up : HeadAbove g outlets r.cell there
      up = above there came

      same : through g outlets r.cell ≡ through g outlets c
      same = through_at g outlets r.cell there came
          ∙ added_step b.len (upstream_length g outlets r.cell) (step_of r.step)
          ∙ ap (added b.len) (sym r.is_length) ∙ sym (through_at g outlets c b e)

  abbrev steps_above : ℕ → ℕ
  steps_above c = (upstream_length g outlets c).straight + (upstream_length g outlets c).diagonal

  fewer_above : (c : ℕ) (r : LongestInflow g outlets c) → steps_above c ≡ suc (steps_above r.cell)
  fewer_above c r = ap (λ (l : Length). l.straight + l.diagonal) r.is_length
      ∙ step_counts (upstream_length g outlets r.cell) (step_of r.step)

  head_within : (n c : ℕ) (b : At Length) → steps_above c ≤ n → ground g c ≡ true → arrival g outlets c ≡ some b
      → HeadAbove g outlets c b
  head_within zero c b l v e = go (upstream_attained g a h outlets c v)
    where
      go : (upstream_length g outlets c ≡ counts 0 0) ⊎ LongestInflow g outlets c → HeadAbove g outlets c b
      go (inl p) = head_here c b e p
      go (inr r) = absurd (omega (arith, l, fewer_above c r))
  head_within (suc n) c b l v e = go (upstream_attained g a h outlets c v) (head_within n)
    where
      go : (upstream_length g outlets c ≡ counts 0 0) ⊎ LongestInflow g outlets c
          → ((y : ℕ) (b' : At Length) → steps_above y ≤ n → ground g y ≡ true → arrival g outlets y ≡ some b'
          → HeadAbove g outlets y b')
          → HeadAbove g outlets c b
      go (inl p) ih = head_here c b e p
      go (inr r) ih = head_on c b e r (λ b'. ih r.cell b' (omega (arith, l, fewer_above c r))
          ((𝓝 g).solid r.cell (record { cell = c; step = r.step }) r.flows))

  pub head_above : (c : ℕ) (b : At Length) → arrival g outlets c ≡ some b → ground g b.cell ≡ true
      → HeadAbove g outlets c b
  head_above c b e w = head_within (steps_above c) c b (omega arith) (arrival_ground g outlets c b e w) e
