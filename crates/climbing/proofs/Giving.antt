-- What the grids hold, step by step: an outlet is begun, a tributary entered, a cell left.
-- Assumes nothing.
use mathlib.Core.Path.{◌≡◌, refl, sym, ap, ap₂, ◌∙◌, subst}
use mathlib.Core.Bool.{Bool, true, false, cond, true≢false}
use mathlib.Core.List.{List}
use mathlib.Core.Option.{some}
use Prim.Native.Nat.{ℕ, ◌+◌, ◌%◌, ◌≤◌, ◌<◌, ◌^◌}
use native.Mathlib.Omega.{arith}
use lib.ListN.{length, get_or, set}
use lib.Seq.{get_or-set_same, get_or-set_other}
use lib.Dec.{eqb}
use borrow.Author.Tests.{eqb-true, eqb-false}
use Rattle.lists.proofs.Counts.{also, also_same, also_or, also_out}
use Rattle.lengths.specs.declared.Length.{Length}
use Rattle.lengths.specs.Rule.{counts, plus_step, is_shorter}
use Rattle.ground.specs.Compass.{Dir, opposite, place_of, step_of}
use Rattle.ground.specs.Grid.{Grid, cell_count, ground, next}
use Rattle.ground.specs.Accumulation.{agrees}
use Rattle.ground.specs.Subwatershed.{is_outlet}
use Rattle.ground.specs.FlowLengths.{upstream_length, arrival}
use Rattle.ground.proofs.Cells.{opposite_twice, ground_within}
use Rattle.ground.proofs.GridNetwork.{network, next_back}
use Rattle.ground.proofs.FlowLengths.{arrival_outlet, arrival_up, arrival_small, upstream_small}
use Rattle.answers.specs.FlowLengths.{LengthGrids, length_grids}
use Rattle.traversal.specs.Traversal.{Tributary, Traversal, Here}
use Rattle.traversal.proofs.Traversing.{same_below, untouched, begun, entering, leaving, all_left}
use Rattle.lengthgrids.specs.Grids.{length_below, length_above}
use Rattle.climbing.specs.Giving.{down_at, up_at, Arrived, Given, GreatestLeft}
use Rattle.lengthgrids.specs.Grids.{GivesUp}
use Rattle.climbing.proofs.Greatest.{greatest_none, greatest_other, greatest_longer, greatest_stays}
use Rattle.climbing.proofs.Greatest.{greatest_all}

-- two places are the same or not
places : (P : Type 0) (x y : ℕ) → (x ≡ y → P) → ((x ≡ y → ⊥) → P) → P
places P x y one other = go (eqb x y) refl
  where
    go : (b : Bool) → eqb x y ≡ b → P
    go true e = one (eqb-true x y e)
    go false e = other (eqb-false x y e)

module _ (g : Grid) (outlets : List ℕ) where
  abbrev Trib : ℕ → Dir → ℕ → Type 0
  Trib = Tributary (next g) (is_outlet g outlets)

  abbrev Tour : Type 0
  Tour = Traversal (next g) (is_outlet g outlets)

  -- a neighbour is one cell
  pub one_each_lem : (p : ℕ) (d : Dir) (y z : ℕ) → Trib p d y → Trib p d z → y ≡ z
  one_each_lem p d y z u v =
      let e : some y ≡ some z = sym (next_back g y (record { cell = p; step = opposite d }) u.flows)
      ∙ next_back g z (record { cell = p; step = opposite d }) v.flows in
      cc

  -- a cell that is entered has ground
  pub entered_ground : ((o : ℕ) → is_outlet g outlets o ≡ true → ground g o ≡ true) → (t : Tour) (c : ℕ)
      → t.entered c ≡ true → ground g c ≡ true
  entered_ground placed t c e = go (is_outlet g outlets c) refl
    where
      go : (b : Bool) → is_outlet g outlets c ≡ b → ground g c ≡ true
      go true o = placed c o
      go false o =
          let b = t.has_below c e o in
          (network g).solid c (record { cell = b.0; step = opposite b.1 }) b.2.flows

  trib_inside : {p : ℕ} {d : Dir} {y : ℕ} → Trib p d y → y < cell_count g
  trib_inside {p} {d} {y} u =
      ground_within g y ((network g).solid y (record { cell = p; step = opposite d }) u.flows)

  -- ---- BEGINNING

  pub given_none : (lent : LengthGrids) → ((c : ℕ) → c < cell_count g → get_or lent.down_straight c 0 ≡ 0)
      → ((c : ℕ) → c < cell_count g → is_outlet g outlets c ≡ false → get_or lent.down_diagonal c 0 ≡ 0)
      → ((c : ℕ) → is_outlet g outlets c ≡ true → get_or lent.down_diagonal c 0 ≡ 2 ^ 31)
      → ((c : ℕ) → c < cell_count g → up_at lent c ≡ counts 0 0)
      → Given g outlets (untouched (next g) (is_outlet g outlets)) lent
  given_none lent ds dd m u = record {
    arrived = λ c e. absurd (true≢false (sym e));
    no_straight = λ c i e. ds c i;
    no_diagonal = λ c i e n. dd c i n;
    marked = m;
    unmarked = λ c i n. omega (arith, dd c i n);
    reached = λ c i. greatest_none g outlets (λ y. false) c (up_at lent c) (λ d y v w. true≢false (sym w)) (u c i);
  }

  module _ {t : Tour} {lent : LengthGrids} (v : Given g outlets t lent) where
    -- ---- AN OUTLET IS BEGUN
    pub given_begun : (o : ℕ) (outlet_is : is_outlet g outlets o ≡ true) (fresh : t.entered o ≡ false) → o < cell_count g
        → Given g outlets (begun (next g) (is_outlet g outlets) t o outlet_is fresh) lent
    given_begun o outlet_is fresh inside = record {
      arrived = λ c e. also_or (Arrived g outlets lent c) t.entered o c e
          (λ q. subst (Arrived g outlets lent) (sym q) at_o)
          (v.arrived c);
      no_straight = λ c i e. v.no_straight c i (also_out t.entered o c e);
      no_diagonal = λ c i e n. v.no_diagonal c i (also_out t.entered o c e) n;
      marked = v.marked;
      unmarked = v.unmarked;
      reached = v.reached;
    }
      where
        none : down_at lent o ≡ counts 0 0
        none = ap₂ counts (v.no_straight o inside fresh) (ap (λ (n : ℕ). n % 2 ^ 31) (v.marked o outlet_is))

        at_o : Arrived g outlets lent o
        at_o = record {
          outlet = o;
          arrives = arrival_outlet g outlets o outlet_is
              ∙ ap (λ (l : Length). some (record { cell = o; len = l })) (sym none);
        }

    -- ---- AN OUTLET IS LEFT
    pub given_left : {x k : ℕ} (here : Here (next g) (is_outlet g outlets) t x k)
        (over : (e : Dir) (z : ℕ) → Trib x e z → k ≤ place_of e → ⊥) → is_outlet g outlets x ≡ true
        → Given g outlets (leaving (next g) (is_outlet g outlets) t x k here over) lent
    given_left {x} {k} here over outlet_is = record {
      arrived = v.arrived;
      no_straight = v.no_straight;
      no_diagonal = v.no_diagonal;
      marked = v.marked;
      unmarked = v.unmarked;
      reached = λ c i. greatest_other g outlets (v.reached c i) x
          (λ d u. true≢false (sym outlet_is ∙ u.not_outlet));
    }

  -- where an accumulation agrees, and the grids have room
  module _ (a : List ℕ) (h : agrees g a ≡ true) (few : cell_count g ≤ 2 ^ 24) {t : Tour} {ds dd us ud : List ℕ}
      (v : Given g outlets t (length_grids ds dd us ud)) {x k : ℕ} (here : Here (next g) (is_outlet g outlets) t x k)
    where
      abbrev lent : LengthGrids
      lent = length_grids ds dd us ud

      at_x : Arrived g outlets lent x
      at_x = v.arrived x here.is_entered

      -- ---- UP TO A TRIBUTARY
      module _ {d : Dir} {y : ℕ} (u : Trib x d y) (far : k ≤ place_of d)
          (skipped : (e : Dir) (z : ℕ) → Trib x e z → k ≤ place_of e → place_of e < place_of d → ⊥) where
        abbrev own : Length
        own = plus_step (length_below ds dd x) (step_of (opposite d))

        arrives_y : arrival g outlets y ≡ some (record { cell = at_x.outlet; len = own })
        arrives_y = arrival_up g a h outlets y (record { cell = x; step = opposite d })
            (record { cell = at_x.outlet; len = length_below ds dd x }) u.not_outlet u.flows at_x.arrives

        own_small : own.straight + own.diagonal ≤ 2 ^ 24
        own_small = omega
            (arith, arrival_small g outlets y (record { cell = at_x.outlet; len = own }) arrives_y)

        fresh : t.entered y ≡ false
        fresh = here.ahead d y u far

        module _ (room-s : cell_count g ≤ length ds) (room-d : cell_count g ≤ length dd) where
          abbrev new : LengthGrids
          new = length_grids (set ds y own.straight) (set dd y own.diagonal) us ud

          inside : y < cell_count g
          inside = trib_inside u

          straight_y : get_or (set ds y own.straight) y 0 ≡ own.straight
          straight_y = get_or-set_same ds y own.straight 0 (omega (arith, inside))

          diagonal_y : get_or (set dd y own.diagonal) y 0 ≡ own.diagonal
          diagonal_y = get_or-set_same dd y own.diagonal 0 (omega (arith, inside))

          straight_other : (c : ℕ) → (c ≡ y → ⊥) → get_or (set ds y own.straight) c 0 ≡ get_or ds c 0
          straight_other c n = get_or-set_other ds y c own.straight 0 n

          diagonal_other : (c : ℕ) → (c ≡ y → ⊥) → get_or (set dd y own.diagonal) c 0 ≡ get_or dd c 0
          diagonal_other c n = get_or-set_other dd y c own.diagonal 0 n

          pub given_up : Given g outlets (entering (next g) (is_outlet g outlets) t x k here d y u far skipped)
              (length_grids (set ds y own.straight) (set dd y own.diagonal) us ud)
          given_up = record {
            arrived = λ c e. places (Arrived g outlets new c) c y (λ q. subst (Arrived g outlets new) (sym q) at_y)
                (λ n. also_or (Arrived g outlets new c) t.entered y c e (λ q. absurd (n q))
                (λ w. other c n (v.arrived c w)));
            no_straight = λ c i e. straight_other c (apart c e) ∙ v.no_straight c i (also_out t.entered y c e);
            no_diagonal = λ c i e n. diagonal_other c (apart c e) ∙ v.no_diagonal c i (also_out t.entered y c e) n;
            marked = λ c m. diagonal_other c (λ q. true≢false (sym m ∙ ap (is_outlet g outlets) q ∙ u.not_outlet))
                ∙ v.marked c m;
            unmarked = λ c i n. places (get_or (set dd y own.diagonal) c 0 < 2 ^ 31) c y
                (λ q. rw q (omega (arith, diagonal_y, own_small)))
                (λ m. omega (arith, diagonal_other c m, v.unmarked c i n));
            reached = v.reached;
          }
            where
              apart : (c : ℕ) → also t.entered y c ≡ false → c ≡ y → ⊥
              apart c e q = true≢false (sym (also_same t.entered y c q) ∙ e)

              at_y : Arrived g outlets new y
              at_y =
                  let s : own.diagonal ≡ get_or (set dd y own.diagonal) y 0 % 2 ^ 31 = omega
                  (arith, diagonal_y, own_small) in
                  record {
                    outlet = at_x.outlet;
                    arrives = arrives_y
                        ∙ ap₂ (λ (m n : ℕ). some (record { cell = at_x.outlet; len = counts m n })) (sym straight_y) s;
                  }

              other : (c : ℕ) → (c ≡ y → ⊥) → Arrived g outlets lent c → Arrived g outlets new c
              other c n r = record {
                outlet = r.outlet;
                arrives = r.arrives ∙ ap₂ (λ (m k : ℕ). some
                    (record { cell = r.outlet; len = counts m (k % 2 ^ 31) }))
                    (sym (straight_other c n)) (sym (diagonal_other c n));
              }

      -- ---- DOWN TO THE CELL BELOW
      module _ (over : (e : Dir) (z : ℕ) → Trib x e z → k ≤ place_of e → ⊥) {p : ℕ} {s : Dir}
          (to : next g x ≡ some (record { cell = p; step = s })) (inner : is_outlet g outlets x ≡ false) where
        x_ground : ground g x ≡ true
        x_ground = (network g).solid x (record { cell = p; step = s }) to

        x_inside : x < cell_count g
        x_inside = ground_within g x x_ground

        p_inside : p < cell_count g
        p_inside = ground_within g p ((network g).lands x (record { cell = p; step = s }) to)

        pub up_is : length_above us ud x ≡ upstream_length g outlets x
        up_is = greatest_all g outlets a h (v.reached x x_inside) x_ground
            (all_left (next g) (is_outlet g outlets) t x k here over)

        pub up_small : get_or us x 0 + get_or ud x 0 < 2 ^ 24
        up_small = omega (
          arith,
          ap (λ (l : Length). l.straight) up_is,
          ap (λ (l : Length). l.diagonal) up_is,
          upstream_small g a h outlets x x_ground,
        )

        -- x as a tributary
        back : opposite (opposite s) ≡ s
        back = opposite_twice s

        it : Trib p (opposite s) x
        it = record {
          flows = to ∙ ap (λ (e : Dir). some (record { cell = p; step = e })) (sym back);
          not_outlet = inner;
        }

        abbrev longer : Length
        longer = plus_step (length_above us ud x) (step_of s)

        longer_is : longer ≡ plus_step (upstream_length g outlets x) (step_of (opposite (opposite s)))
        longer_is = ap (λ (l : Length). plus_step l (step_of s)) up_is
            ∙ ap (λ (e : Dir). plus_step (upstream_length g outlets x) (step_of e)) (sym back)

        one : (e : Dir) → Trib p e x → e ≡ opposite s
        one e w = (same_below (next g) (is_outlet g outlets) p p e (opposite s) x w it).1

        off : (c : ℕ) → (c ≡ p → ⊥) → (e : Dir) → Trib c e x → ⊥
        off c n e w = n (same_below (next g) (is_outlet g outlets) c p e (opposite s) x w it).0

        abbrev now_left : ℕ → Bool
        now_left = also t.left x

        -- it is longer, and taken
        taken : cell_count g ≤ length us → cell_count g ≤ length ud → is_shorter (length_above us ud p) longer ≡ true
            → (c : ℕ) → c < cell_count g → GreatestLeft g outlets now_left c
            (length_above (set us p longer.straight) (set ud p longer.diagonal) c)
        taken room-s room-d e c i = places (GreatestLeft g outlets now_left c (at c)) c p
            (λ q. subst (λ (z : ℕ). GreatestLeft g outlets now_left z (at z)) (sym q)
            (subst (GreatestLeft g outlets now_left p) (sym longer_is ∙ sym at_p)
            (greatest_longer g outlets (v.reached p p_inside) x (opposite s) it one
            (ap (is_shorter (length_above us ud p)) (sym longer_is) ∙ e))))
            (λ n. subst (GreatestLeft g outlets now_left c) (sym (at_other c n))
            (greatest_other g outlets (v.reached c i) x (off c n)))
          where
            at : ℕ → Length
            at c = length_above (set us p longer.straight) (set ud p longer.diagonal) c

            at_p : at p ≡ longer
            at_p = ap₂ counts (get_or-set_same us p longer.straight 0 (omega (arith, p_inside)))
                (get_or-set_same ud p longer.diagonal 0 (omega (arith, p_inside)))

            at_other : (c : ℕ) → (c ≡ p → ⊥) → at c ≡ length_above us ud c
            at_other c n = ap₂ counts (get_or-set_other us p c longer.straight 0 n)
                (get_or-set_other ud p c longer.diagonal 0 n)

        -- it is not, and nothing changes
        stays : is_shorter (length_above us ud p) longer ≡ false → (c : ℕ) → c < cell_count g
            → GreatestLeft g outlets now_left c (length_above us ud c)
        stays e c i = places (GreatestLeft g outlets now_left c (length_above us ud c)) c p
            (λ q. subst (λ (z : ℕ). GreatestLeft g outlets now_left z (length_above us ud z)) (sym q)
            (greatest_stays g outlets (v.reached p p_inside) x (opposite s) it one
            (ap (is_shorter (length_above us ud p)) (sym longer_is) ∙ e)))
            (λ n. greatest_other g outlets (v.reached c i) x (off c n))

        pub given_down : {us' ud' : List ℕ} → cell_count g ≤ length us → cell_count g ≤ length ud
            → GivesUp x p (step_of s) us ud us' ud'
            → Given g outlets (leaving (next g) (is_outlet g outlets) t x k here over) (length_grids ds dd us' ud')
        given_down {us'} {ud'} room-s room-d f = record {
          arrived = λ c e. record { outlet = (v.arrived c e).outlet; arrives = (v.arrived c e).arrives };
          no_straight = v.no_straight;
          no_diagonal = v.no_diagonal;
          marked = v.marked;
          unmarked = v.unmarked;
          reached = go (is_shorter (length_above us ud p) longer) refl;
        }
          where
            go : (b : Bool) → is_shorter (length_above us ud p) longer ≡ b → (c : ℕ) → c < cell_count g
                → GreatestLeft g outlets now_left c (length_above us' ud' c)
            go true e =
                let m : us' ≡ set us p longer.straight = f.straights ∙ ap
                (λ (b : Bool). cond b (set us p longer.straight) us) e in
                let n : ud' ≡ set ud p longer.diagonal = f.diagonals ∙ ap
                (λ (b : Bool). cond b (set ud p longer.diagonal) ud) e in
                rw (m, n) (taken room-s room-d e)
            go false e =
                let m : us' ≡ us = f.straights ∙ ap (λ (b : Bool). cond b (set us p longer.straight) us) e in
                let n : ud' ≡ ud = f.diagonals ∙ ap (λ (b : Bool). cond b (set ud p longer.diagonal) ud) e in
                rw (m, n) (stays e)
