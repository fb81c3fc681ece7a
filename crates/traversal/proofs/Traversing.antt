-- How a traversal goes on: to an outlet, up to a tributary, down to the cell below.
-- Assumes nothing.
use mathlib.Core.Path.{◌≡◌, refl, sym, ap, ◌∙◌, subst}
use mathlib.Core.Bool.{Bool, true, false, true≢false}
use mathlib.Core.Option.{Option, none, some}
use Prim.Native.Nat.{ℕ, ◌+◌, ◌≤◌, ◌<◌}
use native.Mathlib.Omega.{arith}
use native.Mathlib.Decide.{dec_lt}
use Rattle.lists.proofs.Counts.{also, also_same, also_or, also_in, also_not}
use Rattle.lengths.specs.Lengths.{Lengths}
use Rattle.ground.specs.Compass.{Dir, E, SE, S, SW, W, NW, N, NE, opposite, place_of}
use Rattle.ground.specs.Grid.{Link}
use Rattle.ground.specs.Walk.{At}
use Rattle.ground.specs.Subwatershed.{first_outlet}
use Rattle.ground.proofs.Cells.{opposite_twice}
use Rattle.ground.proofs.Network.{first_induct}
use Rattle.moves.specs.Moves.{dir_at}
use Rattle.traversal.specs.Traversal.{Tributary, Traversal, Here}

-- a direction is told by its place
pub at_place : (d : Dir) → dir_at (place_of d) ≡ d
at_place E = refl
at_place SE = refl
at_place S = refl
at_place SW = refl
at_place W = refl
at_place NW = refl
at_place N = refl
at_place NE = refl

place_same : (d e : Dir) → place_of d ≡ place_of e → d ≡ e
place_same d e h = sym (at_place d) ∙ ap dir_at h ∙ at_place e

module _ (next : ℕ → Option (Link Dir)) (outlet : ℕ → Bool) where
  -- a cell flows to one cell only
  pub same_below : (x c : ℕ) (d e : Dir) (y : ℕ) → Tributary next outlet x d y → Tributary next outlet c e y
      → (x ≡ c) × (d ≡ e)
  same_below x c d e y p q =
      let r : ◌≡◌ {A = Option (Link Dir)} (some (record { cell = x; step = opposite d }))
      (some (record { cell = c; step = opposite e })) = sym p.flows ∙ q.flows in
      let u : x ≡ c = ap (λ (o : Option (Link Dir)). elim o [ none ↦ x | some h ↦ h.cell ]) r in
      let v : opposite d ≡ opposite e =
      ap (λ (o : Option (Link Dir)). elim o [ none ↦ d | some h ↦ h.step ]) r in
      (u, sym (opposite_twice d) ∙ ap opposite v ∙ opposite_twice e)

  -- NOTHING is entered yet
  abbrev pub untouched : Traversal next outlet
  untouched = record {
    entered = λ c. false;
    left = λ c. false;
    left_entered = λ c h. h;
    above_left = λ c d y u h. h;
    from_below = λ c d y u h. h;
    has_below = λ c h v. absurd (true≢false (sym h));
    in_order = λ c d e y z u v i h. h;
  }

  -- AN OUTLET is entered that was not
  module _ (t : Traversal next outlet) (o : ℕ) (outlet_is : outlet o ≡ true) (fresh : t.entered o ≡ false) where
    abbrev pub begun : Traversal next outlet
    begun = record {
      entered = also t.entered o;
      left = t.left;
      left_entered = λ c h. also_in t.entered o c (t.left_entered c h);
      above_left = t.above_left;
      from_below = λ c d y u h. also_in t.entered o c (t.from_below c d y u (was y u.not_outlet h));
      has_below = λ c h v. t.has_below c (was c v h) v;
      in_order = λ c d e y z u v i h. t.in_order c d e y z u v i (was z v.not_outlet h);
    }
      where
        was : (c : ℕ) → outlet c ≡ false → also t.entered o c ≡ true → t.entered c ≡ true
        was c v h = also_or (t.entered c ≡ true) t.entered o c h
            (λ q. absurd (true≢false (sym outlet_is ∙ ap outlet (sym q) ∙ v))) (λ w. w)

    pub begun_here : Here next outlet begun o 0
    begun_here = record {
      is_entered = also_same t.entered o o refl;
      not_left = go (t.left o) refl;
      before = λ d y u i. absurd (omega arith);
      ahead = λ d y u i. also_not t.entered o y
          (λ q. true≢false (sym outlet_is ∙ ap outlet (sym q) ∙ u.not_outlet)) (above d y u (t.entered y) refl);
    }
      where
        go : (b : Bool) → t.left o ≡ b → t.left o ≡ false
        go true e = absurd (true≢false (sym (t.left_entered o e) ∙ fresh))
        go false e = e

        above : (d : Dir) (y : ℕ) → Tributary next outlet o d y → (b : Bool) → t.entered y ≡ b → t.entered y ≡ false
        above d y u true e = absurd (true≢false (sym (t.from_below o d y u e) ∙ fresh))
        above d y u false e = e

  module _ (t : Traversal next outlet) (x k : ℕ) (here : Here next outlet t x k) where
    -- UP TO THE NEXT TRIBUTARY
    module _ (d : Dir) (y : ℕ) (trib : Tributary next outlet x d y) (far : k ≤ place_of d)
        (skipped : (e : Dir) (z : ℕ) → Tributary next outlet x e z → k ≤ place_of e → place_of e < place_of d → ⊥) where
      fresh_above : t.entered y ≡ false
      fresh_above = here.ahead d y trib far

      abbrev pub entering : Traversal next outlet
      entering = record {
        entered = also t.entered y;
        left = t.left;
        left_entered = λ c h. also_in t.entered y c (t.left_entered c h);
        above_left = t.above_left;
        from_below = λ c e z u h. also_in t.entered y c
            (also_or (t.entered c ≡ true) t.entered y z h
            (λ q. subst (λ (w : ℕ). t.entered w ≡ true) (same_below x c d e y trib
            (subst (Tributary next outlet c e) q u)
            ).0 here.is_entered) (t.from_below c e z u));
        has_below = λ c h v. also_or ((w : ℕ) × (e : Dir) × Tributary next outlet w e c) t.entered y c h
            (λ q. (x, d, subst (Tributary next outlet x d) (sym q) trib)) (λ w. t.has_below c w v);
        in_order = λ c e f z w u v i h. also_or (t.left z ≡ true) t.entered y w h
            (λ q. order c e f z u (subst (Tributary next outlet c f) q v) i) (t.in_order c e f z w u v i);
      }
        where
          order : (c : ℕ) (e f : Dir) (z : ℕ) → Tributary next outlet c e z → Tributary next outlet c f y
              → place_of e < place_of f → t.left z ≡ true
          order c e f z u v i =
              let s = same_below x c d f y trib v in
              let p : place_of d ≡ place_of f = ap place_of s.1 in
              let w : Tributary next outlet x e z = subst (λ (a : ℕ). Tributary next outlet a e z) (sym s.0) u in
              elim (dec_lt (place_of e) k) [
                | yes h ↦ here.before e z w h
                | no h ↦ absurd (skipped e z w (omega arith) (omega arith))
              ]

      pub entering_here : Here next outlet entering y 0
      entering_here = record {
        is_entered = also_same t.entered y y refl;
        not_left = go (t.left y) refl;
        before = λ e z u i. absurd (omega arith);
        ahead = λ e z u i. also_not t.entered y z (λ q. self e z u q) (above e z u (t.entered z) refl);
      }
        where
          go : (b : Bool) → t.left y ≡ b → t.left y ≡ false
          go true e = absurd (true≢false (sym (t.left_entered y e) ∙ fresh_above))
          go false e = e

          self : (e : Dir) (z : ℕ) → Tributary next outlet y e z → z ≡ y → ⊥
          self e z u q =
              let s = same_below x y d e y trib (subst (Tributary next outlet y e) q u) in
              true≢false (sym here.is_entered ∙ ap t.entered s.0 ∙ fresh_above)

          above : (e : Dir) (z : ℕ) → Tributary next outlet y e z → (b : Bool) → t.entered z ≡ b
              → t.entered z ≡ false
          above e z u true f = absurd (true≢false (sym (t.from_below y e z u f) ∙ fresh_above))
          above e z u false f = f

    -- DOWN: no tributary is ahead, and the cell is left
    module _ (over : (e : Dir) (z : ℕ) → Tributary next outlet x e z → k ≤ place_of e → ⊥) where
      pub all_left : (e : Dir) (z : ℕ) → Tributary next outlet x e z → t.left z ≡ true
      all_left e z u = elim (dec_lt (place_of e) k) [
        | yes h ↦ here.before e z u h
        | no h ↦ absurd (over e z u (omega arith))
      ]

      abbrev pub leaving : Traversal next outlet
      leaving = record {
        entered = t.entered;
        left = also t.left x;
        left_entered = λ c h. also_or (t.entered c ≡ true) t.left x c h
            (λ q. subst (λ (w : ℕ). t.entered w ≡ true) (sym q) here.is_entered) (t.left_entered c);
        above_left = λ c e z u h. also_in t.left x z (also_or (t.left z ≡ true) t.left x c h
            (λ q. all_left e z (subst (λ (w : ℕ). Tributary next outlet w e z) q u)) (t.above_left c e z u));
        from_below = t.from_below;
        has_below = t.has_below;
        in_order = λ c e f z w u v i h. also_in t.left x z (t.in_order c e f z w u v i h);
      }

      module _ (p : ℕ) (s : Dir) (is_next : next x ≡ some (record { cell = p; step = s })) (inner : outlet x ≡ false)
          (one_each_lem : (d : Dir) (y z : ℕ) → Tributary next outlet p d y → Tributary next outlet p d z → y ≡ z) where
        own : Tributary next outlet p (opposite s) x
        own = record {
          flows = is_next ∙ ap (λ (d : Dir). some (record { cell = p; step = d })) (sym (opposite_twice s));
          not_outlet = inner;
        }

        pub leaving_here : Here next outlet leaving p (place_of (opposite s) + 1)
        leaving_here = record {
          is_entered = t.from_below p (opposite s) x own here.is_entered;
          not_left = also_not t.left x p (λ q. self q) (go (t.left p) refl);
          before = λ e y u i. earlier e y u i;
          ahead = λ e y u i. later e y u i (t.entered y) refl;
        }
          where
            self : p ≡ x → ⊥
            self q = true≢false (sym (all_left (opposite s) x
                (subst (λ (w : ℕ). Tributary next outlet w (opposite s) x) q own)) ∙ here.not_left)

            go : (b : Bool) → t.left p ≡ b → t.left p ≡ false
            go true e = absurd (true≢false (sym (t.above_left p (opposite s) x own e) ∙ here.not_left))
            go false e = e

            earlier : (e : Dir) (y : ℕ) → Tributary next outlet p e y → place_of e < place_of (opposite s) + 1
                → also t.left x y ≡ true
            earlier e y u i = elim (dec_lt (place_of e) (place_of (opposite s))) [
              | yes h ↦ also_in t.left x y (t.in_order p e (opposite s) y x u own h here.is_entered)
              | no h ↦ subst (λ (w : ℕ). also t.left x w ≡ true)
                  (one_each_lem e x y (subst (λ (d : Dir). Tributary next outlet p d x)
                  (place_same (opposite s) e (omega arith)) own) u) (also_same t.left x x refl)
            ]

            later : (e : Dir) (y : ℕ) → Tributary next outlet p e y → place_of (opposite s) + 1 ≤ place_of e → (b : Bool)
                → t.entered y ≡ b → t.entered y ≡ false
            later e y u i true f = absurd (true≢false
                (sym (t.in_order p (opposite s) e x y own u (omega arith) f) ∙ here.not_left))
            later e y u i false f = f

  -- ALL IS LEFT that flows to an outlet, where every outlet is
  pub left_all : (𝓛 : Lengths Dir) (t : Traversal next outlet) → ((o : ℕ) → outlet o ≡ true → t.left o ≡ true)
      → (n c : ℕ) (b : At 𝓛.Len) → first_outlet 𝓛 next outlet n c ≡ some b → t.left c ≡ true
  left_all 𝓛 t all = first_induct 𝓛 next outlet (λ n c b. t.left c ≡ true) (λ n c v. all c v)
      (λ n c k b v f e ih. t.above_left k.cell (opposite k.step) c (record {
        flows = f ∙ ap (λ (d : Dir). some (record { cell = k.cell; step = d })) (sym (opposite_twice k.step));
        not_outlet = v;
      }) ih)
