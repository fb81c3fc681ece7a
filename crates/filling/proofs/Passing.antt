-- One step down, and what it keeps of the packed words.
-- Assumes nothing.
use mathlib.Core.Path.{◌≡◌, refl, sym, ap, ◌∙◌, subst}
use mathlib.Core.Bool.{Bool, true, false, not, true≢false}
use mathlib.Core.List.{List, [], ◌∷◌}
use mathlib.Core.Option.{Option, none, some}
use Prim.Native.Nat.{ℕ, suc, ◌+◌, ◌-◌, ◌*◌, ◌≤◌, ◌<◌, ◌^◌}
use native.Mathlib.Omega.{arith}
use lib.Dec.{eqb}
use borrow.Author.Tests.{eqb-true, eqb-false, not-false}
use Rattle.lists.specs.Lists.{Every}
use Rattle.ground.specs.Grid.{Link}
use Rattle.ground.specs.Accumulation.{total}
use Rattle.ground.proofs.Sums.{one_other}
use Rattle.ground.proofs.Network.{Network, times}
use Rattle.ground.proofs.Agreement.{Agrees, no_outlet, agrees_at_most}
use Rattle.filling.specs.Cut.{cut_next, cut_ups}
use Rattle.filling.specs.Packed.{one_each, waiting, arrived, Tally, Packed, Walking}
use Rattle.lists.proofs.Counts.{also, also_same, also_other}
use Rattle.filling.proofs.Totals.{put_at, put_same, put_other, total_where, total_add, total_none, times_in}
use Rattle.filling.proofs.Cut.{cut, total_uncut}
use Rattle.filling.proofs.Done.{tally_none, tally_ground, tally_null, tally_passed}

module _ {S : Type 0} {next : ℕ → Option (Link S)} {ups : ℕ → List (Link S)} {ground : ℕ → Bool} {cell_count : ℕ}
    (𝓝 : Network next ups ground cell_count) where
  -- a cell is an inflow of the cell that it flows to, once, and of no other
  times_hit : (y : ℕ) (h : Link S) → next y ≡ some h → times y (ups h.cell) ≡ 1
  times_hit y h e = omega (
    arith,
    𝓝.distinct h.cell y,
    times_in (record { cell = y; step = h.step }) (ups h.cell) (𝓝.complete y h e),
  )

  times_miss : (y x : ℕ) → ((h : Link S) → next y ≡ some h → h.cell ≡ x → ⊥) → times y (ups x) ≡ 0
  times_miss y x f = go (ups x) (𝓝.sound x)
    where
      go : (ks : List (Link S)) → Every (λ k. next k.cell ≡ some (record { cell = x; step = k.step })) ks
          → times y ks ≡ 0
      go [] s = refl
      go (k ∷ ks) s = omega (
        arith,
        go ks s.1,
        one_other k.cell y (λ q. f (record { cell = x; step = k.step }) (sym (ap next q) ∙ s.0) refl),
      )

  -- the cell y is passed down
  module _ (passed : ℕ → Bool) (y : ℕ) (fresh : passed y ≡ false) where
    arrived_times : (f : ℕ → ℕ) (x : ℕ) → arrived ups (also passed y) f x
        ≡ times y (ups x) * f y + arrived ups passed f x
    arrived_times f x = total_add ups (λ c. not (passed c)) (λ c. not (also passed y c)) f y (ap not fresh)
        (ap not (also_same passed y y refl)) (λ c n. ap not (also_other passed y c n)) (ups x)

    waiting_times : (x : ℕ) → waiting ups passed x ≡ times y (ups x) * 1 + waiting ups (also passed y) x
    waiting_times x = total_add ups (also passed y) passed one_each y (also_same passed y y refl) fresh
        (λ c n. sym (also_other passed y c n)) (ups x)

    pub waiting_hit : (h : Link S) → next y ≡ some h
        → waiting ups passed h.cell ≡ suc (waiting ups (also passed y) h.cell)
    waiting_hit h e = omega (arith, waiting_times h.cell, times_hit y h e)

    pub waiting_miss : (x : ℕ) → ((h : Link S) → next y ≡ some h → h.cell ≡ x → ⊥)
        → waiting ups passed x ≡ waiting ups (also passed y) x
    waiting_miss x f = omega (arith, waiting_times x, times_miss y x f)

    waiting_less : (x : ℕ) → waiting ups (also passed y) x ≤ waiting ups passed x
    waiting_less x = omega (arith, waiting_times x)

    pub arrived_hit : (f : ℕ → ℕ) (h : Link S) → next y ≡ some h
        → arrived ups (also passed y) f h.cell ≡ f y + arrived ups passed f h.cell
    arrived_hit f h e = arrived_times f h.cell ∙ rw (times_hit y h e) (omega arith)

    pub arrived_miss : (f : ℕ → ℕ) (x : ℕ) → ((h : Link S) → next y ≡ some h → h.cell ≡ x → ⊥)
        → arrived ups (also passed y) f x ≡ arrived ups passed f x
    arrived_miss f x n = arrived_times f x ∙ rw (times_miss y x n) (omega arith)

  module _ {flag : ℕ → ℕ} where
    -- what is passed down so far is the accumulation of the network cut at the cells that are not: so no partial sum is
    -- larger than the number of places
    module _ {word : ℕ → ℕ} {looked done : ℕ} {busy : ℕ → Bool}
        (p : Packed ups ground cell_count flag word looked busy done) where
      pub partial_at_most : (x : ℕ) → ground x ≡ true → p.partial x ≤ cell_count
      unfolding Agrees
      partial_at_most x v = agrees_at_most (cut_next off next) (cut_ups off ups) ground cell_count (cut off 𝓝) p.partial
          (λ y u. p.is_partial y u ∙ ap suc (sym (total_uncut off ups (cut_ups off ups) p.partial (ups y)))) x v
        where
          off : ℕ → Bool
          off c = not (p.passed c)

      partial_some : (x : ℕ) → ground x ≡ true → 1 ≤ p.partial x
      partial_some x v = omega (arith, p.is_partial x v)

    -- at the beginning nothing is passed down
    pub begin : {word : ℕ → ℕ}
        → ((x : ℕ) → ground x ≡ true → word x ≡ flag x + (2 ^ 25 * total ups no_outlet one_each (ups x) + 1))
        → ((x : ℕ) → x < cell_count → ground x ≡ false → word x ≡ 0) → Packed ups ground cell_count flag word 0 no_outlet 0
    begin h n = record {
      passed = no_outlet;
      partial = one_each;
      is_partial = λ x v. sym (ap suc (total_none ups one_each (ups x)));
      is_word = h;
      null_word = n;
      passed_waits = λ x e. absurd (true≢false (sym e));
      is_passed = λ x v l b f. absurd (f (omega arith) refl);
      ahead = λ x v l e. refl;
      tally = tally_none;
    }

    module _ {word : ℕ → ℕ} {i done : ℕ} (p : Packed ups ground cell_count flag word i no_outlet done) where
      -- a cell is looked at, and is no headwater
      look_on : (ground i ≡ true → word i ≡ flag i + 1 → ⊥) → {m : ℕ} → Tally ground cell_count p.passed (suc i) m
          → Packed ups ground cell_count flag word (suc i) no_outlet m
      look_on f t = record {
        passed = p.passed;
        partial = p.partial;
        is_partial = p.is_partial;
        is_word = p.is_word;
        null_word = p.null_word;
        passed_waits = p.passed_waits;
        is_passed = λ x v l b g. p.is_passed x v l b (λ h e. by x v l g h e (eqb x i) refl);
        ahead = λ x v h. p.ahead x v (omega arith);
        tally = t;
      }
        where
          by : (x : ℕ) → ground x ≡ true → waiting ups p.passed x ≡ 0 → (suc i ≤ x → p.partial x ≡ 1 → ⊥) → i ≤ x
              → p.partial x ≡ 1 → (b : Bool) → eqb x i ≡ b → ⊥
          by x v l g h e true q = let s = eqb-true x i q in f (subst (λ (y : ℕ). ground y ≡ true) s v)
              (subst (λ (y : ℕ). word y ≡ flag y + 1) s (omega (arith, p.is_word x v)))
          by x v l g h e false q = g (more (eqb-false x i q)) e
            where
              more : (x ≡ i → ⊥) → suc i ≤ x
              more n = omega arith

      pub look_ground : ground i ≡ true → (word i ≡ flag i + 1 → ⊥)
          → Packed ups ground cell_count flag word (suc i) no_outlet done
      look_ground v f = look_on (λ u. f) (tally_ground p.tally v)

      pub look_null : i < cell_count → ground i ≡ false → Packed ups ground cell_count flag word (suc i) no_outlet
          (suc done)
      look_null h v = look_on (λ u e. true≢false (sym u ∙ v)) (tally_null p.tally h v)

      -- a cell is looked at, and is a headwater
      pub look_head : ground i ≡ true → word i ≡ flag i + 1 → Walking ups ground cell_count flag word (suc i) i done
      look_head v e = record {
        held = record {
          passed = p.passed;
          partial = p.partial;
          is_partial = p.is_partial;
          is_word = p.is_word;
          null_word = p.null_word;
          passed_waits = p.passed_waits;
          is_passed = λ x v l b g. p.is_passed x v l refl (λ h. g (more x (eqb-false x i b) h));
          ahead = λ x v h. p.ahead x v (omega arith);
          tally = tally_ground p.tally v;
        };
        is_ground = v;
        not_passed = p.ahead i v (omega arith) (omega (arith, p.is_word i v, p.is_partial i v));
        waits = omega (arith, p.is_word i v, p.is_partial i v);
        not_ahead = λ h. absurd (omega arith);
      }
        where
          more : (x : ℕ) → (x ≡ i → ⊥) → i ≤ x → suc i ≤ x
          more x n h = omega arith

    module _ {word : ℕ → ℕ} {looked here done : ℕ} (w : Walking ups ground cell_count flag word looked here done) where
      -- ONE MORE CELL IS PASSED DOWN
      abbrev passed₀ : ℕ → Bool
      passed₀ = w.held.passed

      abbrev partial₀ : ℕ → ℕ
      partial₀ = w.held.partial

      abbrev passed₁ : ℕ → Bool
      passed₁ = also w.held.passed here

      waits₁ : (x : ℕ) → passed₁ x ≡ true → waiting ups passed₁ x ≡ 0
      waits₁ x d = go (eqb x here) refl
        where
          go : (b : Bool) → eqb x here ≡ b → waiting ups passed₁ x ≡ 0
          go true q = omega (
            arith,
            waiting_less passed₀ here w.not_passed x,
            subst (λ (y : ℕ). waiting ups passed₀ y ≡ 0) (sym (eqb-true x here q)) w.waits,
          )
          go false q = omega (
            arith,
            waiting_less passed₀ here w.not_passed x,
            w.held.passed_waits x (sym (also_other passed₀ here x (eqb-false x here q)) ∙ d),
          )

      is_passed₁ : (x : ℕ) → ground x ≡ true → waiting ups passed₁ x ≡ 0
          → ((h : Link S) → next here ≡ some h → h.cell ≡ x → ⊥) → (looked ≤ x → partial₀ x ≡ 1 → ⊥)
          → passed₁ x ≡ true
      is_passed₁ x v l n f = go (eqb x here) refl
        where
          go : (b : Bool) → eqb x here ≡ b → passed₁ x ≡ true
          go true q = also_same passed₀ here x (eqb-true x here q)
          go false q = also_other passed₀ here x (eqb-false x here q)
              ∙ w.held.is_passed x v (waiting_miss passed₀ here w.not_passed x n ∙ l) q f

      ahead₁ : (x : ℕ) → ground x ≡ true → looked ≤ x → partial₀ x ≡ 1 → passed₁ x ≡ false
      ahead₁ x v h p = go (eqb x here) refl
        where
          go : (b : Bool) → eqb x here ≡ b → passed₁ x ≡ false
          go true q = let s = eqb-true x here q in
              absurd (w.not_ahead (omega arith) (subst (λ (y : ℕ). partial₀ y ≡ 1) s p))
          go false q = also_other passed₀ here x (eqb-false x here q) ∙ w.held.ahead x v h p

      tally₁ : Tally ground cell_count passed₁ looked (suc done)
      tally₁ = tally_passed w.held.tally (𝓝.bounded here w.is_ground) w.is_ground w.not_passed

      -- THE END OF A WAY DOWN: the cell flows nowhere
      pub pass_end : next here ≡ none → Packed ups ground cell_count flag word looked no_outlet (suc done)
      pass_end e = record {
        passed = passed₁;
        partial = partial₀;
        is_partial = λ x v. w.held.is_partial x v
            ∙ ap suc (sym (arrived_miss passed₀ here w.not_passed partial₀ x (none_next x)));
        is_word = λ x v. w.held.is_word x v ∙ ap (λ (n : ℕ). flag x + (2 ^ 25 * n + partial₀ x))
            (waiting_miss passed₀ here w.not_passed x (none_next x));
        null_word = w.held.null_word;
        passed_waits = waits₁;
        is_passed = λ x v l b. is_passed₁ x v l (none_next x);
        ahead = ahead₁;
        tally = tally₁;
      }
        where
          none_next : (x : ℕ) (h : Link S) → next here ≡ some h → h.cell ≡ x → ⊥
          none_next x h f q = let z : ◌≡◌ {A = ℕ} 0 1 = cc in omega arith

      -- A STEP DOWN: the cell's partial sum goes to the cell that it flows to, which waits for one less
      module _ (plain : (y : ℕ) (h : Link S) → next y ≡ some h → flag y ≡ 0) {h : Link S} (e : next here ≡ some h) where
        abbrev partial₁ : ℕ → ℕ
        partial₁ = put_at partial₀ h.cell (partial₀ h.cell + partial₀ here)

        one_less : waiting ups passed₀ h.cell ≡ suc (waiting ups passed₁ h.cell)
        one_less = waiting_hit passed₀ here w.not_passed h e

        lands : ground h.cell ≡ true
        lands = 𝓝.lands here h e

        -- there is one to take away
        pub pass_room : flag h.cell + 2 ^ 25 ≤ word h.cell
        pass_room = omega (arith, one_less, w.held.is_word h.cell lands)

        -- the cell that it flows to is another, and not passed down
        other : here ≡ h.cell → ⊥
        other q = omega (arith, one_less, w.waits, ap (waiting ups passed₀) q)

        still : passed₁ h.cell ≡ false
        still = also_other passed₀ here h.cell (λ q. other (sym q)) ∙ off (passed₀ h.cell) refl
          where
            off : (b : Bool) → passed₀ h.cell ≡ b → passed₀ h.cell ≡ false
            off true q = absurd (omega (arith, one_less, w.held.passed_waits h.cell q))
            off false q = q

        value : word here ≡ partial₀ here
        value = omega (arith, w.held.is_word here w.is_ground, w.waits, plain here h e)

        miss : (x : ℕ) → (x ≡ h.cell → ⊥) → (k : Link S) → next here ≡ some k → k.cell ≡ x → ⊥
        miss x n k f q = let s : h ≡ k = cc in n (sym q ∙ sym (ap (λ (l : Link S). l.cell) s))

        at_there : partial₁ h.cell ≡ partial₀ h.cell + partial₀ here
        at_there = put_same partial₀ h.cell (partial₀ h.cell + partial₀ here) h.cell refl

        elsewhere : (x : ℕ) → (x ≡ h.cell → ⊥) → partial₁ x ≡ partial₀ x
        elsewhere x n = put_other partial₀ h.cell (partial₀ h.cell + partial₀ here) x n

        -- so it is no headwater
        grown : 1 < partial₁ h.cell
        grown = omega (
          arith,
          at_there,
          partial_some w.held here w.is_ground,
          partial_some w.held h.cell lands,
        )

        -- its sum is counted by no cell yet
        arrived_put : (x : ℕ) → arrived ups passed₁ partial₁ x ≡ arrived ups passed₁ partial₀ x
        arrived_put x = total_where ups (λ c. not (passed₁ c)) (λ c. not (passed₁ c)) partial₁ partial₀ (λ c. refl)
            (λ c s. elsewhere c (λ q. true≢false (sym (not-false (passed₁ c) s) ∙ ap passed₁ q ∙ still))) (ups x)

        module _ {word' : ℕ → ℕ} (there : word' h.cell ≡ word h.cell + word here - 2 ^ 25)
            (else : (x : ℕ) → (x ≡ h.cell → ⊥) → word' x ≡ word x) where
          partial_step : (x : ℕ) → ground x ≡ true → partial₁ x ≡ suc (arrived ups passed₁ partial₁ x)
          partial_step x v = go (eqb x h.cell) refl
            where
              go : (b : Bool) → eqb x h.cell ≡ b → partial₁ x ≡ suc (arrived ups passed₁ partial₁ x)
              go true q = subst (λ (y : ℕ). partial₁ y ≡ suc (arrived ups passed₁ partial₁ y))
                  (sym (eqb-true x h.cell q))
                  (omega (
                    arith,
                    at_there,
                    w.held.is_partial h.cell lands,
                    arrived_put h.cell,
                    arrived_hit passed₀ here w.not_passed partial₀ h e,
                  ))
              go false q = let n = eqb-false x h.cell q in elsewhere x n ∙ w.held.is_partial x v
                  ∙ ap suc (sym (arrived_put x ∙ arrived_miss passed₀ here w.not_passed partial₀ x (miss x n)))

          word_step : (x : ℕ) → ground x ≡ true → word' x ≡ flag x + (2 ^ 25 * waiting ups passed₁ x + partial₁ x)
          word_step x v = go (eqb x h.cell) refl
            where
              go : (b : Bool) → eqb x h.cell ≡ b → word' x ≡ flag x + (2 ^ 25 * waiting ups passed₁ x + partial₁ x)
              go true q = subst (λ (y : ℕ). word' y ≡ flag y + (2 ^ 25 * waiting ups passed₁ y + partial₁ y))
                  (sym (eqb-true x h.cell q))
                  (omega (arith, there, at_there, one_less, value, w.held.is_word h.cell lands))
              go false q = let n = eqb-false x h.cell q in omega (
                arith,
                else x n,
                elsewhere x n,
                w.held.is_word x v,
                waiting_miss passed₀ here w.not_passed x (miss x n),
              )

          ahead_step : (x : ℕ) → ground x ≡ true → looked ≤ x → partial₁ x ≡ 1 → passed₁ x ≡ false
          ahead_step x v l p = go (eqb x h.cell) refl
            where
              go : (b : Bool) → eqb x h.cell ≡ b → passed₁ x ≡ false
              go true q = ap passed₁ (eqb-true x h.cell q) ∙ still
              go false q = ahead₁ x v l (sym (elsewhere x (eqb-false x h.cell q)) ∙ p)

          -- what every next state holds, whoever is on the way
          stepped : (busy : ℕ → Bool) → ((x : ℕ) → waiting ups passed₁ x ≡ 0 → busy x ≡ false → x ≡ h.cell → ⊥)
              → Packed ups ground cell_count flag word' looked busy (suc done)
          stepped busy away = record {
            passed = passed₁;
            partial = partial₁;
            is_partial = partial_step;
            is_word = word_step;
            null_word = λ x b v. else x (λ q. true≢false (sym lands ∙ sym (ap ground q) ∙ v))
                ∙ w.held.null_word x b v;
            passed_waits = waits₁;
            is_passed = λ x v l b f. is_passed₁ x v l (miss x (away x l b))
                (λ a p. f a (elsewhere x (away x l b) ∙ p));
            ahead = ahead_step;
            tally = tally₁;
          }

          held₁ : Packed ups ground cell_count flag word' looked (λ x. eqb x h.cell) (suc done)
          held₁ = stepped (λ x. eqb x h.cell) (λ x l b. eqb-false x h.cell b)

          -- on, if nothing is waited for there
          pub pass_on : word' h.cell < flag h.cell + 2 ^ 25
              → Walking ups ground cell_count flag word' looked h.cell (suc done)
          unfolding held₁ stepped
          pass_on lt = record {
            held = held₁;
            is_ground = lands;
            not_passed = still;
            waits = omega (arith, word_step h.cell lands);
            not_ahead = λ l q. omega (arith, grown);
          }

          -- and else no further
          pub pass_stop : cell_count ≤ 2 ^ 24 → flag h.cell + 2 ^ 25 ≤ word' h.cell
              → Packed ups ground cell_count flag word' looked no_outlet (suc done)
          unfolding held₁ stepped
          pass_stop small le = stepped no_outlet (λ x l b q. full (ap (waiting ups passed₁) (sym q) ∙ l))
            where
              full : waiting ups passed₁ h.cell ≡ 0 → ⊥
              full l = omega (arith, word_step h.cell lands, partial_at_most held₁ h.cell lands)
