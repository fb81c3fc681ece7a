-- Rings: a walk that does not end within as many steps as there are places comes back to a cell, and where an
-- accumulation agrees none does.
-- Assumes nothing.
use mathlib.Core.Path.{◌≡◌, refl, sym, ap, ◌∙◌, fun_ext}
use mathlib.Core.Bool.{Bool, true, false, true≢false}
use mathlib.Core.List.{List}
use mathlib.Core.Option.{Option, none, some}
use Prim.Native.Nat.{ℕ, zero, suc, ◌+◌, ◌≤◌, ◌<◌}
use native.Mathlib.Omega.{arith}
use lib.Dec.{eqb}
use borrow.Author.Tests.{eqb-true, eqb-false}
use Rattle.ground.specs.Grid.{Link}
use Rattle.ground.specs.Walk.{after, ends, Ring}
use Rattle.ground.proofs.Sums.{one, one_le, one_other, sum_to, sum_add, sum_one, sum_more}
use Rattle.ground.proofs.Walks.{ends_next, ends_none, after_next, after_end, after_zero}
use Rattle.ground.proofs.Network.{Network}
use Rattle.ground.proofs.Agreement.{Agrees, fewer_next}

module _ {S : Type 0} (next : ℕ → Option (Link S)) (ups : ℕ → List (Link S)) (ground : ℕ → Bool) (cell_count : ℕ)
    (𝓝 : Network next ups ground cell_count) where
  -- where an accumulation agrees, it grows along a walk
  module _ (A : ℕ → ℕ) (agrees : Agrees ups ground A) where
    pub after_more : (k c x : ℕ) → after next k c ≡ some x → A c + k ≤ A x
    after_more zero c x e = let p : some c ≡ some x = sym (after_zero next c) ∙ e in let q : c ≡ x = cc in
        omega (arith, ap A q)
    after_more (suc k) c x e = go (next c) refl (λ c'. after_more k c' x)
      where
        go : (o : Option (Link S)) → next c ≡ o → ((c' : ℕ) → after next k c' ≡ some x → A c' + k ≤ A x)
            → A c + suc k ≤ A x
        go none f ih = let p : none ≡ some x = sym (after_end next k c f) ∙ e in let w : ◌≡◌ {A = ℕ} 0 1 = cc in
            absurd (omega arith)
        go (some h) f ih = omega (
          arith,
          fewer_next next ups ground cell_count 𝓝 A agrees c h f,
          ih h.cell (sym (after_next next k c h f) ∙ e),
        )

    pub no_ring : Ring next ground → ⊥
    no_ring r = omega (arith, after_more r.turns r.cell r.cell r.returns, r.moves)

  -- how often c is among the first n + 1 cells of the walk from x
  seen : ℕ → ℕ → ℕ → ℕ
  seen zero x c = one x c
  seen (suc n) x c = one x c + elim (next x) [ none ↦ 0 | some h ↦ seen n h.cell c ]

  seen_next : (n x c : ℕ) (h : Link S) → next x ≡ some h → seen (suc n) x c ≡ one x c + seen n h.cell c
  unfolding seen
  seen_next n x c h e = rw (e, seen)

  seen_end : (n x c : ℕ) → next x ≡ none → seen n x c ≡ one x c
  unfolding seen
  seen_end zero x c e = refl
  seen_end (suc n) x c e = rw (e, seen) (omega arith)

  -- a cell that is seen is come to
  seen_after : (n x c : ℕ) → 0 < seen n x c → (k : ℕ) × (after next k x ≡ some c)
  unfolding seen
  seen_after zero x c h = go (eqb x c) refl
    where
      go : (b : Bool) → eqb x c ≡ b → (k : ℕ) × (after next k x ≡ some c)
      go true e = (0, after_zero next x ∙ ap some (eqb-true x c e))
      go false e = absurd (omega (arith, one_other x c (eqb-false x c e)))
  seen_after (suc n) x c h = go (eqb x c) refl (next x) refl (λ y. seen_after n y c)
    where
      go : (b : Bool) → eqb x c ≡ b → (o : Option (Link S)) → next x ≡ o
          → ((y : ℕ) → 0 < seen n y c → (k : ℕ) × (after next k y ≡ some c)) → (k : ℕ) × (after next k x ≡ some c)
      go true e o f ih = (0, after_zero next x ∙ ap some (eqb-true x c e))
      go false e none f ih = absurd (omega (arith, one_other x c (eqb-false x c e), seen_end (suc n) x c f))
      go false e (some l) f ih = let p =
          ih l.cell (omega (arith, one_other x c (eqb-false x c e), seen_next n x c l f)) in
          (suc p.0, after_next next p.0 x l f ∙ p.1)

  -- a walk of n steps sees n + 1 cells
  walk_long : (n x : ℕ) → ground x ≡ true → ends next n x ≡ false → sum_to cell_count (seen n x) ≡ suc n
  unfolding seen
  walk_long zero x v e = sum_one cell_count x (𝓝.bounded x v)
  walk_long (suc n) x v e = go (next x) refl (λ y. walk_long n y)
    where
      go : (o : Option (Link S)) → next x ≡ o → ((y : ℕ) → ground y ≡ true → ends next n y ≡ false
          → sum_to cell_count (seen n y) ≡ suc n) → sum_to cell_count (seen (suc n) x) ≡ suc (suc n)
      go none f ih = absurd (true≢false (sym (ends_none next (suc n) x f) ∙ e))
      go (some h) f ih = ap (sum_to cell_count) (fun_ext (λ c. seen_next n x c h f))
          ∙ omega (
            arith,
            sum_add cell_count (one x) (seen n h.cell),
            sum_one cell_count x (𝓝.bounded x v),
            ih h.cell (𝓝.lands x h f) (sym (ends_next next n x h f) ∙ e),
          )

  -- a cell that is seen twice is come back to
  seen_twice : (n x c : ℕ) → ground x ≡ true → 1 < seen n x c → Ring next ground
  unfolding seen
  seen_twice zero x c v i = absurd (omega (arith, one_le x c))
  seen_twice (suc n) x c v i = go (eqb x c) refl (next x) refl (λ y. seen_twice n y c)
    where
      go : (b : Bool) → eqb x c ≡ b → (o : Option (Link S)) → next x ≡ o
          → ((y : ℕ) → ground y ≡ true → 1 < seen n y c → Ring next ground) → Ring next ground
      go b e none f ih = absurd (omega (arith, one_le x c, seen_end (suc n) x c f))
      go false e (some h) f ih =
          ih h.cell (𝓝.lands x h f) (omega (arith, one_other x c (eqb-false x c e), seen_next n x c h f))
      go true e (some h) f ih =
          let p = seen_after n h.cell c (omega (arith, one_le x c, seen_next n x c h f)) in
          record {
            cell = x;
            is_ground = v;
            turns = suc p.0;
            moves = omega arith;
            returns = after_next next
                p.0 x h f ∙ p.1 ∙ ap some (sym (eqb-true x c e));
          }

  -- a walk that does not end within as many steps as there are places comes back to a cell
  pub long_ring : (x : ℕ) → ends next cell_count x ≡ false → Ring next ground
  long_ring x e = go (next x) refl
    where
      go : (o : Option (Link S)) → next x ≡ o → Ring next ground
      go none f = absurd (true≢false (sym (ends_none next cell_count x f) ∙ e))
      go (some h) f = let v = 𝓝.solid x h f in
          let p = sum_more cell_count (seen cell_count x) (omega (arith, walk_long cell_count x v e)) in
          seen_twice cell_count x p.0 v p.1

  -- a walk that is at one cell after j steps and again after m has a ring: it need not begin on it
  pub come_back : (j m c x : ℕ) → ground c ≡ true → j < m → after next j c ≡ some x → after next m c ≡ some x
      → Ring next ground
  come_back j zero c x v i e f = absurd (omega arith)
  come_back zero (suc m) c x v i e f = let p : some c ≡ some x = sym (after_zero next c) ∙ e in
      record { cell = c; is_ground = v; turns = suc m; moves = omega arith; returns = f ∙ sym p }
  come_back (suc j) (suc m) c x v i e f = go (next c) refl (λ c'. come_back j m c' x)
    where
      go : (t : Option (Link S)) → next c ≡ t → ((c' : ℕ) → ground c' ≡ true → j < m → after next j c' ≡ some x
          → after next m c' ≡ some x → Ring next ground) → Ring next ground
      go none g ih = let p : none ≡ some x = sym (after_end next j c g) ∙ e in let w : ◌≡◌ {A = ℕ} 0 1 = cc in
          absurd (omega arith)
      go (some h) g ih = ih h.cell (𝓝.lands c h g) (omega arith) (sym (after_next next j c h g) ∙ e)
          (sym (after_next next m c h g) ∙ f)
