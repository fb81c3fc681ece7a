-- The walk's definitions by cases, and the walk's end.
-- Assumes nothing.
use mathlib.Core.Path.{◌≡◌, refl, sym, ap, ◌∙◌}
use mathlib.Core.Bool.{Bool, true, false}
use mathlib.Core.List.{[], ◌∷◌, ◌++◌, map, reverse-cons}
use mathlib.Core.Option.{Option, none, some}
use Prim.Native.Nat.{ℕ, zero, suc, ◌<◌}
use native.Mathlib.Omega.{arith}
use Rattle.lengths.specs.Lengths.{Lengths}
use Rattle.ground.specs.Compass.{Dir, opposite}
use Rattle.ground.specs.Grid.{Link}
use Rattle.ground.specs.Walk.{At, stride, strides, after, ends}
use Rattle.ground.specs.Subwatershed.{descent, walked, route}

module _ {S : Type 0} (next : ℕ → Option (Link S)) where
  pub ends_next : (n x : ℕ) (h : Link S) → next x ≡ some h → ends next (suc n) x ≡ ends next n h.cell
  ends_next n x h e = rw (e, ends)

  pub ends_zero : (x : ℕ) (h : Link S) → next x ≡ some h → ends next zero x ≡ false
  ends_zero x h e = rw (e, ends)

  pub ends_none : (n x : ℕ) → next x ≡ none → ends next n x ≡ true
  ends_none zero x e = rw (e, ends)
  ends_none (suc n) x e = rw (e, ends)

module _ {S : Type 0} (𝓛 : Lengths S) (next : ℕ → Option (Link S)) where
  open 𝓛 use {Len, start, ◌▹◌}

  pub stride_next : (w : At Len) (h : Link S) → next w.cell ≡ some h
      → stride 𝓛 next w ≡ some (record { cell = h.cell; len = w.len ▹ h.step })
  unfolding stride
  stride_next w h e = rw (e, stride)

  pub stride_end : (w : At Len) → next w.cell ≡ none → stride 𝓛 next w ≡ none
  unfolding stride
  stride_end w e = rw (e, stride)

  pub strides_next : (k : ℕ) (w : At Len) (h : Link S) → next w.cell ≡ some h
      → strides 𝓛 next (suc k) w ≡ strides 𝓛 next k (record { cell = h.cell; len = w.len ▹ h.step })
  unfolding strides
  strides_next k w h e = rw (stride_next w h e, strides)

  pub strides_end : (k : ℕ) (w : At Len) → next w.cell ≡ none → strides 𝓛 next (suc k) w ≡ none
  unfolding strides
  strides_end k w e = rw (stride_end w e, strides)

module _ {S : Type 0} (next : ℕ → Option (Link S)) where
  pub after_next : (k c : ℕ) (h : Link S) → next c ≡ some h → after next (suc k) c ≡ after next k h.cell
  unfolding after
  after_next k c h e = rw (e, after)

  pub after_end : (k c : ℕ) → next c ≡ none → after next (suc k) c ≡ none
  unfolding after
  after_end k c e = rw (e, after)

  pub after_zero : (c : ℕ) → after next zero c ≡ some c
  unfolding after
  after_zero c = refl

  -- after the cell where it ends a walk is over
  pub after_last : (k c x : ℕ) → after next k c ≡ some x → next x ≡ none → (j : ℕ) → k < j → after next j c ≡ none
  after_last k c x e n zero h = absurd (omega arith)
  after_last zero c x e n (suc j) h =
      let p : some c ≡ some x = sym (after_zero c) ∙ e in
      let q : c ≡ x = cc in
      after_end j c (ap next q ∙ n)
  after_last (suc k) c x e n (suc j) h = go (next c) refl (λ y f. after_last k y x f n j (omega arith))
    where
      go : (o : Option (Link S)) → next c ≡ o → ((y : ℕ) → after next k y ≡ some x → after next j y ≡ none)
          → after next (suc j) c ≡ none
      go none f ih = after_end j c f
      go (some l) f ih = after_next j c l f ∙ ih l.cell (sym (after_next k c l f) ∙ e)

module _ {S : Type 0} (next : ℕ → Option (Link S)) (outlet : ℕ → Bool) where
  -- at an outlet the walk is over, at another cell it goes on
  pub walked_out : (n c : ℕ) → outlet c ≡ true → walked next outlet n c ≡ c ∷ []
  unfolding walked
  walked_out zero c e = refl
  walked_out (suc n) c e = rw (e, walked)

  pub walked_next : (c : ℕ) → outlet c ≡ false → (n : ℕ) (h : Link S) → next c ≡ some h
      → walked next outlet (suc n) c ≡ c ∷ walked next outlet n h.cell
  unfolding walked
  walked_next c v n h e = rw (v, e, walked)

module _ (next : ℕ → Option (Link Dir)) (outlet : ℕ → Bool) where
  pub route_out : (n c : ℕ) → outlet c ≡ true → route next outlet n c ≡ []
  unfolding route descent
  route_out zero c e = refl
  route_out (suc n) c e = rw (e, descent)

  pub route_next : (n c : ℕ) (h : Link Dir) → outlet c ≡ false → next c ≡ some h
      → route next outlet (suc n) c ≡ route next outlet n h.cell ++ (opposite h.step ∷ [])
  unfolding route descent
  route_next n c h e f = rw (e, f, descent)
      (reverse-cons (opposite h.step) (map opposite (descent next outlet n h.cell)))
