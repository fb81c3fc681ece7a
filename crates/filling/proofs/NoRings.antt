-- When filling succeeds: with no outlets exactly on a grid free of rings, and on such a grid with any outlets. So it
-- does where an accumulation agrees.
-- Assumes nothing.
use mathlib.Core.Path.{◌≡◌, refl, sym, ◌∙◌}
use mathlib.Core.Bool.{true, true≢false}
use mathlib.Core.List.{List, []}
use mathlib.Core.Option.{Option, none, some}
use Prim.Native.Nat.{ℕ, zero, suc}
use Rattle.ground.specs.Compass.{Dir}
use Rattle.ground.specs.Grid.{Grid, Link, cell_count, next}
use Rattle.ground.specs.Walk.{ends, ring_free}
use Rattle.ground.specs.Accumulation.{agrees}
use Rattle.ground.specs.Subwatershed.{is_outlet}
use Rattle.lists.proofs.Lists.{all_below_lem, below_all}
use Rattle.ground.proofs.Walks.{ends_next, ends_zero, ends_none}
use Rattle.ground.proofs.Ground.{agrees_free_of_rings}
use Rattle.filling.specs.Filling.{next_cut, cut_free}
use Rattle.filling.proofs.Cut.{cut_step}

-- WITH NO OUTLETS it is the accumulation, and the question is check 13's
pub free_no_outlets : (g : Grid) → cut_free g [] ≡ ring_free g
unfolding cut_free ring_free
free_no_outlets g = refl

module _ (g : Grid) (outlets : List ℕ) where
  -- a walk that ends, ends no later where it is cut
  ends_cut : (n x : ℕ) → ends (next g) n x ≡ true → ends (next_cut g outlets) n x ≡ true
  ends_cut zero x e = go (next_cut g outlets x) refl
    where
      go : (o : Option (Link Dir)) → next_cut g outlets x ≡ o → ends (next_cut g outlets) zero x ≡ true
      go none f = ends_none (next_cut g outlets) zero x f
      go (some h) f =
          absurd (true≢false (sym e ∙ ends_zero (next g) x h (cut_step (is_outlet g outlets) (next g) x h f).1))
  ends_cut (suc n) x e = go (next_cut g outlets x) refl (λ y. ends_cut n y)
    where
      go : (o : Option (Link Dir)) → next_cut g outlets x ≡ o
          → ((y : ℕ) → ends (next g) n y ≡ true → ends (next_cut g outlets) n y ≡ true)
          → ends (next_cut g outlets) (suc n) x ≡ true
      go none f ih = ends_none (next_cut g outlets) (suc n) x f
      go (some h) f ih = ends_next (next_cut g outlets) n x h f
          ∙ ih h.cell (sym (ends_next (next g) n x h (cut_step (is_outlet g outlets) (next g) x h f).1) ∙ e)

  pub ring_free_cut : ring_free g ≡ true → cut_free g outlets ≡ true
  unfolding cut_free ring_free
  ring_free_cut e = below_all (ends (next_cut g outlets) (cell_count g)) (cell_count g)
      (λ x h. ends_cut (cell_count g) x (all_below_lem (ends (next g) (cell_count g)) (cell_count g) e x h))

  -- WHERE AN ACCUMULATION AGREES, as check 14 asks, filling succeeds
  pub agrees_cut_free : (a : List ℕ) → agrees g a ≡ true → cut_free g outlets ≡ true
  agrees_cut_free a h = ring_free_cut (agrees_free_of_rings g a h)
