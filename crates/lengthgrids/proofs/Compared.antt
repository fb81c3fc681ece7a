-- The upstream length that a cell is given, by what the comparison says.
-- Assumes nothing.
use mathlib.Core.Path.{◌≡◌, refl, sym, ap, ◌∙◌}
use mathlib.Core.Bool.{true, false}
use mathlib.Core.List.{List}
use Prim.Native.Nat.{ℕ}
use lib.ListN.{set}
use Rattle.lengths.specs.declared.Step.{Step}
use Rattle.lengths.specs.declared.Length.{Length}
use Rattle.std.specs.declared.cmp.Ordering.{Ordering}
use Rattle.std.specs.declared.cmp.Ordering.TheVariants.{Less, Equal, Greater}
use Rattle.std.specs.Ordering.{is_lt}
use Rattle.lengths.specs.Rule.{plus_step, compared, says_shorter, is_shorter}
use Rattle.lengthgrids.specs.Grids.{length_above, GivesUp}

lt_says : (o : Ordering) → says_shorter o ≡ is_lt o
lt_says Less = refl
lt_says Equal = refl
lt_says Greater = refl

module _ (x y : ℕ) (step : Step) (us ud : List ℕ) {longer : Length}
    (is-longer : longer ≡ plus_step (length_above us ud x) step)
    {r : Ordering} (says : r ≡ compared (length_above us ud y) longer) where
  shorter_is : is_shorter (length_above us ud y) (plus_step (length_above us ud x) step) ≡ is_lt r
  unfolding is_shorter
  shorter_is = ap (λ (l : Length). says_shorter (compared (length_above us ud y) l)) (sym is-longer)
      ∙ ap says_shorter (sym says) ∙ lt_says r

  pub gives_longer : is_lt r ≡ true → GivesUp x y step us ud (set us y longer.straight) (set ud y longer.diagonal)
  gives_longer e =
      let s : is_shorter (length_above us ud y) (plus_step (length_above us ud x) step) ≡ true =
      shorter_is ∙ e in
      record { straights = rw (s, is-longer); diagonals = rw (s, is-longer) }

  pub gives_nothing : is_lt r ≡ false → GivesUp x y step us ud us ud
  gives_nothing e =
      let s : is_shorter (length_above us ud y) (plus_step (length_above us ud x) step) ≡ false = shorter_is ∙ e in
      record { straights = rw s; diagonals = rw s }
