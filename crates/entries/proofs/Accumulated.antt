-- AFTER ACCUMULATING NEVER 14: with the accumulation that an accepted call left, no entry answers 14.
-- Assumes nothing.
use mathlib.Core.Path.{◌≡◌, refl, sym, ◌∙◌}
use mathlib.Core.List.{List, [], ◌∷◌}
use Prim.Native.Nat.{ℕ}
use Rattle.ground.specs.Grid.{Grid}
use Rattle.answers.specs.Checks.{check15, check16, check17, check18}
use Rattle.answers.specs.Checks.{check19, check20, check21, check22, check23, check25}
use Rattle.answers.specs.Entries.{Catchment, Accumulates, check_number, subaccumulate_number}
use Rattle.answers.specs.FlowLengths.{flow_lengths_number}
use Rattle.answers.specs.Tracings.{recursion_number, stack_number}
use Rattle.answers.specs.Drawing.{draw_number}
use Rattle.answers.proofs.Judged.{no_14}
use Rattle.alloutlets.specs.AllOutlets.{trace_all_number}
use Rattle.alloutlets.proofs.AllOutlets.{number_is}
use Rattle.entries.specs.Judging.{Answered, check_accumulation, subaccumulate, flow_lengths_told, trace_by_recursion}
use Rattle.entries.specs.Judging.{trace_by_stack, trace_all, draw, drawing_number}

module _ (g : Grid) {old left : List ℕ} (a : Accumulates g old 0 left) (outlets : List ℕ) where
  abbrev lent_left : Catchment
  lent_left = record { grid = g; accumulation = left; outlets = outlets }

  pub never_14 : {n : ℕ} → Answered lent_left n → n ≡ 14 → ⊥
  unfolding check_number subaccumulate_number flow_lengths_number recursion_number stack_number draw_number trace_all_number check15
      check16 check17 check18 check19 check20 check21 check22 check23 check25
  never_14 (check_accumulation t) e = no_14 g a [] _ [] refl refl (sym t ∙ e)
  never_14 (subaccumulate t) e = no_14 g a [] _ _ refl refl (sym t.answers ∙ e)
  never_14 (flow_lengths_told t) e = no_14 g a [] _ _ refl refl (sym t.answers ∙ e)
  never_14 (trace_by_recursion {e = edition} t) e = no_14 g a (check25 edition ∷ []) _ _ refl refl (sym t.numbered ∙ e)
  never_14 (trace_by_stack {e = edition} t) e = no_14 g a (check25 edition ∷ []) _ _ refl refl (sym t.traces.numbered ∙ e)
  never_14 (trace_all {e = edition} t) e = no_14 g a (check25 edition ∷ []) _ _ refl refl (number_is _ _ _ t e)
  never_14 (draw t) e = no_14 g a [] _ _ refl refl (sym t.answers ∙ e)
  never_14 (drawing_number p s room t) e = no_14 g a [] _ _ refl refl (sym t ∙ e)
