-- What both engines need of a neighbour that is turned to: the steps of its length, and whether it is dropped.
-- Assumes nothing.
use mathlib.Core.Path.{◌≡◌, refl, sym, ap, ◌∙◌}
use mathlib.Core.Bool.{Bool, ◌&&◌}
use mathlib.Core.List.{List}
use Prim.Native.Nat.{ℕ, ◌+◌, ◌-◌}
use native.Mathlib.Omega.{arith}
use Rattle.lengths.specs.declared.Step.{Step}
use Rattle.lengths.specs.declared.Step.TheVariants.{Straight, Diagonal}
use Rattle.lengths.specs.declared.Length.{Length}
use Rattle.lengths.specs.Rule.{plus_step}
use Rattle.lengths.specs.Lengths.{square_cells, farthest}
use Rattle.lengths.proofs.Laws.{farthest_by}
use Rattle.ground.specs.Compass.{SE, step_of, squares}
use Rattle.progress.specs.declared.Progress.{Progress}
use Rattle.progress.specs.Starts.{is_below, starts_of}
use Rattle.progress.proofs.Kept.{below_starts}
use Rattle.upstream.specs.Ready.{drops_at}

-- a step is one step more
pub one_step : (l : Length) (s : Step)
    → (plus_step l s).straight + (plus_step l s).diagonal ≡ l.straight + l.diagonal + 1
one_step l Straight = omega arith
one_step l Diagonal = omega arith

-- the rule's test, as the code makes it: by the neighbour's own length
pub drops_by : (dropping : Bool) (p : Progress) (work : List ℕ) (end : ℕ) (own : Length) (n : ℕ)
    → (dropping && is_below (farthest square_cells own (n - 1)) p) ≡ drops_at dropping (starts_of p work end) own n
drops_by dropping p work end own n = ap (λ (b : Bool). dropping && b)
    (ap (λ (l : Length). is_below l p) (sym (farthest_by step_of SE square_cells refl own (n - 1)))
    ∙ below_starts (farthest squares own (n - 1)) p work end)
