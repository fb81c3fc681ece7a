-- What the search asks of lengths: where they start, how a step makes them longer, which is shorter. The search is
-- defined for any such lengths; those of square cells are one value.
-- Assumes nothing.
use Rattle.std.specs.Prelude.{Bool, ℕ, zero, suc}
use Rattle.lengths.specs.declared.Step.{Step}
use Rattle.lengths.specs.declared.Step.TheVariants.{Diagonal}
use Rattle.lengths.specs.declared.Length.{Length}
use Rattle.lengths.specs.Rule.{counts, plus_step, is_shorter}

-- lengths that grow by steps of a kind S, the longest of which is `top`
pub record Lengths (S : Type 0) : Type 1 where
  infixl 60 ◌▹◌
  pub Len : Type 0
  pub start : Len
  pub ◌▹◌ : Len → S → Len
  pub top : S
  pub shorter : Len → Len → Bool

-- d and n of the longest steps: d + n√2
abbrev pub farthest : {S : Type 0} (𝓛 : Lengths S) → 𝓛.Len → ℕ → 𝓛.Len
farthest 𝓛 d zero = d
farthest 𝓛 d (suc n) = farthest 𝓛 (𝓛.◌▹◌ d 𝓛.top) n

-- square cells: a straight and b diagonal steps
abbrev pub square_cells : Lengths Step
square_cells = record { Len = Length; start = counts 0 0; ◌▹◌ = plus_step; top = Diagonal; shorter = is_shorter }

-- the same lengths by steps of another kind, each of which is one of the first
abbrev pub stepped_by : {S T : Type 0} → (T → S) → T → Lengths S → Lengths T
stepped_by f top 𝓛 = record {
  Len = 𝓛.Len;
  start = 𝓛.start;
  ◌▹◌ = λ l t. 𝓛.◌▹◌ l
      (f t);
  top = top;
  shorter = 𝓛.shorter;
}
