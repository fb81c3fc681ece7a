-- Whether an outlet may flow into a cell, told by the outlets' numbers.
-- Assumes nothing.
use Rattle.std.specs.Prelude.{◌≡◌, Bool, List, [], ℕ, leb}
use Rattle.std.specs.Int.{abs_diff}
use Rattle.std.specs.List.{list_any}
use Rattle.lengths.specs.declared.Length.{Length}
use Rattle.stack.specs.Pending.{all_above}

-- does one of these lie within this reach of a number?
abbrev pub any_near : ℕ → ℕ → List ℕ → Bool
any_near at reach = list_any (λ o. leb (abs_diff o at) reach)

-- no outlet flows in: without the outlets the inflows are the same
abbrev pub NoneFlowsIn : ℕ → ℕ → List ℕ → List ℕ → ℕ → ℕ → Type 0
NoneFlowsIn rows cols codes outlets row col = (len : Length)
    → all_above rows cols codes [] row col len ≡ all_above rows cols codes outlets row col len
