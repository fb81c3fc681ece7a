-- A flow path: what every drawing that is accepted draws.
-- Assumes nothing.
use Rattle.std.specs.Prelude.{◌≡◌, Bool, false, List, ℕ, suc, ◌-◌, ◌<◌, length, get_or}
use Rattle.std.proofs.Math.Option.{Option, some}
use Rattle.ground.specs.Grid.{Link, next}
use Rattle.ground.specs.Subwatershed.{is_outlet}
use Rattle.answers.specs.Drawing.{Drawing}

-- the cells of a walk from c to the outlet o, the start first and the outlet last: each next cell is where the one
-- before flows, and no outlet comes before the last
pub record FlowPath {S : Type 0} (step : ℕ → Option (Link S)) (outlet : ℕ → Bool) (o c : ℕ) (cells : List ℕ)
    : Type 0 where
  pub some_cell : 0 < length cells
  pub begins : get_or cells 0 0 ≡ c
  pub flows : (k : ℕ) → suc k < length cells
      → (s : S) × (step (get_or cells k 0) ≡ some (record { cell = get_or cells (suc k) 0; step = s }))
  pub not_outlet : (k : ℕ) → suc k < length cells → outlet (get_or cells k 0) ≡ false
  pub arrives : get_or cells (length cells - 1) 0 ≡ o

-- the outlet that a drawing asks for
abbrev pub outlet_of : Drawing → ℕ
outlet_of q = get_or q.catchment.outlets q.place 0

-- the cells are a flow path from a drawing's start to that outlet
abbrev pub IsPath : Drawing → List ℕ → Type 0
IsPath q cells = let c = q.catchment in
    FlowPath (next c.grid) (is_outlet c.grid c.outlets) (outlet_of q) q.start cells
