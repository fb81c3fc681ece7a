-- The walk: one step repeated; where it ends, and the ring. Over any network: `next` gives the cell that a cell flows
-- to, and the step.
-- Assumes nothing.
use Rattle.std.specs.Prelude.{◌≡◌, Bool, true, false, ℕ, zero, suc, ◌<◌}
use Rattle.std.proofs.Math.Option.{Option, none, some}
use Rattle.lengths.specs.Lengths.{Lengths}
use Rattle.lists.specs.Lists.{all_below}
use Rattle.ground.specs.Grid.{Grid, Link, cell_count, next}

-- a cell, and a length: of the walk up to it, or of the walk from it to its outlet
pub record At (L : Type 0) : Type 0 where
  pub cell : ℕ
  pub len : L

-- 01: a walk repeats one step on its state, the cell it is at and the steps made so far. The straight and diagonal
-- steps together are the length
module _ {S : Type 0} (𝓛 : Lengths S) (step : ℕ → Option (Link S)) where
  open 𝓛 use {Len, ◌▹◌}

  -- the next state; none where the walk ends
  unfoldable pub stride : At Len → Option (At Len)
  stride w = elim (step w.cell) [ none ↦ none | some h ↦ some (record { cell = h.cell; len = w.len ▹ h.step }) ]

  unfoldable pub strides : ℕ → At Len → Option (At Len)
  strides zero w = some w
  strides (suc k) w = elim (stride w) [ none ↦ none | some v ↦ strides k v ]

module _ {S : Type 0} (step : ℕ → Option (Link S)) where
  -- the cell that the walk from c is at after k steps; none if it ended before
  unfoldable pub after : ℕ → ℕ → Option ℕ
  after zero c = some c
  after (suc k) c = elim (step c) [ none ↦ none | some h ↦ after k h.cell ]

  -- does the walk from c end within n steps?
  abbrev pub ends : ℕ → ℕ → Bool
  ends zero c = elim (step c) [ none ↦ true | some h ↦ false ]
  ends (suc n) c = elim (step c) [ none ↦ true | some h ↦ ends n h.cell ]

  -- 01's ring: a walk that comes back to the cell where it started. A walk that comes back to a later cell has one too:
  -- that is a law
  pub record Ring (solid : ℕ → Bool) : Type 0 where
    pub cell : ℕ
    pub is_ground : solid cell ≡ true
    pub turns : ℕ
    pub moves : 0 < turns
    pub returns : after turns cell ≡ some cell

-- check 13's question as a test: does every walk end, within as many steps as there are cells?
unfoldable pub ring_free : Grid → Bool
ring_free g = all_below (ends (next g) (cell_count g)) (cell_count g)
