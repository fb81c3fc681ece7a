-- The place of a neighbour of an inner cell: it has a code, and what is found there.
-- Assumes nothing.
use mathlib.Core.Path.{◌≡◌, refl}
use mathlib.Core.List.{List}
use Prim.Native.Nat.{ℕ, ◌+◌, ◌-◌, ◌*◌, ◌<◌}
use native.Mathlib.Omega.{arith}
use lib.ListN.{length, get_or}
use Rattle.std.specs.Prelude.{Some, None}
use Rattle.moves.specs.declared.Neighbour.{Neighbour}
use Rattle.moves.specs.Moves.{dir_at, neighbour_of}
use Rattle.moves.specs.Walks.{FlowsFrom}
use Rattle.moves.proofs.Inflow.{inflow_away, inflow_in_lem}
use Rattle.inflows.specs.Values.{InnerOn}
use Rattle.inflows.proofs.InflowRecord.{inner_spot, inner_inside}

module _ {rows cols : ℕ} {codes : List ℕ} {row col : ℕ} (i : InnerOn rows cols codes row col) (k : ℕ)
    {n : Neighbour} (is-n : n ≡ neighbour_of (dir_at k)) where
  pub inner_coded : (row + n.row - 1) * cols + (col + n.col - 1) < length codes
  inner_coded = omega (arith, inner_inside i.on i.inner k is-n, i.on.grid.has_codes)

  abbrev there : ℕ
  there = (row + n.row - 1) * cols + (col + n.col - 1)

  pub inner_away : (get_or codes there 0 ≡ n.back → ⊥) → FlowsFrom rows cols codes row col k None
  inner_away f = inflow_away i.on k is-n (inner_spot i.on i.inner k is-n) refl f

  pub inner_in : get_or codes there 0 ≡ n.back
      → FlowsFrom rows cols codes row col k (Some (record { row = row + n.row - 1; col = col + n.col - 1 }))
  inner_in f = inflow_in_lem i.on k is-n (inner_spot i.on i.inner k is-n) refl f
