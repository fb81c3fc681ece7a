-- The inflows of one cell: how many there are, and when no outlet is among them.
-- Assumes nothing.
use mathlib.Core.Path.{◌≡◌, refl, ap}
use mathlib.Core.Bool.{Bool, true, false}
use mathlib.Core.Logic.{◌⊎◌, inl, inr, ⊎_elim}
use mathlib.Core.List.{List, [], ◌∷◌, map}
use mathlib.Core.Option.{Option, none, some}
use Prim.Native.Nat.{ℕ, ◌+◌, ◌-◌, ◌*◌, ◌≤◌, ◌<◌}
use native.Mathlib.Omega.{arith}
use lib.ListN.{length, get_or}
use lib.Arith.{digits_lt}
use Rattle.lengths.specs.declared.Length.{Length}
use Rattle.lists.specs.Lists.{Every, member, sum_of}
use Rattle.lengths.specs.Rule.{plus_step}
use Rattle.ground.specs.Compass.{Dir, dirs, opposite, step_of}
use Rattle.ground.specs.Grid.{Grid, grid_of, neighbour, flows_in, inflow_value, inflow_record}
use Rattle.ground.specs.Accumulation.{subaccumulation}
use Rattle.ground.proofs.Cells.{ground_within, flow_ground, points_flow}
use Rattle.ground.proofs.Ground.{sub_at_most}
use Rattle.search.specs.Neighbours.{inflow_in, cells_of, cells_in}
use Rattle.search.proofs.Neighbours.{cells_above_lem}
use Rattle.moves.specs.Lent.{OnCell}
use Rattle.moves.proofs.Spots.{size}
use Rattle.notes.specs.Notes.{cells_held}
use Rattle.upstream.specs.Ready.{Ready, OnGround}
use Rattle.stack.specs.declared.Pending.{Pending}
use Rattle.stack.specs.Pending.{on_top, inflows_above}
use Rattle.stack.specs.Draining.{Waits, cells_pending}
use Rattle.stack.proofs.Above.{Follows, follows, few_pending, some_cells}

module _ {rows cols : ℕ} {codes outlets subaccumulations : List ℕ}
    (ready : Ready rows cols codes outlets subaccumulations) {row col : ℕ}
    (at : OnGround rows cols codes row col) where
  abbrev g : Grid
  g = grid_of rows cols codes

  abbrev x : ℕ
  x = row * cols + col

  abbrev sub : ℕ → ℕ
  sub y = subaccumulation g outlets y

  pub on_cell : OnCell rows cols codes row col
  on_cell = record { grid = ready.grid; row_in = at.row_in; col_in = at.col_in }

  -- its number is an index, and small
  pub indexed : (x < rows * cols) × (rows * cols ≤ 16777216) × (rows * cols ≤ length codes)
      × (rows * cols ≤ length subaccumulations)
  indexed = (
    digits_lt at.row_in at.col_in,
    size ready.grid.sides,
    ready.grid.has_codes,
    ready.has_subaccumulations,
  )

  pub read : cells_held (get_or subaccumulations x 0) ≡ sub x
  read = ready.filled x indexed.0

  pub small_cells : sub x ≤ 16777216
  small_cells = omega (arith, sub_at_most g ready.lent ready.agreed outlets x at.solid, indexed.1)

  pub one_cell : 1 ≤ sub x
  one_cell = some_cells g outlets ready.lent ready.agreed x at.solid

  module _ (len : Length) where
    abbrev above : List Pending
    above = inflows_above g outlets x len dirs

    pub followed : Follows g outlets ready.lent ready.agreed x len dirs
    followed = follows g outlets ready.lent ready.agreed x len dirs

    -- the cell itself is one more
    pub cells_but_one : cells_pending g outlets above + 1 ≡ sub x
    cells_but_one = omega (
      arith,
      followed.cells,
      cells_above_lem g ready.lent ready.agreed outlets x at.solid,
    )

    pub all_above_lem : (end : ℕ) → 3 * (len.straight + len.diagonal + sub x) ≤ end
        → Every (Waits g outlets end) above
    all_above_lem end h = followed.all_wait end (omega (arith, cells_but_one, followed.cells))

    pub few_above : length above + 1 ≤ sub x
    few_above =
        let end = 3 * (len.straight + len.diagonal + sub x) in
        omega (
          arith,
          few_pending g outlets ready.lent ready.agreed end above (all_above_lem end (omega arith)),
          cells_but_one,
        )

    -- where there is room for all its cells, there is room for them
    pub room_above : (n top m : ℕ) → n ≡ sub x → 3 * (top + n) ≤ m → 3 * (top + length above) ≤ m
    room_above n top m e h = omega (arith, few_above, e, h)

    -- a headwater has none
    pub none_above : sub x ≡ 1 → above ≡ []
    none_above e = empty above (omega (arith, few_above))
      where
        empty : (ws : List Pending) → length ws ≤ 0 → ws ≡ []
        empty [] h = refl
        empty (w ∷ ws) h = absurd (omega arith)

  -- ---- the outlets that flow in

  abbrev value : Dir → ℕ
  value d = cells_held (inflow_value g subaccumulations d (neighbour g x d))

  -- a direction in which no outlet flows in, and one in which an outlet does
  side : (d : Dir)
      → ((inflow_in g [] x d ≡ inflow_in g outlets x d) × (cells_of g outlets (inflow_in g outlets x d) ≤ value d))
      ⊎ ((cells_of g outlets (inflow_in g outlets x d) ≡ 0) × (1 ≤ value d))
  unfolding inflow_in
  side d = by_place (neighbour g x d) refl
    where
      Side : Type 0
      Side = ((inflow_in g [] x d ≡ inflow_in g outlets x d) × (cells_of g outlets (inflow_in g outlets x d) ≤ value d))
          ⊎ ((cells_of g outlets (inflow_in g outlets x d) ≡ 0) × (1 ≤ value d))

      by_test : (y : ℕ) → neighbour g x d ≡ some y → (b : Bool) → flows_in g d (some y) ≡ b → (c : Bool)
          → member y outlets ≡ c → Side
      by_test y n false f c o = inl (rw (n, f), rw (n, f) (omega arith))
      by_test y n true f c o =
          let v = flow_ground g y (opposite d) (points_flow g (opposite d) y f) in
          let e = ready.filled y (ground_within g y v) in
          flowing y n f e (some_cells g outlets ready.lent ready.agreed y v) c o
        where
          flowing : (y : ℕ) → neighbour g x d ≡ some y → flows_in g d (some y) ≡ true
              → cells_held (get_or subaccumulations y 0) ≡ sub y → 1 ≤ sub y → (c : Bool) → member y outlets ≡ c → Side
          flowing y n f e h false o = inl (rw (n, f, o), rw (n, f, o) (omega arith))
          flowing y n f e h true o = inr (rw (n, f, o), rw (n, f) (omega arith))

      by_place : (p : Option ℕ) → neighbour g x d ≡ p → Side
      by_place none n = inl (rw n, rw n (omega arith))
      by_place (some y) n = by_test y n (flows_in g d (some y)) refl (member y outlets) refl

  -- if the sums are the same, none does
  module _ (len : Length) where
    record Alike (ds : List Dir) : Type 0 where
      no_fewer : cells_in g outlets ds x ≤ sum_of (map value ds)
      same : sum_of (map value ds) ≤ cells_in g outlets ds x
          → inflows_above g [] x len ds ≡ inflows_above g outlets x len ds

    alike : (ds : List Dir) → Alike ds
    unfolding cells_in sum_of inflows_above
    alike [] = record { no_fewer = omega arith; same = λ h. refl }
    alike (d ∷ ds) = ⊎_elim (λ s. same_side s (alike ds)) (λ s. outlet_side s (alike ds)) (side d)
      where
        same_side : (inflow_in g [] x d ≡ inflow_in g outlets x d)
            × (cells_of g outlets (inflow_in g outlets x d) ≤ value d)
            → Alike ds → Alike (d ∷ ds)
        same_side s ih = record {
          no_fewer = omega (arith, s.1, ih.no_fewer);
          same = λ h. rw s.0
              (ap (on_top cols (plus_step len (step_of (opposite d))) (inflow_in g outlets x d))
              (ih.same (omega (arith, s.1))));
        }

        outlet_side : (cells_of g outlets (inflow_in g outlets x d) ≡ 0) × (1 ≤ value d) → Alike ds → Alike (d ∷ ds)
        outlet_side s ih = record {
          no_fewer = omega (arith, s.0, ih.no_fewer);
          same = λ h. absurd (omega (arith, s.0, s.1, ih.no_fewer));
        }

    pub not_outlet : {values : List ℕ} → values ≡ inflow_record g subaccumulations x → {n : ℕ} → n ≡ sub x
        → sum_of (map cells_held values) ≡ n - 1 → inflows_above g [] x len dirs ≡ inflows_above g outlets x len dirs
    unfolding inflow_record
    not_outlet v {n} is-n e = (alike dirs).same
        (omega (
          arith,
          ap (λ (ws : List ℕ). sum_of (map cells_held ws)) v,
          e,
          is-n,
          cells_above_lem g ready.lent
              ready.agreed outlets x at.solid,
        ))
