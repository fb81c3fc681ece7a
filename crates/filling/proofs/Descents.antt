-- What looking at a cell and passing cells down do to the words of the lent grid.
-- Assumes nothing.
use mathlib.Core.Path.{◌≡◌, refl, sym, ◌∙◌, subst}
use mathlib.Core.Bool.{Bool, true, false}
use mathlib.Core.List.{List}
use mathlib.Core.Option.{none, some}
use Prim.Native.Nat.{ℕ, suc, ◌+◌, ◌-◌, ◌*◌, ◌%◌, ◌≤◌, ◌<◌, ◌^◌}
use native.Mathlib.Nat.{mul-le-mul}
use native.Mathlib.Numerals.{add-one}
use native.Mathlib.Omega.{arith}
use lib.ListN.{length, get_or, set}
use lib.Seq.{get_or-set_same, get_or-set_other}
use Rattle.std.specs.Prelude.{Option, Some, None}
use Rattle.std.proofs.lemmas.Option.{none-some}
use Rattle.downstream.specs.declared.NumberedCell.{NumberedCell}
use Rattle.lists.specs.Lists.{sum_of}
use Rattle.ground.specs.Grid.{Grid, grid_of, cell_count, ground, next}
use Rattle.ground.proofs.Cells.{ground_within}
use Rattle.filling.specs.Packed.{Packed}
use Rattle.filling.specs.Filling.{Fillable, flag_of, next_cut, ups_cut, Looked, Down, Going, Passed}
use Rattle.moves.specs.Walks.{Flows}
use Rattle.lists.specs.Slices.{Kept}
use Rattle.filling.proofs.Passing.{
  partial_at_most,
  look_ground,
  look_null,
  look_head,
  pass_end,
  pass_room,
  pass_on,
  pass_stop,
}
use Rattle.filling.proofs.Flags.{
  flag_le,
  flag_mod,
  cut_network,
  cut_few,
  cut_flagged,
  cut_plain,
  plain,
  cut_end,
}
use Rattle.filling.proofs.Outlets.{flows_ground}
use Rattle.filling.proofs.Done.{tally_le}
use Rattle.lists.proofs.Kept.{sum_set}

-- the bounds of a word
pub word_bounds : (g : Grid) (outlets l : List ℕ) {i done : ℕ} {busy : ℕ → Bool}
    → Packed (ups_cut g outlets) (ground g) (cell_count g) (flag_of outlets) (λ y. get_or l y 0) i busy done
    → (x : ℕ) → ground g x ≡ true
    → (flag_of outlets x < get_or l x 0) × (get_or l x 0 ≤ flag_of outlets x + (8 * 2 ^ 25 + cell_count g))
word_bounds g outlets l p x v = (
  omega (arith, p.is_word x v, p.is_partial x v),
  omega (
    arith,
    p.is_word x v,
    cut_few g outlets p.passed x,
    partial_at_most (cut_network g outlets) p x v,
  ),
)

module _ {rows cols : ℕ} {codes outlets l : List ℕ} (f : Fillable rows cols codes outlets l) where
  abbrev land : Grid
  land = grid_of rows cols codes

  small : rows * cols ≤ 4096 * 4096
  small = mul-le-mul f.grid.sides.rows_small f.grid.sides.cols_small

  -- ---- a cell is looked at

  module _ {i : ℕ} (done : ℕ) (inside : i < rows * cols) (p : Looked (grid_of rows cols codes) outlets l i done) where
    pub looked_small : done ≤ 4096 * 4096
    unfolding Looked
    looked_small = omega (arith, tally_le p.tally, small)

    -- a word is 0 at a null cell alone
    pub look_none : get_or l i 0 ≡ 0 → Looked (grid_of rows cols codes) outlets l (i + 1) (done + 1)
    unfolding Looked
    look_none z = rw (add-one i, add-one done) (look_null (cut_network land outlets) p inside (go (ground land i) refl))
      where
        go : (b : Bool) → ground land i ≡ b → ground land i ≡ false
        go true v = absurd (omega (arith, word_bounds land outlets l p i v))
        go false v = v

    pub look_no : (get_or l i 0 ≡ 0 → ⊥) → (get_or l i 0 % 2 ^ 30 ≡ 1 → ⊥)
        → Looked (grid_of rows cols codes) outlets l (i + 1) done
    unfolding Looked
    look_no w n = rw (add-one i) (look_ground (cut_network land outlets) p (go (ground land i) refl) no_head)
      where
        go : (b : Bool) → ground land i ≡ b → ground land i ≡ true
        go true v = v
        go false v = absurd (w (p.null_word i inside v))

        no_head : get_or l i 0 ≡ flag_of outlets i + 1 → ⊥
        no_head q = n (flag_mod outlets i (get_or l i 0) (omega arith) (omega arith) ∙ omega arith)

    pub look_yes : get_or l i 0 % 2 ^ 30 ≡ 1 → Down (grid_of rows cols codes) outlets l (i + 1) i done
    unfolding Looked Down
    look_yes q = rw (add-one i) (look_head (cut_network land outlets) p solid word)
      where
        by : (b : Bool) → ground land i ≡ b → ground land i ≡ true
        by true v = v
        by false v = absurd (omega (arith, q, p.null_word i inside v))

        solid : ground land i ≡ true
        solid = by (ground land i) refl

        word : get_or l i 0 ≡ flag_of outlets i + 1
        word =
            let b = word_bounds land outlets l p i solid in
            omega (arith, q, small, b, flag_mod outlets i (get_or l i 0) (omega (arith, b)) (omega (arith, b, small)))

  -- ---- a cell is passed down

  module _ (i x done : ℕ) (d : Down (grid_of rows cols codes) outlets l i x done) where
    -- one cell more is at most as many as there are
    pub done_small : done ≤ 4096 * 4096
    unfolding Down
    done_small = omega (arith, tally_le d.held.tally, small)

    here_bounds : (flag_of outlets x < get_or l x 0) × (get_or l x 0 ≤ flag_of outlets x + rows * cols)
    unfolding Down
    here_bounds = (
      omega (arith, d.held.is_word x d.is_ground, d.held.is_partial x d.is_ground),
      omega (
        arith,
        d.held.is_word x d.is_ground,
        d.waits,
        partial_at_most (cut_network land outlets) d.held x d.is_ground,
      ),
    )

    ended : next_cut land outlets x ≡ none → Looked land outlets l i (done + 1)
    unfolding Down Looked
    ended e = rw (add-one done) (pass_end (cut_network land outlets) d e)

    pub down_outlet : 2 ^ 30 ≤ get_or l x 0 → Looked (grid_of rows cols codes) outlets l i (done + 1)
    down_outlet h = ended (cut_flagged land outlets x (omega (arith, here_bounds, small)))

    pub down_end : next (grid_of rows cols codes) x ≡ none → Looked (grid_of rows cols codes) outlets l i (done + 1)
    down_end e = ended (cut_end land outlets x e)

    module _ (low : get_or l x 0 < 2 ^ 30) {z : ℕ} (to : Flows (grid_of rows cols codes) x z) where
      abbrev w : ℕ
      w = get_or l z 0 + get_or l x 0 - 2 ^ 25

      abbrev new : List ℕ
      new = set l z (get_or l z 0 + get_or l x 0 - 2 ^ 25)

      steps : next_cut land outlets x ≡ some (record { cell = z; step = to.0 })
      steps = cut_plain land outlets x (omega (arith, here_bounds)) ∙ to.1

      z_ground : ground land z ≡ true
      z_ground = flows_ground land x z to

      in_z : z < length l
      in_z = omega (arith, ground_within land z z_ground, f.has_words)

      z_bounds : (flag_of outlets z < get_or l z 0) × (get_or l z 0 ≤ flag_of outlets z + (8 * 2 ^ 25 + rows * cols))
      unfolding Down
      z_bounds = word_bounds land outlets l d.held z z_ground

      room : flag_of outlets z + 2 ^ 25 ≤ get_or l z 0
      unfolding Down
      room = pass_room (cut_network land outlets) d (plain land outlets) steps

      -- the cell is no outlet, so its word is small
      x_small : get_or l x 0 ≤ rows * cols
      x_small = omega (arith, here_bounds, plain land outlets x (record { cell = z; step = to.0 }) steps)

      pub down_fits : (get_or l z 0 + get_or l x 0 < 2 ^ 32) × (2 ^ 25 ≤ get_or l z 0 + get_or l x 0)
      down_fits = (omega (arith, z_bounds, flag_le outlets z, x_small, small), omega (arith, room))

      pub down_less : sum_of (set l z (get_or l z 0 + get_or l x 0 - 2 ^ 25)) < sum_of l
      down_less = omega (arith, sum_set l z w in_z, x_small, small, room)

      z_mod : w % 2 ^ 30 ≡ w - flag_of outlets z
      z_mod = flag_mod outlets z w (omega (arith, room)) (omega (arith, z_bounds, x_small, small))

      there : get_or new z 0 ≡ w
      there = get_or-set_same l z w 0 in_z

      pub down_on : (get_or l z 0 + get_or l x 0 - 2 ^ 25) % 2 ^ 30 < 2 ^ 25
          → Down (grid_of rows cols codes) outlets (set l z (get_or l z 0 + get_or l x 0 - 2 ^ 25)) i z (done + 1)
      unfolding Down
      down_on h = rw (add-one done) (pass_on (cut_network land outlets) d (plain land outlets) steps there
          (λ y n. get_or-set_other l z y w 0 n) (omega (arith, h, z_mod, room, there)))

      pub down_stop : 2 ^ 25 ≤ (get_or l z 0 + get_or l x 0 - 2 ^ 25) % 2 ^ 30
          → Looked (grid_of rows cols codes) outlets (set l z (get_or l z 0 + get_or l x 0 - 2 ^ 25)) i (done + 1)
      unfolding Down Looked
      down_stop h = rw (add-one done) (pass_stop (cut_network land outlets) d (plain land outlets) steps there
          (λ y n. get_or-set_other l z y w 0 n) (omega (arith, small)) (omega (arith, h, z_mod, room, there)))

-- ---- the way down

module _ {g : Grid} {outlets : List ℕ} {i done : ℕ} where
  ways_end : {l m : List ℕ} → Kept (cell_count g) l m → Looked g outlets m i done → Going g outlets i done l m None
  ways_end k p = record {
    is_down = λ x e. absurd (none-some x e);
    is_at = λ x e. absurd (none-some x e);
    row_in = λ x e. absurd (none-some x e);
    col_in = λ x e. absurd (none-some x e);
    done_is = λ e. p;
    kept = k;
  }

  module _ {cell : NumberedCell} (row_in : cell.cell.row < g.rows) (col_in : cell.cell.col < g.cols)
      (is_at : cell.at ≡ cell.cell.row * g.cols + cell.cell.col) where
    goes_on : {l m : List ℕ} → Kept (cell_count g) l m → Down g outlets m i cell.at done
        → Going g outlets i done l m (Some cell)
    goes_on {m = m} k d = record {
      is_down = λ x e. let q : cell ≡ x = cc in subst (λ (y : NumberedCell). Down g outlets m i y.at done) q d;
      is_at = λ x e. let q : cell ≡ x = cc in
          subst (λ (y : NumberedCell). y.at ≡ y.cell.row * g.cols + y.cell.col) q is_at;
      row_in = λ x e. let q : cell ≡ x = cc in subst (λ (y : NumberedCell). y.cell.row < g.rows) q row_in;
      col_in = λ x e. let q : cell ≡ x = cc in subst (λ (y : NumberedCell). y.cell.col < g.cols) q col_in;
      done_is = λ e. absurd (none-some cell (sym e));
      kept = k;
    }

    pub passed_on : {l m : List ℕ} → Kept (cell_count g) l m → Down g outlets m i cell.at done → sum_of m < sum_of l
        → Passed g outlets i done l m (Some cell)
    passed_on k d h = record { going = goes_on k d; less = λ x e. h }

  pub passed_end : {l m : List ℕ} → Kept (cell_count g) l m → Looked g outlets m i done
      → Passed g outlets i done l m None
  passed_end k p = record { going = ways_end k p; less = λ x e. absurd (none-some x e) }

-- its measure: what the words add up to, and nothing at its end
abbrev pub ahead : Option NumberedCell → ℕ → ℕ
ahead None n = 0
ahead (Some cell) n = suc n
