-- Cells counted one after the other, and rows.
-- Assumes nothing.
use mathlib.Core.Path.{◌≡◌, refl, sym, ◌∙◌, subst}
use mathlib.Core.Bool.{Bool, true, false}
use mathlib.Core.Logic.{◌⊎◌, inl, inr}
use mathlib.Core.List.{List}
use Prim.Native.Nat.{ℕ, ◌+◌, ◌-◌, ◌*◌, ◌≤◌, ◌<◌}
use native.Mathlib.Nat.{add-mul}
use native.Mathlib.Decide.{dec_lt}
use native.Mathlib.Omega.{arith}
use lib.ListN.{length, get_or, set, length-set}
use lib.Seq.{get_or-set_same, get_or-set_other}
use lib.Dec.{eqb}
use borrow.Author.Tests.{eqb-true, eqb-false}
use Rattle.lists.specs.Slices.{Kept}
use Rattle.ground.specs.Grid.{Grid, grid_of, cell_count}
use Rattle.moves.specs.Lent.{OnCell}
use Rattle.moves.proofs.Spots.{size, inside}
use Rattle.counting.specs.Counting.{counted_word, Countable, Counting, Counts, CountsRow}

-- a cell's number is below R × C, and there is room for it
module _ {rows cols : ℕ} {codes l : List ℕ} (p : Countable rows cols codes l) {row col : ℕ} (r : row < rows)
    (c : col < cols) where
  pub cell : OnCell rows cols codes row col
  cell = record { grid = p.grid; row_in = r; col_in = c }

  pub in_grid : (row * cols + col < rows * cols) × (rows * cols ≤ 4096 * 4096)
  in_grid = (inside cell, size p.grid.sides)

  pub in_words : {m : List ℕ} → Counting (grid_of rows cols codes) l m → row * cols + col < length m
  in_words k = omega (arith, in_grid, p.has_words, k.same_length)

-- a lent grid is as large as it was
pub countable_still : {rows cols : ℕ} {codes l m : List ℕ} → Countable rows cols codes l
    → Counting (grid_of rows cols codes) l m → Countable rows cols codes m
countable_still p k = record {
  grid = p.grid;
  some_cols = p.some_cols;
  has_words = omega (arith, k.same_length, p.has_words);
}

module _ {g : Grid} where
  pub counting_none : {l : List ℕ} → Counting g l l
  counting_none = record { same_length = refl; each = λ x. inl refl }

  -- what holds its word goes on doing so
  pub still_counted : {l m : List ℕ} → Counting g l m → (x : ℕ) → get_or l x 0 ≡ counted_word g x
      → get_or m x 0 ≡ counted_word g x
  still_counted {l} {m} c x h = go (c.each x)
    where
      go : (get_or m x 0 ≡ get_or l x 0) ⊎ ((x < cell_count g) × (get_or m x 0 ≡ counted_word g x))
          → get_or m x 0 ≡ counted_word g x
      go (inl e) = e ∙ h
      go (inr p) = p.1

  pub counting_then : {l m n : List ℕ} → Counting g l m → Counting g m n → Counting g l n
  counting_then {l} {m} {n} a b = record {
    same_length = b.same_length ∙ a.same_length;
    each = λ x. go x (b.each x) (a.each x);
  }
    where
      go : (x : ℕ) → (get_or n x 0 ≡ get_or m x 0) ⊎ ((x < cell_count g) × (get_or n x 0 ≡ counted_word g x))
          → (get_or m x 0 ≡ get_or l x 0) ⊎ ((x < cell_count g) × (get_or m x 0 ≡ counted_word g x))
          → (get_or n x 0 ≡ get_or l x 0) ⊎ ((x < cell_count g) × (get_or n x 0 ≡ counted_word g x))
      go x (inl e) (inl f) = inl (e ∙ f)
      go x (inl e) (inr p) = inr (p.0, e ∙ p.1)
      go x (inr p) q = inr p

  -- one word is written
  pub counting_set : {l : List ℕ} {i v : ℕ} → i < cell_count g → i < length l → v ≡ counted_word g i
      → Counting g l (set l i v)
  counting_set {l} {i} {v} h b e = record { same_length = length-set l i v; each = λ x. go x (eqb x i) refl }
    where
      go : (x : ℕ) (t : Bool) → eqb x i ≡ t
          → (get_or (set l i v) x 0 ≡ get_or l x 0) ⊎ ((x < cell_count g) × (get_or (set l i v) x 0 ≡ counted_word g x))
      go x true q =
          let s = eqb-true x i q in
          inr (
            omega arith,
            subst (λ (y : ℕ). get_or (set l i v) y 0 ≡ counted_word g y) (sym s)
                (get_or-set_same l i v 0 b ∙ e),
          )
      go x false q = inl (get_or-set_other l i x v 0 (eqb-false x i q))

  pub counting_kept : {l m : List ℕ} → Counting g l m → Kept (cell_count g) l m
  counting_kept {l} {m} c = record { same_length = c.same_length; rest = λ x h. go x h (c.each x) }
    where
      go : (x : ℕ) → cell_count g ≤ x
          → (get_or m x 0 ≡ get_or l x 0) ⊎ ((x < cell_count g) × (get_or m x 0 ≡ counted_word g x))
          → get_or m x 0 ≡ get_or l x 0
      go x h (inl e) = e
      go x h (inr p) = absurd (omega arith)

  -- ---- along a row

  pub row_begin : {l : List ℕ} {row from end : ℕ} → end ≤ from → CountsRow g row from end l l
  row_begin h = record { counting = counting_none; counted = λ col a b. absurd (omega arith) }

  pub row_step : {l m : List ℕ} {row from col v : ℕ} → CountsRow g row from col l m
      → row * g.cols + col < cell_count g → row * g.cols + col < length m
      → v ≡ counted_word g (row * g.cols + col)
      → CountsRow g row from (col + 1) l (set m (row * g.cols + col) v)
  row_step {l} {m} {row} {from} {col} {v} c h b e =
      let s = counting_set h b e in
      record {
        counting = counting_then c.counting s;
        counted = λ j a k. go s j a k (eqb j col) refl;
      }
    where
      go : Counting g m (set m (row * g.cols + col) v) → (j : ℕ) → from ≤ j → j < col + 1 → (t : Bool) → eqb j col ≡ t
          → get_or (set m (row * g.cols + col) v) (row * g.cols + j) 0 ≡ counted_word g (row * g.cols + j)
      go s j a k true q = rw (eqb-true j col q) (get_or-set_same m (row * g.cols + col) v 0 b ∙ e)
      go s j a k false q = still_counted s (row * g.cols + j) (c.counted j a (less (eqb-false j col q)))
        where
          less : (j ≡ col → ⊥) → j < col
          less n = omega arith

  -- the first columns of a part
  pub row_front : {l m : List ℕ} {row from end col : ℕ} → CountsRow g row from col l m → end ≤ col
      → CountsRow g row from end l m
  row_front c h = record { counting = c.counting; counted = λ j a k. c.counted j a (omega arith) }

  -- two parts of a row that meet
  pub row_then : {l m n : List ℕ} {row a b c : ℕ} → CountsRow g row a b l m → CountsRow g row b c m n
      → CountsRow g row a c l n
  row_then {row = row} {b = b} p q = record {
    counting = counting_then p.counting q.counting;
    counted = λ j h k. elim (dec_lt j b) [
      | yes i ↦ still_counted q.counting (row * g.cols + j) (p.counted j h i)
      | no i ↦ q.counted j (omega arith) k
    ];
  }

  -- ---- row by row

  pub rows_begin : {l : List ℕ} {n : ℕ} → n ≡ 0 → Counts g n l l
  rows_begin e = record { counting = counting_none; counted = λ x h. absurd (omega arith) }

  pub rows_step : {l m n : List ℕ} {row : ℕ} → Counts g (row * g.cols) l m → CountsRow g row 0 g.cols m n
      → Counts g ((row + 1) * g.cols) l n
  rows_step {l} {m} {n} {row} p q = record {
    counting = counting_then p.counting q.counting;
    counted = λ x h. elim (dec_lt x (row * g.cols)) [
      | yes i ↦ still_counted q.counting x (p.counted x i)
      | no f ↦ beyond x h (omega arith)
    ];
  }
    where
      beyond : (x : ℕ) → x < (row + 1) * g.cols → row * g.cols ≤ x → get_or n x 0 ≡ counted_word g x
      beyond x h f =
          let k : row * g.cols + (x - row * g.cols) ≡ x = omega arith in
          subst (λ (y : ℕ). get_or n y 0 ≡ counted_word g y) k
          (q.counted (x - row * g.cols) (omega arith) (omega (arith, add-mul row 1 g.cols)))
