-- Laws of the pending cells in the working space: one is put on, one is taken off, stores elsewhere.
-- Assumes nothing.
use mathlib.Core.Path.{◌≡◌, refl, sym, ap, ◌∙◌}
use mathlib.Core.List.{List, [], ◌∷◌, ◌++◌, append_assoc}
use mathlib.Core.Option.{Option, none, some}
use Prim.Native.Nat.{ℕ, zero, suc, ◌+◌, ◌-◌, ◌*◌, ◌≤◌, ◌<◌}
use native.Mathlib.Numerals.{add-one}
use native.Mathlib.Omega.{arith}
use lib.ListN.{length, get_or, set, drop, length-set, length-append}
use lib.Seq.{get_or-set_same, get_or-set_other, drop-cons}
use lib.Arith.{digits_div, digits_mod}
use Rattle.lengths.specs.declared.Length.{Length}
use Rattle.lengths.specs.Rule.{plus_step}
use Rattle.ground.specs.Compass.{Dir, NE, dirs, opposite, step_of}
use Rattle.ground.specs.Grid.{Grid}
use Rattle.moves.specs.Moves.{dir_at}
use Rattle.search.specs.Neighbours.{inflow_in}
use Rattle.stack.specs.declared.Pending.{Pending}
use Rattle.stack.specs.Pending.{pending_at, pending, pending_with, pending_of, on_top, inflows_above, PutOn}

-- two working spaces that are the same there
pub pending_same : (l m : List ℕ) (n : ℕ) → ((i : ℕ) → i < 3 * n → get_or l i 0 ≡ get_or m i 0) → pending l n ≡ pending m n
unfolding pending
pending_same l m zero h = refl
pending_same l m (suc n) h =
    let a : get_or l (3 * n) 0 ≡ get_or m (3 * n) 0 = h (3 * n) (omega arith) in
    let b : get_or l (3 * n + 1) 0 ≡ get_or m (3 * n + 1) 0 = h (3 * n + 1) (omega arith) in
    let c : get_or l (3 * n + 2) 0 ≡ get_or m (3 * n + 2) 0 = h (3 * n + 2) (omega arith) in
    rw (a, b, c, pending_same l m n (λ i k. h i (omega arith)))

pub pending_length : (l : List ℕ) (n : ℕ) → length (pending l n) ≡ n
unfolding pending
pending_length l zero = refl
pending_length l (suc n) = ap suc (pending_length l n)

-- the one on top
pub taken_off : (l : List ℕ) (n : ℕ) → 0 < n → pending l n ≡ pending_at l (n - 1) ∷ pending l (n - 1)
unfolding pending
taken_off l zero h = absurd (omega arith)
taken_off l (suc n) h = let e : suc n - 1 ≡ n = omega arith in rw e

-- ---- a cell put on

module _ (l : List ℕ) (n row col : ℕ) (len : Length) (room : 3 * (n + 1) ≤ length l) (small : col < 4096) where
  abbrev first : List ℕ
  first = set l (3 * n) (row * 4096 + col)

  abbrev second : List ℕ
  second = set first (3 * n + 1) len.straight

  abbrev stored : List ℕ
  stored = set second (3 * n + 2) len.diagonal

  elsewhere : (i : ℕ) → ((k : ℕ) → k < 3 → i ≡ 3 * n + k → ⊥) → get_or stored i 0 ≡ get_or l i 0
  elsewhere i h = get_or-set_other second (3 * n + 2) i len.diagonal 0 (λ e. h 2 (omega arith) (omega arith))
      ∙ get_or-set_other first (3 * n + 1) i len.straight 0 (λ e. h 1 (omega arith) (omega arith))
      ∙ get_or-set_other l (3 * n) i (row * 4096 + col) 0 (λ e. h 0 (omega arith) (omega arith))

  first_length_lem : length first ≡ length l
  first_length_lem = length-set l (3 * n) (row * 4096 + col)

  second_length : length second ≡ length l
  second_length = length-set first (3 * n + 1) len.straight ∙ first_length_lem

  place_is : get_or stored (3 * n) 0 ≡ row * 4096 + col
  place_is = get_or-set_other second (3 * n + 2) (3 * n) len.diagonal 0 (λ e. omega arith)
      ∙ get_or-set_other first (3 * n + 1) (3 * n) len.straight 0 (λ e. omega arith)
      ∙ get_or-set_same l (3 * n) (row * 4096 + col) 0 (omega arith)

  straight_is : get_or stored (3 * n + 1) 0 ≡ len.straight
  straight_is = get_or-set_other second (3 * n + 2) (3 * n + 1) len.diagonal 0 (λ e. omega arith)
      ∙ get_or-set_same first (3 * n + 1) len.straight 0 (omega (arith, first_length_lem))

  diagonal_is : get_or stored (3 * n + 2) 0 ≡ len.diagonal
  diagonal_is = get_or-set_same second (3 * n + 2) len.diagonal 0 (omega (arith, second_length))

  pub put_one : PutOn (pending_with row col len ∷ []) n l (n + 1) stored
  unfolding pending
  put_one = record {
    pending_is = rw (
      add-one n,
      place_is,
      straight_is,
      diagonal_is,
      digits_div row small,
      digits_mod row small,
      pending_same stored l n (λ i h. elsewhere i (λ k m e. omega arith)),
    );
    count = omega arith;
    beyond = λ i h. elsewhere i (λ k m e. omega arith);
  }

-- none is put on
pub put_none : (l : List ℕ) (n : ℕ) → PutOn [] n l n l
put_none l n = record { pending_is = refl; count = omega arith; beyond = λ i h. refl }

-- more are put on what was put on
pub put_more : {vs ws : List Pending} {n m r : ℕ} {old mid new : List ℕ} → PutOn ws n old m mid → PutOn vs m mid r new
    → PutOn (vs ++ ws) n old r new
put_more {vs} {ws} {n} p q = record {
  pending_is = q.pending_is ∙ ap (λ us. vs ++ us) p.pending_is ∙ sym (append_assoc vs ws _);
  count = omega (arith, p.count, q.count, length-append vs ws);
  beyond = λ i h. q.beyond i h ∙ p.beyond i (omega (arith, q.count));
}

-- ---- the neighbours put on, the last first

-- the directions from k − 1 on
dirs_before : (k : ℕ) → 0 < k → k ≤ 8 → drop (k - 1) dirs ≡ dir_at (k - 1) ∷ drop k dirs
dirs_before k a b = let e : suc (k - 1) ≡ k = omega arith in
    drop-cons dirs (k - 1) NE (omega arith) ∙ ap (λ (j : ℕ). dir_at (k - 1) ∷ drop j dirs) e

module _ (g : Grid) (outlets : List ℕ) (x : ℕ) (len : Length) where
  fewer : (ds : List Dir) (k : ℕ) → length (inflows_above g outlets x len (drop k ds))
      ≤ length (inflows_above g outlets x len ds)
  unfolding inflows_above
  fewer ds zero = omega arith
  fewer [] (suc k) = omega arith
  fewer (d ∷ ds) (suc k) = by_place (inflow_in g outlets x d) (fewer ds k)
    where
      by_place : (o : Option ℕ)
          → length (inflows_above g outlets x len (drop k ds)) ≤ length (inflows_above g outlets x len ds)
          → length (inflows_above g outlets x len (drop k ds))
          ≤ length (on_top g.cols (plus_step len (step_of (opposite d))) o (inflows_above g outlets x len ds))
      by_place none h = h
      by_place (some y) h = omega arith

  -- those from k on have been put on
  module _ (k : ℕ) (some_left : 0 < k) (within : k ≤ 8) {top at : ℕ} {old mid : List ℕ}
      (put : PutOn (inflows_above g outlets x len (drop k dirs)) top old at mid) where
    -- the one before is nothing to turn to
    pub passed : inflow_in g outlets x (dir_at (k - 1)) ≡ none
        → PutOn (inflows_above g outlets x len (drop (k - 1) dirs)) top old at mid
    unfolding inflows_above
    passed e = rw (dirs_before k some_left within, e) put

    module _ (row col : ℕ) (e : inflow_in g outlets x (dir_at (k - 1)) ≡ some (row * g.cols + col)) where
      -- its length
      abbrev own : Length
      own = plus_step len (step_of (opposite (dir_at (k - 1))))

      opened : inflows_above g outlets x len (drop (k - 1) dirs)
          ≡ pending_of g.cols own (row * g.cols + col) ∷ inflows_above g outlets x len (drop k dirs)
      unfolding inflows_above
      opened = rw (dirs_before k some_left within, e)

      -- there is room for it
      pub room_left : (m : ℕ) → 3 * (top + length (inflows_above g outlets x len dirs)) ≤ m → 3 * (at + 1) ≤ m
      room_left m h = omega (arith, put.count, ap length opened, fewer dirs (k - 1))

      -- and it is put on
      pub joined : col < g.cols → {l : Length} → l ≡ own → {r : ℕ} {new : List ℕ}
          → PutOn (pending_with row col l ∷ []) at mid r new
          → PutOn (inflows_above g outlets x len (drop (k - 1) dirs)) top old r new
      joined h e p = rw (opened, digits_div row h, digits_mod row h, sym e) (put_more put p)
