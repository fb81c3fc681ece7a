-- What the source finds at a neighbour: whether it flows in, and whether it is marked.
-- Assumes nothing.
use mathlib.Core.Path.{◌≡◌, refl, sym, ap, ◌∙◌}
use mathlib.Core.Bool.{Bool, true, false, cond}
use mathlib.Core.List.{List}
use mathlib.Core.Option.{Option as Maybe, none, some}
use Rattle.std.specs.Prelude.{Option, Some, None, option_map}
use Rattle.std.specs.List.{find, range_with_len}
use Rattle.std.proofs.lemmas.Option.{none-some}
use Prim.Native.Nat.{ℕ, zero, suc, ◌+◌, ◌-◌, ◌*◌, ◌≤◌, ◌<◌, ◌^◌}
use native.Mathlib.Omega.{arith}
use native.Mathlib.Decide.{dec_lt}
use lib.ListN.{get_or}
use lib.Dec.{eqb, ltb}
use borrow.Author.Tests.{eq-eqb, ne_eqb, lt-ltb}
use Rattle.cells.specs.declared.Cell.{Cell}
use Rattle.moves.specs.declared.Neighbour.{Neighbour}
use Rattle.ground.specs.Compass.{opposite}
use Rattle.ground.specs.Tables.{table1}
use Rattle.ground.specs.Grid.{Grid, grid_of, neighbour}
use Rattle.ground.proofs.Cells.{code_inside}
use Rattle.moves.specs.Moves.{dir_at, neighbour_of, spot_cell}
use Rattle.moves.specs.Walks.{if_flows_in, inflow_from, FlowsFrom}
use Rattle.inflows.specs.Values.{Inner}
use Rattle.inflows.proofs.InflowRecord.{inner_spot}
use Rattle.moves.proofs.Spots.{lies}
use Rattle.downstream.specs.Flowing.{Numbered}
use Rattle.traversal.specs.Turns.{if_unmarked, unmarked_from, is_found, turns_to, Passed, NextTurn, HasNeighbour}
use Rattle.traversal.proofs.Moving.{neighbour_inside, number_is}

same_option : (o : Option ℕ) → option_map (λ n. n) o ≡ o
same_option None = refl
same_option (Some n) = refl

-- neighbours passed one by one
module _ {g : Grid} {marks : List ℕ} {x k : ℕ} where
  passed_none : k ≤ 8 → Passed g marks x k k
  passed_none h = record { at_least = omega arith; at_most = h; none_there = λ j a b. absurd (omega arith) }

  passed_more : {r : ℕ} → Passed g marks x k r → r < 8 → unmarked_from g marks x (dir_at r) ≡ none
      → Passed g marks x k (r + 1)
  passed_more {r} p h e = record {
    at_least = omega (arith, p.at_least);
    at_most = omega arith;
    none_there = λ j a b. elim (dec_lt j r) [
      | yes i ↦ p.none_there j a i
      | no i ↦ let q : r ≡ j = omega arith in ap (λ (n : ℕ). unmarked_from g marks x (dir_at n)) (sym q) ∙ e
    ];
  }

  turn_found : {n y : ℕ} → Passed g marks x k n → n < 8 → unmarked_from g marks x (dir_at n) ≡ some y
      → NextTurn g marks x k (Some n)
  turn_found {n} {y} p h e = record {
    all_passed = λ q. absurd (none-some n (sym q));
    passed = λ m q. let s : n ≡ m = cc in rw (sym s) p;
    is_turn = λ m q. let s : n ≡ m = cc in omega arith;
    found = λ m q. let s : n ≡ m = cc in rw (sym s) (y, e);
  }

  turn_over : Passed g marks x k 8 → NextTurn g marks x k None
  turn_over p = record {
    all_passed = λ q. p;
    passed = λ m q. absurd (none-some m q);
    is_turn = λ m q. absurd (none-some m q);
    found = λ m q. absurd (none-some m q);
  }

  from_passed : (n j : ℕ) → j + n ≡ 8 → Passed g marks x k j
      → NextTurn g marks x k (find (turns_to g marks x) (range_with_len j n))
  from_passed zero j e p = let q : j ≡ 8 = omega arith in turn_over (rw q at p)
  from_passed (suc n) j e p = go (unmarked_from g marks x (dir_at j)) refl (from_passed n (j + 1) (omega arith))
    where
      go : (o : Maybe ℕ) → unmarked_from g marks x (dir_at j) ≡ o
          → (Passed g marks x k (j + 1) → NextTurn g marks x k (find (turns_to g marks x) (range_with_len (j + 1) n)))
          → NextTurn g marks x k (find (turns_to g marks x) (range_with_len j (suc n)))
      go none f rest = rw f (rest (passed_more p (omega arith) f))
      go (some y) f rest = rw f (turn_found p (omega arith) f)

  -- THE NEXT TURN is the first of the directions from k on
  pub first_turn : {r : Option ℕ} {n : ℕ} → k ≤ 8 → 8 - k ≡ n
      → option_map (λ n. n) r ≡ find (turns_to g marks x) (range_with_len k n) → NextTurn g marks x k r
  first_turn {r} {n} h e q = rw (sym (same_option r) ∙ q) (from_passed n k (omega arith) (passed_none h))

-- by what flows in
module _ (g : Grid) (marks : List ℕ) (x k : ℕ) where
  none_flows : inflow_from g x (dir_at k) ≡ none → unmarked_from g marks x (dir_at k) ≡ none
  unfolding unmarked_from
  none_flows e = ap (if_unmarked marks) e

  -- the mark tells
  by_mark : {y : ℕ} → inflow_from g x (dir_at k) ≡ some y → ltb (get_or marks y 0) (2 ^ 31) ≡ turns_to g marks x k
  unfolding unmarked_from
  by_mark {y} e = go (ltb (get_or marks y 0) (2 ^ 31)) ∙ sym (ap (λ o. is_found (if_unmarked marks o)) e)
    where
      go : (b : Bool) → b ≡ is_found (cond b (some y) none)
      go true = refl
      go false = refl

  pub is_unmarked : {y : ℕ} → inflow_from g x (dir_at k) ≡ some y → get_or marks y 0 < 2 ^ 31
      → unmarked_from g marks x (dir_at k) ≡ some y
  unfolding unmarked_from
  is_unmarked {y} e h = ap (if_unmarked marks) e
      ∙ ap (λ (b : Bool). cond b (some y) none) (lt-ltb (get_or marks y 0) (2 ^ 31) h)

-- AN INNER CELL has all its neighbours, and their codes tell
module _ {rows cols row col x : ℕ} {codes offsets : List ℕ} (n : Numbered rows cols codes offsets row col x)
    (i : Inner rows cols row col) {k : ℕ} (b : k < 8) where
  abbrev there : ℕ
  there = (row + (neighbour_of (dir_at k)).row - 1) * cols + (col + (neighbour_of (dir_at k)).col - 1)

  pub inner_has : HasNeighbour (grid_of rows cols codes) x k
  inner_has = (
    there,
    ap (λ (z : ℕ). neighbour (grid_of rows cols codes) z (dir_at k)) n.is_at
        ∙ lies (inner_spot n.on i k refl) codes n.on.col_in (dir_at k) refl refl,
  )

  abbrev y : ℕ
  y = x + get_or offsets k 0 - (cols + 1)

  y_is : y ≡ inner_has.0
  y_is = omega (arith, number_is n b inner_has.1)

  pub inner_inside : x + get_or offsets k 0 - (cols + 1) < rows * cols
  inner_inside = omega (arith, y_is, neighbour_inside n b inner_has.1)

  module _ {m : Neighbour} (is_m : m ≡ neighbour_of (dir_at k)) where
    by_code : inflow_from (grid_of rows cols codes) x (dir_at k) ≡ cond (eqb (get_or codes y 0) m.back) (some y) none
    unfolding inflow_from
    by_code =
        let e : neighbour (grid_of rows cols codes) x (dir_at k) ≡ some y = inner_has.1 ∙ ap some (sym y_is) in
        let f : table1.code_of (opposite (dir_at k)) ≡ m.back = ap (λ (a : Neighbour). a.back) (sym is_m) in
        ap (if_flows_in (grid_of rows cols codes) (dir_at k)) e
        ∙ ap (λ (z : ℕ). cond (eqb z (table1.code_of (opposite (dir_at k)))) (some y) none)
        (code_inside (grid_of rows cols codes) y inner_inside)
        ∙ ap (λ (z : ℕ). cond (eqb (get_or codes y 0) z) (some y) none) f

    module _ (marks : List ℕ) where
      inner_flows : get_or codes (x + get_or offsets k 0 - (cols + 1)) 0 ≡ m.back
          → inflow_from (grid_of rows cols codes) x (dir_at k) ≡ some (x + get_or offsets k 0 - (cols + 1))
      inner_flows h = by_code ∙ ap (λ (t : Bool). cond t (some y) none) (eq-eqb (get_or codes y 0) m.back h)

      pub inner_away : (get_or codes (x + get_or offsets k 0 - (cols + 1)) 0 ≡ m.back → ⊥)
          → false ≡ turns_to (grid_of rows cols codes) marks x k
      inner_away h = sym (ap is_found (none_flows (grid_of rows cols codes) marks x k
          (by_code ∙ ap (λ (t : Bool). cond t (some y) none) (ne_eqb (get_or codes y 0) m.back h))))

      pub inner_here : get_or codes (x + get_or offsets k 0 - (cols + 1)) 0 ≡ m.back
          → ltb (get_or marks (x + get_or offsets k 0 - (cols + 1)) 0) (2 ^ 31)
          ≡ turns_to (grid_of rows cols codes) marks x k
      inner_here h = by_mark (grid_of rows cols codes) marks x k (inner_flows h)

-- ANY CELL, by the spot that is found
module _ {rows cols row col x k : ℕ} {codes : List ℕ} (at : x ≡ row * cols + col) {s : Option Cell}
    (f : FlowsFrom rows cols codes row col k s) (marks : List ℕ) where
  by_spot : inflow_from (grid_of rows cols codes) x (dir_at k) ≡ spot_cell cols s
  by_spot = ap (λ (z : ℕ). inflow_from (grid_of rows cols codes) z (dir_at k)) at ∙ sym f.is_cell

  pub spot_away : s ≡ None → false ≡ turns_to (grid_of rows cols codes) marks x k
  spot_away e = sym (ap is_found (none_flows (grid_of rows cols codes) marks x k (by_spot ∙ ap (spot_cell cols) e)))

  pub spot_here : {y : Cell} → s ≡ Some y
      → ltb (get_or marks (y.row * cols + y.col) 0) (2 ^ 31) ≡ turns_to (grid_of rows cols codes) marks x k
  spot_here e = by_mark (grid_of rows cols codes) marks x k (by_spot ∙ ap (spot_cell cols) e)
