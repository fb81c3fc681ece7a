-- The tributaries of a cell are listed, one direction after the other.
-- Assumes nothing.
use mathlib.Core.Path.{◌≡◌, refl, ap}
use mathlib.Core.Bool.{Bool, true, false, cond}
use mathlib.Core.List.{List, [], ◌∷◌, ◌++◌}
use Prim.Native.Nat.{ℕ, ◌+◌, ◌*◌, ◌/◌, ◌%◌, ◌<◌, ◌^◌}
use native.Mathlib.Omega.{arith}
use lib.Arith.{digits_lt}
use lib.ListN.{length, get_or, set, take, length-append}
use Rattle.lists.specs.Lists.{member}
use Rattle.ground.specs.Compass.{Dir, dirs}
use Rattle.ground.specs.Grid.{grid_of}
use Rattle.std.specs.Prelude.{Option, Some, None}
use Rattle.cells.specs.declared.Cell.{Cell}
use Rattle.moves.specs.Moves.{dir_at}
use Rattle.moves.specs.Walks.{FlowsFrom}
use Rattle.notes.specs.Notes.{with_inside}
use Rattle.gathering.specs.Gathering.{tributaries, CanFollow, ListsFrom}
use Rattle.gathering.proofs.Tributaries.{from_first, from_next, from_few, from_off, from_outlet, from_on}
use Rattle.gathering.proofs.Following.{follow_none, follow_one, follow_then, enter_none, enter_one, enter_then}
use Rattle.gathering.proofs.Following.{noted_still}

-- what flows into a cell, outlets left out
abbrev into : (rows cols : ℕ) (codes outlets : List ℕ) (row col : ℕ) → List Dir → List ℕ
into rows cols codes outlets row col = tributaries (grid_of rows cols codes) outlets (row * cols + col)

-- ---- one neighbour

module _ {rows cols : ℕ} {codes outlets : List ℕ} {row col k n : ℕ} {grid list : List ℕ}
    (can : CanFollow rows cols codes outlets row col n grid list
    (length (into rows cols codes outlets row col (dir_at k ∷ []))))
    {s : Option Cell} (p : FlowsFrom rows cols codes row col k s) where
  abbrev there : List ℕ
  there = into rows cols codes outlets row col (dir_at k ∷ [])

  abbrev Lists : ℕ → List ℕ → List ℕ → Type 0
  Lists = ListsFrom rows cols codes outlets row col (dir_at k ∷ []) n grid list

  lists_none : there ≡ [] → Lists n grid list
  lists_none e = record { follow = rw e (follow_none can.on_list); enters = rw e enter_none }

  pub lists_off : s ≡ None → Lists n grid list
  lists_off e = lists_none (from_off outlets p e)

  module _ {y : Cell} (e : s ≡ Some y) where
    abbrev at : ℕ
    at = y.row * cols + y.col

    abbrev note : ℕ
    note = get_or grid at 0 / 2 ^ 29 % 2

    inside : at < rows * cols
    inside = digits_lt (p.row_in y e) (p.col_in y e)

    -- an outlet has its note,
    is_noted : note ≡ cond (member at outlets) 1 0
    is_noted = can.noted.outlet_notes at inside

    pub lists_outlet : note ≡ 1 → Lists n grid list
    lists_outlet h = lists_none (from_outlet outlets p e (go (member at outlets) is_noted))
      where
        go : (b : Bool) → note ≡ cond b 1 0 → b ≡ true
        go true q = refl
        go false q = absurd (omega arith)

    -- and another cell has none
    module _ (h : note ≡ 1 → ⊥) where
      found : there ≡ at ∷ []
      found = from_on outlets p e (go (member at outlets) is_noted)
        where
          go : (b : Bool) → note ≡ cond b 1 0 → b ≡ false
          go true q = absurd (h q)
          go false q = refl

      pub one_fits : n < length list
      one_fits = omega (arith, can.room, ap length found)

      pub lists_on : Lists (n + 1) (set grid at (with_inside (get_or grid at 0))) (set list n (y.row * 4096 + y.col))
      lists_on = record {
        follow = rw found (follow_one can.on_list one_fits (p.row_in y e) (p.col_in y e)
            can.on.grid.sides.cols_small);
        enters = rw found (enter_one inside can.noted.has_room);
      }

-- ---- all neighbours

module _ {rows cols : ℕ} {codes outlets : List ℕ} {row col n : ℕ} {grid list : List ℕ}
    (can : CanFollow rows cols codes outlets row col n grid list
    (length (into rows cols codes outlets row col dirs))) where
  abbrev after : List Dir → List ℕ
  after ds = into rows cols codes outlets row col ds

  abbrev Listed : List Dir → ℕ → List ℕ → List ℕ → Type 0
  Listed ds = ListsFrom rows cols codes outlets row col ds n grid list

  pub lists_first : Listed (take 0 dirs) n grid list
  lists_first =
      let e = from_first (grid_of rows cols codes) outlets (row * cols + col) in
      record { follow = rw e (follow_none can.on_list); enters = rw e enter_none }

  module _ {k end : ℕ} {grid' list' : List ℕ} (p : Listed (take k dirs) end grid' list') where
    module _ (h : k < 8) where
      next : after (take (k + 1) dirs) ≡ after (take k dirs) ++ after (dir_at k ∷ [])
      next = from_next (grid_of rows cols codes) outlets (row * cols + col) k h

      pub can_one : CanFollow rows cols codes outlets row col end grid' list' (length (after (dir_at k ∷ [])))
      can_one = record {
        on = can.on;
        noted = noted_still can.noted p.enters;
        on_list = p.follow.on_list;
        room = omega (
          arith,
          can.room,
          p.follow.count,
          p.follow.kept.same_length,
          ap length next,
          length-append (after (take k dirs)) (after (dir_at k ∷ [])),
          from_few (grid_of rows cols codes) outlets (row * cols + col) (k + 1),
        );
      }

      pub lists_next : {r : ℕ} {grid'' list'' : List ℕ}
          → ListsFrom rows cols codes outlets row col (dir_at k ∷ []) end grid' list' r grid'' list''
          → Listed (take (k + 1) dirs) r grid'' list''
      lists_next q = record {
        follow = rw next (follow_then p.follow q.follow);
        enters = rw next (enter_then p.enters q.enters);
      }
