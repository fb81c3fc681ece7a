-- The cells of a subwatershed are gathered: the outlet first, then the tributaries of one listed cell after the other.
-- Assumes nothing.
use mathlib.Core.Path.{◌≡◌, sym, ap, ◌∙◌}
use mathlib.Core.List.{List, [], ◌∷◌, ◌++◌}
use Prim.Native.Nat.{ℕ, ◌+◌, ◌-◌, ◌*◌, ◌/◌, ◌%◌, ◌≤◌, ◌<◌}
use native.Mathlib.Omega.{arith}
use lib.Arith.{digits_lt}
use lib.ListN.{length, get_or, set, take, length-append}
use lib.Seq.{get_or-take, length-take-le}
use Rattle.lists.specs.Slices.{Kept}
use Rattle.lists.proofs.Lists.{get_d_map}
use Rattle.lists.proofs.Kept.{kept_all, kept_then, kept_wider}
use Rattle.ground.specs.Compass.{dirs}
use Rattle.ground.specs.Grid.{Grid, grid_of}
use Rattle.ground.specs.Accumulation.{subaccumulation}
use Rattle.ground.proofs.Ground.{sub_size}
use Rattle.notes.specs.Notes.{with_inside}
use Rattle.gathering.specs.Gathering.{cell_of, listed, exchanged, tributaries, OnList, Enters, Follow, CanFollow}
use Rattle.gathering.specs.Gathering.{ListsFrom, NewestFirst, CanGather, Gathers}
use Rattle.gathering.proofs.Following.{follow_one, enter_one, enter_then, enter_same, noted_still}
use Rattle.gathering.proofs.Exchanging.{exchange, same_members, listed_length, listed_exchanged, on_exchanged}
use Rattle.gathering.proofs.Exchanging.{kept_exchanged}
use Rattle.gathering.proofs.Reaching.{Outlet, Reached, reached_few, reached_first, reached_next, reached_cells}
use Rattle.gathering.proofs.Reaching.{reached_exchanged}

-- cells that are listed, the outlet among them, and entered since before the outlet was; of the first k all tributaries
-- are among them
pub record Gathered (rows cols : ℕ) (codes outlets : List ℕ) (o : ℕ) (grid list : List ℕ) (n k : ℕ)
    (grid' list' : List ℕ) : Type 0 where
  pub on_list : OnList rows cols list' n
  pub kept : Kept n list list'
  pub enters : {old : List ℕ} → Enters (rows * cols) (o ∷ []) old grid
      → Enters (rows * cols) (listed cols list' n) old grid'
  pub reached : Reached (grid_of rows cols codes) outlets o k (listed cols list' n)

module _ {rows cols : ℕ} {codes outlets : List ℕ} {row col : ℕ} {grid list : List ℕ}
    (can : CanGather rows cols codes outlets row col grid list) where
  abbrev g : Grid
  g = grid_of rows cols codes

  abbrev o : ℕ
  o = row * cols + col

  outlet : Outlet g outlets o
  outlet = record {
    accumulation = can.accumulation;
    agreed = can.agreed;
    outlet_is = can.outlet_is;
    solid = can.solid;
  }

  some_cells : 1 ≤ subaccumulation g outlets o
  some_cells = omega (arith, sub_size g can.accumulation can.agreed outlets o can.solid)

  pub some_room : 0 < length list
  some_room = omega (arith, can.room, some_cells)

  -- the outlet
  abbrev grid₁ : List ℕ
  grid₁ = set grid o (with_inside (get_or grid o 0))

  abbrev list₁ : List ℕ
  list₁ = set list 0 (row * 4096 + col)

  outlet_listed : Follow rows cols (o ∷ []) 0 list 1 list₁
  outlet_listed = follow_one (record {
    within = omega arith;
    row_in = λ i h. absurd (omega arith);
    col_in = λ i h. absurd (omega arith);
  }) some_room can.row_in can.col_in can.grid_lent.sides.cols_small

  outlet_entered : Enters (rows * cols) (o ∷ []) grid grid₁
  outlet_entered = enter_one (digits_lt can.row_in can.col_in) can.noted.has_room

  pub gathered_first : Gathered rows cols codes outlets o grid₁ list₁ 1 0 grid₁ list₁
  gathered_first = record {
    on_list = outlet_listed.on_list;
    kept = kept_all;
    enters = λ e. rw outlet_listed.listed_are e;
    reached = rw outlet_listed.listed_are (reached_first outlet);
  }

  module _ {n k : ℕ} {grid' list' : List ℕ} (p : Gathered rows cols codes outlets o grid₁ list₁ n k grid' list') where
    few : n ≤ subaccumulation g outlets o
    few = omega (arith, reached_few outlet p.reached, listed_length p.on_list)

    -- the last of them comes next
    module _ (h : k < n) where
      abbrev cells : List ℕ
      cells = listed cols list' n

      last : n - 1 < n
      last = omega arith

      last_in : n - 1 < length cells
      last_in = omega (arith, last, listed_length p.on_list)

      same : listed cols (exchanged list' k (n - 1)) n ≡ exchanged cells k (n - 1)
      same = listed_exchanged p.on_list h last

      gathered_exchanged : Gathered rows cols codes outlets o grid₁ list₁ n k grid' (exchanged list' k (n - 1))
      gathered_exchanged = record {
        on_list = on_exchanged p.on_list h last;
        kept = kept_then p.kept (kept_exchanged p.on_list h last);
        enters = λ e. rw same (enter_same (same_members (exchange cells k (n - 1) (omega (arith, last_in)) last_in))
            (p.enters e));
        reached = rw same (reached_exchanged outlet p.reached (omega arith) last_in);
      }

      module _ {cell : ℕ} {list'' : List ℕ} (newest : NewestFirst k n list' cell list'') where
        now_next : Gathered rows cols codes outlets o grid₁ list₁ n k grid' list''
        now_next = rw newest.list_is gathered_exchanged

        -- what flows into it
        abbrev more : List ℕ
        more = tributaries g outlets (cell_of cols cell) dirs

        cell_is : cell_of cols cell ≡ get_or (listed cols list'' n) k 0
        cell_is = ap (cell_of cols) (newest.number ∙ sym (get_or-take n list'' k 0 h))
            ∙ sym (get_d_map (cell_of cols) (take n list'') k 0
            (omega (arith, length-take-le n list'' now_next.on_list.within)))

        longer : Reached g outlets o (k + 1) (listed cols list'' n ++ more)
        longer = rw cell_is (reached_next outlet now_next.reached (omega (arith, listed_length now_next.on_list)))

        pub can_follow : CanFollow rows cols codes outlets (cell / 4096) (cell % 4096) n grid' list'' (length more)
        can_follow = record {
          on = record {
            grid = can.grid_lent;
            row_in = rw newest.number (now_next.on_list.row_in k h);
            col_in = rw newest.number (now_next.on_list.col_in k h);
          };
          noted = noted_still can.noted (now_next.enters outlet_entered);
          on_list = now_next.on_list;
          room = omega (
            arith,
            can.room,
            now_next.kept.same_length,
            outlet_listed.kept.same_length,
            listed_length now_next.on_list,
            length-append (listed cols list'' n) more,
            reached_few outlet longer,
          );
        }

        pub gathered_next : {r : ℕ} {grid'' list''' : List ℕ}
            → ListsFrom rows cols codes outlets (cell / 4096) (cell % 4096) dirs n grid' list'' r grid'' list'''
            → Gathered rows cols codes outlets o grid₁ list₁ r (k + 1) grid'' list'''
        gathered_next q = record {
          on_list = q.follow.on_list;
          kept = kept_then (kept_wider (omega (arith, q.follow.count)) now_next.kept) q.follow.kept;
          enters = λ e. rw q.follow.listed_are (enter_then (now_next.enters e) q.enters);
          reached = rw q.follow.listed_are longer;
        }

    -- at the end
    pub gathers : n ≤ k → Gathers rows cols codes outlets o grid list n grid' list'
    gathers h = record {
      on_list = p.on_list;
      cells = reached_cells outlet p.reached (omega (arith, listed_length p.on_list));
      few = few;
      kept = kept_then (kept_wider some_cells outlet_listed.kept) (kept_wider few p.kept);
      enters = p.enters outlet_entered;
    }
