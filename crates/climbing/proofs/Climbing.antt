-- The traversal of one subwatershed by the numbers of the source: where it stands, and each of its ways on.
-- Assumes nothing.
use mathlib.Core.Path.{◌≡◌, refl, sym, ap, ap₂, ◌∙◌, subst}
use mathlib.Core.Bool.{Bool, true, false, not, ◌||◌, or-true, true≢false}
use mathlib.Core.List.{List, [], ◌∷◌}
use mathlib.Core.Option.{Option as Maybe, none, some}
use Rattle.std.specs.Prelude.{Option, Some, None}
use Prim.Native.Nat.{ℕ, zero, suc, ◌+◌, ◌*◌, ◌%◌, ◌≤◌, ◌<◌, ◌^◌}
use native.Mathlib.Omega.{arith}
use lib.ListN.{length, get_or, take}
use lib.Seq.{get_or-set_same, get_or-set_other}
use lib.Dec.{eqb}
use borrow.Author.Tests.{eqb-true, eq-eqb, ne_eqb}
use Rattle.lists.specs.Lists.{member, different}
use Rattle.lists.proofs.Lists.{and_both}
use Rattle.lists.proofs.Counts.{also, also_same, also_or, also_in, many_more}
use Rattle.lists.proofs.Kept.{kept_all, kept_set}
use Rattle.lists.proofs.Members.{member_at, member_next, position_of}
use Rattle.cells.specs.Numbers.{RowAndColumn}
use Rattle.lengths.specs.declared.Step.{Step}
use Rattle.lengths.specs.declared.Length.{Length}
use Rattle.lengths.specs.Rule.{counts, plus_step, is_shorter}
use Rattle.ground.specs.Compass.{Dir, opposite, place_of, step_of}
use Rattle.ground.specs.Grid.{Grid, Link, grid_of, code_at, ground, neighbour, next}
use Rattle.ground.specs.Walk.{At}
use Rattle.ground.specs.Subwatershed.{is_outlet}
use Rattle.ground.proofs.Cells.{opposite_twice, ground_within, code_inside}
use Rattle.ground.proofs.GridNetwork.{network, stepped}
use Rattle.ground.proofs.FlowLengths.{arrival_up, arrival_small, step_counts}
use Rattle.answers.specs.FlowLengths.{LengthGrids, length_grids}
use Rattle.moves.specs.Moves.{dir_at, lead_of, step_by}
use Rattle.moves.proofs.Codes.{step_points}
use Rattle.moves.proofs.Spots.{size}
use Rattle.downstream.specs.Offsets.{offsets_of}
use Rattle.downstream.specs.Flowing.{Numbered}
use Rattle.downstream.proofs.Flowing.{numbered}
use Rattle.downstream.proofs.Steps.{place_small}
use Rattle.traversal.specs.Traversal.{Tributary, Traversal, Here}
use Rattle.traversal.specs.Turns.{NextTurn, HasNeighbour, HasNext}
use Rattle.traversal.proofs.Traversing.{begun, begun_here, entering, entering_here, leaving, leaving_here}
use Rattle.traversal.proofs.Tributaries.{none_ahead, found_beside, found_tributary, found_far, found_next}
use Rattle.lengthgrids.specs.Grids.{Room, GridsKept, length_below, length_above, Countable, GivesDown, GivesUp}
use Rattle.climbing.specs.Giving.{Climbable, down_at, blanks, Resting, Climbing}
use Rattle.lengthgrids.proofs.Kept.{kept_grids, kept_on, kept_room, kept_if}
use Rattle.climbing.proofs.Giving.{one_each_lem, entered_ground, given_begun, given_left, given_up, up_small}
use Rattle.climbing.proofs.Giving.{given_down}

-- ---- a list of different outlets

-- the j-th is none of those before it
different_from : (xs : List ℕ) (j : ℕ) → j < length xs → different xs ≡ true → member (get_or xs j 0) (take j xs) ≡ false
different_from [] j h d = absurd (omega arith)
different_from (x ∷ xs) zero h d = refl
different_from (x ∷ xs) (suc i) h d =
    let both = and_both (not (member x xs)) (different xs) d in
    rw (apart both.0 (eqb x (get_or xs i 0)) refl) (different_from xs i (omega arith) both.1)
  where
    inside : i < length xs
    inside = omega arith

    apart : not (member x xs) ≡ true → (b : Bool) → eqb x (get_or xs i 0) ≡ b → eqb x (get_or xs i 0) ≡ false
    apart f true e =
        let m : member x xs ≡ true = ap (λ (y : ℕ). member y xs) (eqb-true x (get_or xs i 0) e) ∙ member_at xs i inside in
        absurd (true≢false (sym f ∙ ap not m))
    apart f false e = e

pub kept_climbable : {rows cols : ℕ} {codes outlets : List ℕ} {old new : LengthGrids} → Climbable rows cols codes
    outlets old
    → GridsKept (rows * cols) old new → Climbable rows cols codes outlets new
kept_climbable c k = record {
  grid = c.grid;
  some_cols = c.some_cols;
  room = kept_room c.room k;
  on_ground = c.on_ground;
  few_outlets = c.few_outlets;
  are_different = c.are_different;
  accumulation = c.accumulation;
  agreement = c.agreement;
}

-- ---- the traversal of the outlet at place j, at a cell and a turn
pub record Standing (rows cols : ℕ) (codes outlets steps : List ℕ) (j row col x k : ℕ) (old new : LengthGrids) : Type
    0 where
  pub on : Numbered rows cols codes steps row col x
  pub turn_small : k ≤ 8
  pub kept : GridsKept (rows * cols) old new
  pub climbing : Climbing (grid_of rows cols codes) outlets j x k new

module _ {rows cols : ℕ} {codes outlets : List ℕ} {old : LengthGrids} (can : Climbable rows cols codes outlets old)
  where
    abbrev land : Grid
    land = grid_of rows cols codes

    few : rows * cols ≤ 2 ^ 24
    few = omega (arith, size can.grid.sides)

    -- every outlet has ground
    pub placed : (o : ℕ) → is_outlet (grid_of rows cols codes) outlets o ≡ true → ground (grid_of rows cols codes) o ≡ true
    placed o e =
        let p = position_of o outlets e in
        subst (λ (x : ℕ). ground land x ≡ true) p.holds (can.on_ground p.at p.inside)

    -- the step of a cell is that of its code
    step_next : (z : ℕ) (h : Link Dir) → next land z ≡ some h → step_by (lead_of (get_or codes z 0)) ≡ step_of h.step
    step_next z h e =
        let s = stepped land z h e in
        let i : z < rows * cols = ground_within land z ((network land).solid z h e) in
        ap (λ (c : ℕ). step_by (lead_of c)) (sym (code_inside land z i)) ∙ step_points (code_at land z) s.dir s.flows
        ∙ ap step_of s.is_step

    -- BEGINNING at the outlet
    module _ {steps : List ℕ} (are-steps : steps ≡ offsets_of cols) {j o : ℕ} (in_List : j < length outlets)
        (is-o : o ≡ get_or outlets j 0) (rest : Resting (grid_of rows cols codes) outlets j old) where
      listed : is_outlet land outlets o ≡ true
      listed = ap (λ (x : ℕ). member x outlets) is-o ∙ member_at outlets j in_List

      pub o_inside : o < rows * cols
      o_inside = ground_within land o (placed o listed)

      not_before : member o (take j outlets) ≡ false
      not_before = ap (λ (x : ℕ). member x (take j outlets)) is-o ∙ different_from outlets j in_List
          can.are_different

      fresh : rest.traversal.entered o ≡ false
      fresh = go (rest.traversal.entered o) refl
        where
          go : (b : Bool) → rest.traversal.entered o ≡ b → rest.traversal.entered o ≡ false
          go true e = absurd (true≢false (sym (rest.are_begun o listed e) ∙ not_before))
          go false e = e

      more : (c : ℕ) → member c (take (j + 1) outlets) ≡ (member c (take j outlets) || eqb o c)
      more c = member_next outlets j in_List c ∙ ap (λ (x : ℕ). member c (take j outlets) || eqb x c) (sym is-o)

      pub standing_begin : {row col : ℕ} → RowAndColumn cols o row col
          → Standing rows cols codes outlets steps j row col o 0 old old
      standing_begin cell = record {
        on = numbered can.grid cell o_inside are-steps;
        turn_small = omega arith;
        kept = kept_grids;
        climbing = record {
          traversal = begun (next land) (is_outlet land outlets) rest.traversal o listed fresh;
          here = begun_here (next land) (is_outlet land outlets) rest.traversal o listed fresh;
          given = given_begun land outlets rest.given o listed fresh o_inside;
          are_left = rest.are_left;
          are_begun = λ c u e. also_or (member c (take (j + 1) outlets) ≡ true) rest.traversal.entered o c e
              (λ q. more c ∙ rw (eq-eqb o c (sym q)) (or-true (member c (take j outlets))))
              (λ w. more c ∙ rw (rest.are_begun c u w));
        };
      }

    -- STANDING at a cell
    module _ {steps : List ℕ} {j row col x k : ℕ} {ds dd us ud : List ℕ}
        (at : Standing rows cols codes outlets steps j row col x k old (length_grids ds dd us ud)) where
      abbrev now : LengthGrids
      now = length_grids ds dd us ud

      abbrev t : Traversal (next land) (is_outlet land outlets)
      t = at.climbing.traversal

      pub room_now : Room (rows * cols) (length_grids ds dd us ud)
      room_now = kept_room can.room at.kept

      -- the cell has ground
      x_ground : ground land x ≡ true
      x_ground = entered_ground land outlets placed t x at.climbing.here.is_entered

      pub x_inside : x < rows * cols
      x_inside = ground_within land x x_ground

      pub cells_few : rows * cols ≤ 2 ^ 24
      cells_few = few

      marked : (c : ℕ) → is_outlet land outlets c ≡ true → 2 ^ 31 ≤ get_or dd c 0
      marked c e = omega (arith, at.climbing.given.marked c e)

      -- its mark tells whether it is an outlet
      pub outlet_is : 2 ^ 31 ≤ get_or dd x 0 → is_outlet land outlets x ≡ true
      outlet_is m = go (is_outlet land outlets x) refl
        where
          go : (b : Bool) → is_outlet land outlets x ≡ b → is_outlet land outlets x ≡ true
          go true e = e
          go false e = absurd (omega (arith, at.climbing.given.unmarked x x_inside e))

      pub not_outlet : get_or dd x 0 < 2 ^ 31 → is_outlet land outlets x ≡ false
      not_outlet m = go (is_outlet land outlets x) refl
        where
          go : (b : Bool) → is_outlet land outlets x ≡ b → is_outlet land outlets x ≡ false
          go true e = absurd (omega (arith, marked x e))
          go false e = e

      -- how far it is from its outlet
      pub depth_small : get_or ds x 0 + get_or dd x 0 % 2 ^ 31 ≤ 2 ^ 24
      depth_small =
          let r = at.climbing.given.arrived x at.climbing.here.is_entered in
          omega (
            arith,
            few,
            arrival_small land outlets x (record { cell = r.outlet; len = down_at now x }) r.arrives,
          )

      module _ {r : Option ℕ} (turn : NextTurn (grid_of rows cols codes) dd x k r) where
        -- DOWN
        module _ (over : r ≡ None) where
          ahead : (d : Dir) (y : ℕ) → Tributary (next land) (is_outlet land outlets) x d y → k ≤ place_of d → ⊥
          ahead = none_ahead land outlets dd marked at.climbing.given.unmarked x_ground turn over

          -- the outlet is left, and its subwatershed with it
          pub resting_on : j < length outlets → 2 ^ 31 ≤ get_or dd x 0
              → Resting (grid_of rows cols codes) outlets (j + 1) (length_grids ds dd us ud)
          resting_on in_List m = record {
            traversal = leaving (next land) (is_outlet land outlets) t x k at.climbing.here ahead;
            given = given_left land outlets at.climbing.given at.climbing.here ahead (outlet_is m);
            are_left = λ c e. left c (member c (take j outlets)) refl (sym (member_next outlets j in_List c) ∙ e);
            are_begun = at.climbing.are_begun;
          }
            where
              -- the cell is the outlet at place j
              it : (b : Bool) → member x (take j outlets) ≡ b → (b || eqb (get_or outlets j 0) x) ≡ true → get_or outlets j
                  0 ≡ x
              it true e f = absurd (true≢false (sym (at.climbing.are_left x e) ∙ at.climbing.here.not_left))
              it false e f = eqb-true (get_or outlets j 0) x f

              x_is : get_or outlets j 0 ≡ x
              x_is = it (member x (take j outlets)) refl
                  (sym (member_next outlets j in_List x) ∙ at.climbing.are_begun x (outlet_is m)
                  at.climbing.here.is_entered)

              left : (c : ℕ) (b : Bool) → member c (take j outlets) ≡ b → (b || eqb (get_or outlets j 0) c) ≡ true
                  → also t.left x c ≡ true
              left c true e f = also_in t.left x c (at.climbing.are_left c e)
              left c false e f = also_same t.left x c (sym (eqb-true (get_or outlets j 0) c f) ∙ x_is)

          -- the cell below takes its length
          module _ (m : get_or dd x 0 < 2 ^ 31) where
            pub has_next : HasNext (grid_of rows cols codes) x
            has_next =
                let b = t.has_below x at.climbing.here.is_entered (not_outlet m) in
                (record { cell = b.0; step = opposite b.1 }, b.2.flows)

            module _ {p : ℕ} {s : Dir} (to : next (grid_of rows cols codes) x ≡ some (record { cell = p; step = s }))
              where
                p_inside : p < rows * cols
                p_inside = ground_within land p ((network land).lands x (record { cell = p; step = s }) to)

                small : get_or us x 0 + get_or ud x 0 < 2 ^ 24
                small = up_small land outlets can.accumulation can.agreement few at.climbing.given
                    at.climbing.here ahead to (not_outlet m)

                pub countable_up : Countable x p us ud
                countable_up = record {
                  x_straight = omega (arith, x_inside, room_now.up_straight);
                  x_diagonal = omega (arith, x_inside, room_now.up_diagonal);
                  y_straight = omega (arith, p_inside, room_now.up_straight);
                  y_diagonal = omega (arith, p_inside, room_now.up_diagonal);
                  straight_small = omega (arith, small);
                  diagonal_small = omega (arith, small);
                }

                pub diagonal_up : get_or ud x 0 < 2 ^ 31
                diagonal_up = omega (arith, small)

                abbrev by_x : Length
                by_x = plus_step (length_above us ud x) (step_of s)

                pub standing_down : {row' col' k' : ℕ} {step : Step} {us' ud' : List ℕ}
                    → Numbered rows cols codes steps row' col' p → k' ≡ place_of (opposite s) + 1
                    → step ≡ step_by (lead_of (get_or codes x 0)) → GivesUp x p step us ud us' ud'
                    → Standing rows cols codes outlets steps j row' col' p k' old (length_grids ds dd us' ud')
                standing_down {k' = k'} {us' = us'} {ud' = ud'} on is_turn is_step f =
                    let f' = subst (λ (q : Step). GivesUp x p q us ud us' ud')
                    (is_step ∙ step_next x (record { cell = p; step = s }) to) f in
                    record {
                      on = on;
                      turn_small = omega (arith, is_turn, place_small (opposite s));
                      kept = kept_on at.kept (record {
                        down_straight = kept_all;
                        down_diagonal = kept_all;
                        up_straight = kept_if (is_shorter (length_above us ud p) by_x) p by_x.straight p_inside
                            f'.straights;
                        up_diagonal = kept_if (is_shorter (length_above us ud p) by_x) p by_x.diagonal p_inside
                            f'.diagonals;
                      });
                      climbing = record {
                        traversal = leaving (next land) (is_outlet land outlets) t x k at.climbing.here ahead;
                        here = subst (Here (next land) (is_outlet land outlets)
                            (leaving (next land) (is_outlet land outlets) t x k at.climbing.here ahead) p)
                            (sym is_turn)
                            (leaving_here (next land) (is_outlet land outlets) t x k at.climbing.here ahead p s to
                            (not_outlet m) (one_each_lem land outlets p));
                        given = given_down land outlets can.accumulation can.agreement few at.climbing.given
                            at.climbing.here ahead to (not_outlet m) room_now.up_straight room_now.up_diagonal
                            f';
                        are_left = λ c e. also_in t.left x c (at.climbing.are_left c e);
                        are_begun = at.climbing.are_begun;
                      };
                    }

                -- one step nearer to the outlet
                pub depth_less : get_or ds p 0 + get_or dd p 0 % 2 ^ 31 < get_or ds x 0 + get_or dd x 0 % 2 ^ 31
                depth_less =
                    let h : Link Dir = record { cell = p; step = s } in
                    let e : t.entered p ≡ true = t.from_below p (opposite s) x (record {
                      flows = to ∙ ap (λ (q : Dir). some (record { cell = p; step = q })) (sym (opposite_twice s));
                      not_outlet = not_outlet m;
                    }) at.climbing.here.is_entered in
                    let a = at.climbing.given.arrived x at.climbing.here.is_entered in
                    let b = at.climbing.given.arrived p e in
                    let q : ◌≡◌ {A = Maybe (At Length)} (some (record { cell = a.outlet; len = down_at now x }))
                    (some (record { cell = b.outlet; len = plus_step (down_at now p) (step_of s) })) = sym a.arrives
                    ∙ arrival_up land can.accumulation can.agreement outlets x h
                    (record { cell = b.outlet; len = down_at now p }) (not_outlet m) to b.arrives in
                    let l : down_at now x ≡ plus_step (down_at now p) (step_of s) =
                    ap (λ (o : Maybe (At Length)). elim o [ none ↦ counts 0 0 | some z ↦ z.len ]) q in
                    omega (
                      arith,
                      step_counts (down_at now p) (step_of s),
                      ap (λ (z : Length). z.straight) l,
                      ap (λ (z : Length). z.diagonal) l,
                    )

        -- UP
        module _ {n : ℕ} (found : r ≡ Some n) where
          pub has_neighbour : HasNeighbour (grid_of rows cols codes) x n
          has_neighbour = found_beside land outlets dd marked at.climbing.given.unmarked x_ground turn found

          module _ {y : ℕ} (there : neighbour (grid_of rows cols codes) x (dir_at n) ≡ some y) where
            u : Tributary (next land) (is_outlet land outlets) x (dir_at n) y
            u = found_tributary land outlets dd marked at.climbing.given.unmarked x_ground turn found there

            far : k ≤ place_of (dir_at n)
            far = found_far land outlets dd marked at.climbing.given.unmarked x_ground turn found

            skipped : (d : Dir) (z : ℕ) → Tributary (next land) (is_outlet land outlets) x d z → k ≤ place_of d
                → place_of d < place_of (dir_at n) → ⊥
            skipped = found_next land outlets dd marked at.climbing.given.unmarked x_ground turn found

            y_inside : y < rows * cols
            y_inside = ground_within land y
                ((network land).solid y (record { cell = x; step = opposite (dir_at n) }) u.flows)

            pub countable_down : Countable x y ds dd
            countable_down = record {
              x_straight = omega (arith, x_inside, room_now.down_straight);
              x_diagonal = omega (arith, x_inside, room_now.down_diagonal);
              y_straight = omega (arith, y_inside, room_now.down_straight);
              y_diagonal = omega (arith, y_inside, room_now.down_diagonal);
              straight_small = omega (arith, depth_small);
              diagonal_small = go (is_outlet land outlets x) refl;
            }
              where
                go : (b : Bool) → is_outlet land outlets x ≡ b → get_or dd x 0 < 2 ^ 32
                go true e = omega (arith, at.climbing.given.marked x e)
                go false e = omega (arith, at.climbing.given.unmarked x x_inside e)

            module _ {step : Step} {ds' dd' : List ℕ} (is_step : step ≡ step_by (lead_of (get_or codes y 0)))
                (f : GivesDown x y step ds dd ds' dd') where
              f' : GivesDown x y (step_of (opposite (dir_at n))) ds dd ds' dd'
              f' = subst (λ (q : Step). GivesDown x y q ds dd ds' dd')
                  (is_step ∙ step_next y (record { cell = x; step = opposite (dir_at n) }) u.flows) f

              pub standing_up : {row' col' k' : ℕ} → Numbered rows cols codes steps row' col' y → k' ≡ 0
                  → Standing rows cols codes outlets steps j row' col' y k' old (length_grids ds' dd' us ud)
              standing_up {k' = k'} on is_turn = rw (f'.straights, f'.diagonals, is_turn) (record {
                on = on;
                turn_small = omega arith;
                kept = kept_on at.kept (record {
                  down_straight = kept_set y _ y_inside;
                  down_diagonal = kept_set y _ y_inside;
                  up_straight = kept_all;
                  up_diagonal = kept_all;
                });
                climbing = record {
                  traversal = entering (next land) (is_outlet land outlets) t x k at.climbing.here (dir_at n) y u far
                      skipped;
                  here = entering_here (next land) (is_outlet land outlets) t x k at.climbing.here (dir_at n) y u far
                      skipped;
                  given = given_up land outlets can.accumulation can.agreement few at.climbing.given
                      at.climbing.here u far skipped room_now.down_straight room_now.down_diagonal;
                  are_left = at.climbing.are_left;
                  are_begun = λ c o e. also_or (member c (take (j + 1) outlets) ≡ true) t.entered y c e
                      (λ q. absurd (true≢false (sym o ∙ ap (is_outlet land outlets) q ∙ u.not_outlet)))
                      (at.climbing.are_begun c o);
                };
              })

              abbrev own : Length
              own = plus_step (length_below ds dd x) (step_of (opposite (dir_at n)))

              straight_y : get_or ds' y 0 ≡ own.straight
              straight_y = ap (λ (l : List ℕ). get_or l y 0) f'.straights
                  ∙ get_or-set_same ds y own.straight 0 countable_down.y_straight

              diagonal_y : get_or dd' y 0 ≡ own.diagonal
              diagonal_y = ap (λ (l : List ℕ). get_or l y 0) f'.diagonals
                  ∙ get_or-set_same dd y own.diagonal 0 countable_down.y_diagonal

              own_is : own.straight + own.diagonal ≡ get_or ds x 0 + get_or dd x 0 % 2 ^ 31 + 1
              own_is = omega (arith, step_counts (length_below ds dd x) (step_of (opposite (dir_at n))))

              -- one blank cell less
              pub fewer_blanks : blanks (rows * cols) ds dd ≡ suc (blanks (rows * cols) ds' dd')
              fewer_blanks =
                  let v = at.climbing.given in
                  let fresh : t.entered y ≡ false = at.climbing.here.ahead (dir_at n) y u far in
                  let s : get_or ds y 0 + get_or dd y 0 ≡ 0 = omega
                  (arith, v.no_straight y y_inside fresh, v.no_diagonal y y_inside fresh u.not_outlet) in
                  many_more (λ c. eqb (get_or ds' c 0 + get_or dd' c 0) 0) (λ c. eqb (get_or ds c 0 + get_or dd c 0) 0)
                  (rows * cols) y
                  y_inside (ne_eqb (get_or ds' y 0 + get_or dd' y 0) 0 (λ q. omega (arith, straight_y, diagonal_y, own_is)))
                  (eq-eqb (get_or ds y 0 + get_or dd y 0) 0 s)
                  (λ c n. ap₂ (λ (a b : ℕ). eqb (a + b) 0)
                  (sym (ap (λ (l : List ℕ). get_or l c 0) f'.straights ∙ get_or-set_other ds y c own.straight 0 n))
                  (sym (ap (λ (l : List ℕ). get_or l c 0) f'.diagonals ∙ get_or-set_other dd y c own.diagonal 0 n)))

              -- one step farther from the outlet
              pub depth_more : get_or ds' y 0 + get_or dd' y 0 % 2 ^ 31 ≡ get_or ds x 0 + get_or dd x 0 % 2 ^ 31 + 1
              depth_more = omega (arith, straight_y, diagonal_y, own_is, depth_small)
