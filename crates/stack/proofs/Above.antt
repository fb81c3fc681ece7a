-- What the search does with the neighbours of a cell is what it does with the cells that they leave pending.
-- Assumes nothing.
use mathlib.Core.Path.{◌≡◌, refl, sym, ap, ◌∙◌}
use mathlib.Core.Bool.{Bool, true, false}
use mathlib.Core.List.{List, [], ◌∷◌, ◌++◌}
use mathlib.Core.Option.{Option, none, some}
use Prim.Native.Nat.{ℕ, zero, suc, ◌+◌, ◌*◌, ◌≤◌, ◌<◌}
use native.Mathlib.Nat.{div-add-mod', div-lt_iff_lt-mul, mod-lt}
use native.Mathlib.Omega.{arith}
use lib.ListN.{length}
use Rattle.lengths.specs.declared.Length.{Length}
use Rattle.lists.specs.Lists.{Every}
use Rattle.lengths.specs.Rule.{plus_step}
use Rattle.ground.specs.Compass.{Dir, opposite, step_of, squares}
use Rattle.ground.specs.Grid.{Grid, ground}
use Rattle.ground.specs.Accumulation.{agrees, subaccumulation}
use Rattle.ground.specs.Forest.{Which}
use Rattle.ground.proofs.Cells.{ground_within}
use Rattle.ground.proofs.Ground.{sub_size}
use Rattle.search.specs.Search.{State, tracing_rule, drop_cells}
use Rattle.search.specs.Neighbours.{inflow_in, cells_in, turn_to, enter}
use Rattle.search.proofs.Neighbours.{Found, found_in, found_ground, turn_done, turn_none, turn_drops, turn_enters}
use Rattle.stack.specs.declared.Pending.{Pending}
use Rattle.stack.specs.Pending.{pending_of, inflows_above}
use Rattle.upstream.specs.Ready.{drops_at}
use Rattle.upstream.proofs.Entering.{one_step}
use Rattle.stack.specs.Draining.{cell_of, cells_pending, Waits, taken, drain}

module _ (g : Grid) (outlets : List ℕ) where
  abbrev sub : ℕ → ℕ
  sub x = subaccumulation g outlets x

  pub cells_append : (xs ys : List Pending) → cells_pending g outlets (xs ++ ys)
      ≡ cells_pending g outlets xs + cells_pending g outlets ys
  unfolding cells_pending
  cells_append [] ys = omega arith
  cells_append (x ∷ xs) ys = omega (arith, cells_append xs ys)

  pub all_append : (end : ℕ) (xs ys : List Pending) → Every (Waits g outlets end) xs → Every (Waits g outlets end) ys
      → Every (Waits g outlets end) (xs ++ ys)
  all_append end [] ys a b = b
  all_append end (x ∷ xs) ys a b = (a.0, all_append end xs ys a.1 b)

  module _ (met : Which Dir) (dropping : Bool) where
    pub drain_append : (xs ys : List Pending) (st : State squares) → drain g outlets met dropping (xs ++ ys) st
        ≡ drain g outlets met dropping ys (drain g outlets met dropping xs st)
    unfolding drain
    drain_append [] ys st = refl
    drain_append (x ∷ xs) ys st = drain_append xs ys (taken g outlets met dropping (cell_of g x) x.len st)

    module _ (y : ℕ) (len : Length) (st : State squares) where
      abbrev test : Bool
      test = drops_at dropping st.starts len (sub y)

      pub taken_drops : test ≡ true → taken g outlets met dropping y len st ≡ drop_cells squares st (sub y)
      unfolding taken
      taken_drops e = rw (e, taken)

      pub taken_enters : test ≡ false → taken g outlets met dropping y len st
          ≡ enter squares (tracing_rule squares met dropping) g outlets y len st
      unfolding taken
      taken_enters e = rw (e, taken)

  module _ (a : List ℕ) (agreed : agrees g a ≡ true) where
    pub some_cells : (y : ℕ) → ground g y ≡ true → 1 ≤ sub y
    some_cells y v = omega (arith, sub_size g a agreed outlets y v)

    -- each pending cell has some cells
    pub few_pending : (end : ℕ) (ws : List Pending) → Every (Waits g outlets end) ws
        → length ws ≤ cells_pending g outlets ws
    unfolding cells_pending
    few_pending end [] h = omega arith
    few_pending end (w ∷ ws) h = omega (arith, few_pending end ws h.1, some_cells (cell_of g w) h.0.solid)

    module _ (x : ℕ) (len : Length) where
      abbrev above : List Dir → List Pending
      above ds = inflows_above g outlets x len ds

      -- what the search makes of some neighbours, their cells, and that they wait
      pub record Follows (ds : List Dir) : Type 0 where
        pub drains : (met : Which Dir) (dropping : Bool) (st : State squares)
            → turn_to squares (tracing_rule squares met dropping) g outlets ds x len st
            ≡ drain g outlets met dropping (above ds) st
        pub cells : cells_pending g outlets (above ds) ≡ cells_in g outlets ds x
        pub all_wait : (end : ℕ) → 3 * (len.straight + len.diagonal + 1 + cells_in g outlets ds x) ≤ end
            → Every (Waits g outlets end) (above ds)

      -- a cell found is dropped or entered as the cell that waits for it
      module _ (d : Dir) (y : ℕ) (f : Found g outlets x d y) where
        solid : ground g y ≡ true
        solid = found_ground g outlets x d y f

        -- its length
        abbrev own : Length
        own = plus_step len (step_of (opposite d))

        turned : (met : Which Dir) (dropping : Bool) (ds : List Dir) (st : State squares)
            → turn_to squares (tracing_rule squares met dropping) g outlets (d ∷ ds) x len st
            ≡ turn_to squares (tracing_rule squares met dropping) g outlets ds x len (taken g outlets met dropping y own st)
        turned met dropping ds st = by_test (test met dropping y own st) refl
          where
            by_test : (b : Bool) → test met dropping y own st ≡ b
                → turn_to squares (tracing_rule squares met dropping) g outlets (d ∷ ds) x len st
                ≡ turn_to squares (tracing_rule squares met dropping) g outlets ds x len (taken g outlets met dropping y own st)
            by_test true e = turn_drops squares (tracing_rule squares met dropping) g outlets x d ds len st a agreed y f e
                ∙ ap (turn_to squares (tracing_rule squares met dropping) g outlets ds x len)
                (sym (taken_drops met dropping y own st e))
            by_test false e = turn_enters squares (tracing_rule squares met dropping) g outlets x d ds len st a agreed y f e
                ∙ ap (turn_to squares (tracing_rule squares met dropping) g outlets ds x len)
                (sym (taken_enters met dropping y own st e))

        cell_is : cell_of g (pending_of g.cols own y) ≡ y
        cell_is = div-add-mod' y g.cols

        waits : (end : ℕ) → 3 * (len.straight + len.diagonal + 1 + sub y) ≤ end
            → Waits g outlets end (pending_of g.cols own y)
        waits end h =
            let i : y < g.rows * g.cols = ground_within g y solid in
            let p : 0 < g.cols = positive g.cols i in
            record {
              row_in = (div-lt_iff_lt-mul p).1 i;
              col_in = mod-lt y p;
              solid = ap (ground g) cell_is ∙ solid;
              short = omega (arith, ap sub cell_is, one_step len (step_of (opposite d)));
            }
          where
            positive : (n : ℕ) → y < g.rows * n → 0 < n
            positive zero h = absurd (omega arith)
            positive (suc n) h = omega arith

      pub follows : (ds : List Dir) → Follows ds
      unfolding inflows_above cells_pending cells_in drain
      follows [] = record {
        drains = λ met dropping st. turn_done squares (tracing_rule squares met dropping) g outlets x len st;
        cells = refl;
        all_wait = λ end h. tt;
      }
      follows (d ∷ ds) = by_place (inflow_in g outlets x d) refl (follows ds)
        where
          by_place : (o : Option ℕ) → inflow_in g outlets x d ≡ o → Follows ds → Follows (d ∷ ds)
          by_place none e ih = record {
            drains = λ met dropping st. turn_none squares (tracing_rule squares met dropping) g outlets x d ds len st e
                ∙ ih.drains met dropping st ∙ rw e;
            cells = rw e (omega (arith, ih.cells));
            all_wait = λ end h. rw e (ih.all_wait end (omega (arith, rw e at h)));
          }
          by_place (some y) e ih =
              let f = found_in g outlets x d y e in
              let l = plus_step len (step_of (opposite d)) in
              let c : sub (cell_of g (pending_of g.cols l y)) ≡ sub y = ap sub (cell_is d y f) in
              record {
                drains = λ met dropping st. turned d y f met dropping ds st
                    ∙ ih.drains met dropping (taken g outlets met dropping y l st)
                    ∙ rw e (ap (λ (z : ℕ). drain g outlets met dropping (above ds) (taken g outlets met dropping z l st))
                    (sym (cell_is d y f)));
                cells = rw e (omega (arith, ih.cells, c));
                all_wait = λ end h. rw e (
                  waits d y f end (omega (arith, rw e at h)),
                  ih.all_wait end
                      (omega (arith, rw e at h)),
                );
              }
