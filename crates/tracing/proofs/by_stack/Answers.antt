-- `tracing::by_stack` meets its contract.
-- Assumes nothing.
use mathlib.Core.Path.{◌≡◌, sym, subst}
use Prim.Native.Nat.{ℕ, ◌*◌}
use native.Mathlib.Omega.{arith}
use Rattle.lists.specs.Slices.{overlaid, zeros, Kept}
use Rattle.lists.proofs.Kept.{kept_then}
use Rattle.lists.proofs.Overlaid.{cleared_front}
use Rattle.noting.proofs.Readying.{few, restored}
use Rattle.tracing.proofs.Searching.{answers_counted}
use Rattle.tracing.proofs.Noted.{own_place, own_met, own_work}
use Rattle.tracing.proofs.by_stack.Goals as goal

pub make_ready-requires : goal.make_ready-requires
make_ready-requires c =
    let a = c.args in
    let n = c.requires.cells_value in record {
      fresh = c.requires.fresh;
      places = own_place a.grid.rows a.grid.cols a.grid.codes.now a.outlets.now a.place c.requires.chosen.in_list
          (omega (arith, n.0, n.1));
    }

pub list_at-p-requires : goal.list_at-p-requires
list_at-p-requires c =
    let a = c.args in
    let r = c.make_ready.ensures in
    let n = c.requires.cells_value in
    let k = own_work a.grid.rows a.grid.cols a.grid.codes.now a.outlets.now a.place r in record {
      ready = r.ready;
      chosen = (c.requires.chosen, own_met a.grid.rows a.grid.cols a.grid.codes.now a.outlets.now a.place r);
      place_in_bounds = omega (arith, n.0, n.1, k.same_length);
    }

pub overflow_mul-grid : goal.overflow_mul-grid
overflow_mul-grid c = omega (arith, few c.requires.fresh)

pub clear-requires : goal.clear-requires
clear-requires c =
    let a = c.args in
    let k = kept_then (own_work a.grid.rows a.grid.cols a.grid.codes.now a.outlets.now a.place c.make_ready.ensures)
    c.list_at-p.ensures.only in
    omega (arith, c.requires.cells_value.1, k.same_length)

pub returns : goal.returns
returns c =
    let a = c.args in
    let n = c.requires.cells_value in
    let k = kept_then (own_work a.grid.rows a.grid.cols a.grid.codes.now a.outlets.now a.place c.make_ready.ensures)
    c.list_at-p.ensures.only in
    let only = subst (λ (m : ℕ). Kept (3 * m) a.work.now c.list_at-p.new.work) (sym n.0) k in record {
      lists_and_clears = record {
        listed = answers_counted c.list_at-p.ensures.counted c.answer_for.ensures c.list_at-p.ensures.lists;
        clears = subst (λ (m : ℕ). c.clear.new.list ≡ overlaid (zeros (3 * m)) a.work.now) n.0
            (cleared_front (3 * a.cells) n.1 (kept_then only c.clear.ensures.kept) c.clear.ensures.are_zero);
      };
      subaccumulation_unchanged = restored c.requires.fresh c.make_ready.ensures c.make_plain.ensures;
    }
