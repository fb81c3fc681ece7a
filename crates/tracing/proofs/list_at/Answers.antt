-- `tracing::list_at` meets its contract.
-- Assumes nothing.
use mathlib.Core.Path.{◌≡◌, sym, ap, ◌∙◌, subst}
use mathlib.Core.List.{List}
use Prim.Native.Nat.{ℕ, ◌*◌}
use native.Mathlib.Omega.{arith}
use Rattle.lists.specs.Slices.{overlaid}
use Rattle.search.specs.Tracing.{Tracing, start_cells}
use Rattle.progress.specs.declared.Progress.{Progress}
use Rattle.progress.specs.Starts.{kept}
use Rattle.tracing.specs.Answering.{Told}
use Rattle.tracing.proofs.Searching.{own_cells}
use Rattle.tracing.proofs.list_at.Goals as goal

-- the cells that the outlet's word holds are those that the search is told of
before_end : {held cells : ℕ} → held ≡ cells → {t : Tracing} {old : List ℕ} {p : Progress} {new : List ℕ}
    → Told t cells old p new → kept new (3 * held) p.paths ≡ start_cells t
before_end e {t} {old} {p} {new} f = subst (λ (n : ℕ). kept new (3 * n) p.paths ≡ start_cells t) (sym e) f.starts

pub bounds-filled-at : goal.bounds-filled-at
bounds-filled-at c = omega (arith, (own_cells c.requires.ready c.requires.chosen.0).0)

pub search_at-p-requires : goal.search_at-p-requires
search_at-p-requires c = c.requires

pub list_starts-requires : goal.list_starts-requires
list_starts-requires c =
    let f = c.search_at-p.ensures in
    let e = c.cells_held.ensures ∙ (own_cells c.requires.ready c.requires.chosen.0).1 in
    (omega (arith, f.few_paths, f.all_cells, e), omega (arith, f.only.same_length, e, c.requires.place_in_bounds))

pub returns : goal.returns
returns c =
    let f = c.search_at-p.ensures in
    let e = c.cells_held.ensures ∙ (own_cells c.requires.ready c.requires.chosen.0).1 in record {
      counted = f.counted;
      lists = c.list_starts.ensures ∙ ap (λ (cs : List ℕ). overlaid cs c.args.starts.now) (before_end e f);
      only = f.only;
    }
