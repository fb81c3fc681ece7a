-- `passes::list_all` meets its contract. The invariant: the first j outlets are listed, and storing what is left of
-- both lists stores all.
-- Assumes nothing.
use Prim.Native.Nat.{◌<◌}
use native.Mathlib.Omega.{arith}
use lib.ListN.{length, get_or}
use Rattle.lists.proofs.Kept.{kept_all}
use Rattle.ground.specs.Grid.{grid_of}
use Rattle.alloutlets.proofs.AllOutlets.{starts_to, long_starts}
use Rattle.passes.proofs.Counting.{searchable_at, kept_search}
use Rattle.passes.proofs.Listing.{listing_none, listing_more, within}
use Rattle.passes.proofs.Listing.{put_part, fits_all, all_listed, all_counted}
use Rattle.passes.proofs.list_all.Goals as goal

pub loop-j-init : goal.loop-j-init
loop-j-init c =
    let a = c.args in
    (listing_none a.edition (grid_of a.filled.grid.rows a.filled.grid.cols a.filled.grid.codes.now) a.filled.outlets.now, kept_all)

pub list_at-p-requires : goal.list_at-p-requires
list_at-p-requires c =
    let s = searchable_at c.requires.searchable c.loop-j.invariant.1 c.loop-j.j (omega arith) in
    record { ready = s.0; chosen = s.1.0; place_in_bounds = s.1.1 }

pub overflow_add-total : goal.overflow_add-total
overflow_add-total c =
    let a = c.args in
    omega (
      arith,
      fits_all a.edition (grid_of a.filled.grid.rows a.filled.grid.cols a.filled.grid.codes.now) a.filled.outlets.now (omega arith)
          c.requires.outlets_in_bounds.0
          c.loop-j.invariant.0,
      c.list_at-p.ensures.counted.count,
      c.requires.outlets_in_bounds.1,
    )

pub loop-j-preserved : goal.loop-j-preserved
loop-j-preserved c =
    let l = c.loop-j in
    let a = c.args in
    let g = grid_of a.filled.grid.rows a.filled.grid.cols a.filled.grid.codes.now in
    let e = a.edition in
    let cs = starts_to e g a.filled.outlets.now (get_or a.filled.outlets.now l.j 0) in
    let h : l.j < length a.filled.outlets.now = omega arith in
    let r = c.list_at-p.ensures in
    let long = long_starts e g a.filled.outlets.now (get_or a.filled.outlets.now l.j 0) in (
      listing_more e g a.filled.outlets.now h c.requires.outlets_in_bounds.0 l.invariant.0 c.list_at-p.result.paths
          (put_part l.starts cs l.total
          (omega (
            arith,
            long,
            within e g a.filled.outlets.now h c.requires.outlets_in_bounds.0 l.invariant.0,
          ))
          r.lists)
          r.counted.count,
      kept_search c.requires.searchable.list l.invariant.1 h r.only,
    )

pub shape_of-starts : goal.shape_of-starts
shape_of-starts c = c.loop-j.invariant.0.same_starts

pub shape_of-counts : goal.shape_of-counts
shape_of-counts c = c.loop-j.invariant.0.same_counts

pub shape_of-work : goal.shape_of-work
shape_of-work c = c.loop-j.invariant.1.same_length

pub returns : goal.returns
returns c =
    let l = c.loop-j in
    let a = c.args in
    let g = grid_of a.filled.grid.rows a.filled.grid.cols a.filled.grid.codes.now in
    let e = a.edition in
    let h = c.loop-j-test.false in
    record {
      lists = all_listed e g a.filled.outlets.now h l.invariant.0 c.requires.outlets_in_bounds.0;
      counted = all_counted e g a.filled.outlets.now h l.invariant.0 c.requires.outlets_in_bounds.2;
      kept = l.invariant.1;
    }
