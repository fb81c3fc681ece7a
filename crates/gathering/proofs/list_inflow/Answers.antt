-- `gathering::list_inflow` meets its contract: a law for each of the ways to look.
-- Assumes nothing.
use native.Mathlib.Omega.{arith}
use lib.Arith.{digits_lt}
use Rattle.gathering.proofs.Listing.{one_fits, lists_off, lists_outlet, lists_on}
use Rattle.gathering.proofs.list_inflow.Goals as goal

pub returns-in_default : goal.returns-in_default
returns-in_default c = lists_off c.requires c.inflow_from.ensures c.in_default.is

pub bounds-words-at : goal.bounds-words-at
bounds-words-at c =
    let from = c.inflow_from.ensures in
    omega (arith, digits_lt (from.row_in _ c.in-Some.is) (from.col_in _ c.in-Some.is), c.requires.noted.has_room)

pub bounds-words-at-2 : goal.bounds-words-at-2
bounds-words-at-2 c =
    let from = c.inflow_from.ensures in
    omega (arith, digits_lt (from.row_in _ c.in-Some.is) (from.col_in _ c.in-Some.is), c.requires.noted.has_room)

pub returns-then-word-eq1 : goal.returns-then-word-eq1
returns-then-word-eq1 c =
    lists_outlet c.requires c.inflow_from.ensures c.in-Some.is
    c.if-word-eq1.true

pub bounds-list-n : goal.bounds-list-n
bounds-list-n c =
    one_fits c.requires c.inflow_from.ensures c.in-Some.is c.if-word-eq1.false

pub returns : goal.returns
returns c =
    lists_on c.requires c.inflow_from.ensures c.in-Some.is c.if-word-eq1.false
