-- `tracingall::most_cells` meets its contract. The invariant: the most so far, or that of the outlets that are left, is
-- the most of all.
-- Assumes nothing.
use mathlib.Core.Path.{◌≡◌, ap}
use mathlib.Core.List.{List, map}
use Prim.Native.Nat.{ℕ, ◌+◌, ◌<◌, max}
use native.Mathlib.Numerals.{add-one}
use native.Mathlib.Omega.{arith}
use borrow.Author.Rules.{rules}
use lib.ListN.{length, get_or, drop, drop_of_length-le}
use Rattle.lists.specs.Lists.{greatest_of}
use Rattle.lists.proofs.Sums.{greatest_left}
use Rattle.tracingall.proofs.most_cells.Goals as goal

pub bounds-subaccumulation-outlet : goal.bounds-subaccumulation-outlet
bounds-subaccumulation-outlet c = c.requires c.loop-outlet.outlet-index c.loop-outlet-test.true

-- one outlet more
with_next : (f : ℕ → ℕ) (os : List ℕ) (i most next : ℕ) → i < length os → next ≡ max most (f (get_or os i 0))
    → max most (greatest_of (map f (drop i os))) ≡ greatest_of (map f os)
    → max next (greatest_of (map f (drop (i + 1) os))) ≡ greatest_of (map f os)
with_next f os i most next h n e = rw (add-one i) (omega (arith, n, e, greatest_left f os i h))

pub loop-outlet-preserved : goal.loop-outlet-preserved
loop-outlet-preserved c =
    let l = c.loop-outlet in
    let a = c.args in
    let f : ℕ → ℕ = λ o. get_or a.subaccumulation.now o 0 in
    let next : c.max-most.result ≡ max l.most (f (get_or a.outlets.now l.outlet-index 0)) = search rules in
    with_next f a.outlets.now l.outlet-index l.most c.max-most.result c.loop-outlet-test.true next l.invariant

pub returns : goal.returns
unfolding greatest_of
returns c =
    let l = c.loop-outlet in
    let a = c.args in
    let none = drop_of_length-le a.outlets.now {i = l.outlet-index} c.loop-outlet-test.false in
    omega (arith, l.invariant, ap (λ (os : List ℕ). greatest_of (map (λ o. get_or a.subaccumulation.now o 0) os)) none)
