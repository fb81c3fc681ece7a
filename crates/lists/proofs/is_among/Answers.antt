-- `lists::is_among` meets its contract. The loop's invariant: what is left from k on decides.
-- Assumes nothing.
use Rattle.lists.proofs.Members.{member_ends, member_found, member_goes_on}
use Rattle.lists.proofs.is_among.Goals as goal

pub returns-then-list-k : goal.returns-then-list-k
returns-then-list-k c = member_found _ _ _ _ c.loop-k.invariant c.loop-k-test.true c.if-list-k.true

pub loop-k-preserved : goal.loop-k-preserved
loop-k-preserved c = member_goes_on _ _ _ _ c.loop-k.invariant c.loop-k-test.true c.if-list-k.false

pub returns : goal.returns
returns c = member_ends _ _ _ _ c.loop-k.invariant c.loop-k-test.false
