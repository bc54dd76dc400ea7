-- What the test says at each slot makes the search go on or end there.
use Rattle.pick.proofs.Keys.{from_start, from_next, from_found, from_none}
use Rattle.pick.proofs.first_from.Goals as goal

pub loop-n-init : goal.loop-n-init
loop-n-init c = from_start _ _ _

pub returns-then-keys-at : goal.returns-then-keys-at
returns-then-keys-at c =
    from_found _ _ _ _ _ c.loop-n.invariant c.loop-n-test.true c.slot_after-at.ensures c.if-keys-at.true

pub loop-n-preserved : goal.loop-n-preserved
loop-n-preserved c =
    from_next _ _ _ _ _ c.loop-n.invariant c.loop-n-test.true c.slot_after-at.ensures c.if-keys-at.false

pub returns : goal.returns
returns c = from_none _ _ _ _ c.loop-n.invariant c.loop-n-test.false
