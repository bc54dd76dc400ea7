-- A head that is woken ends the loop, one that is passed over keeps the invariant, and at the end nobody waits.
use Rattle.std.proofs.Common.{arith, sym, ◌∙◌}
use Rattle.leaf_wake.proofs.Laws.{waits, fewer, passed, found, nobody}
use Rattle.leaf_wake.proofs.internal.wake_one.Goals as goal

pub returns-then-is_some : goal.returns-then-is_some
returns-then-is_some c =
    let b = c.blocked_slot-slot.ensures in
    found _ c.loop.waiters _ _ _ (waits _ _ _ c.loop.invariant.0 c.loop-test.true) c.popped-waiters.ensures
    b.place b.below (sym c.is_some.ensures ∙ c.if-is_some.true) c.loop.invariant.1

pub loop-preserved : goal.loop-preserved
loop-preserved c =
    let n = waits _ _ _ c.loop.invariant.0 c.loop-test.true in
    let p = c.popped-waiters.ensures in
    let b = c.blocked_slot-slot.ensures in (
      fewer _ _ _ _ n p c.loop.invariant.0,
      passed _ c.loop.waiters _ _ _ n p b.place b.below (sym c.is_some.ensures ∙ c.if-is_some.false) c.loop.invariant.1,
    )

pub returns : goal.returns
returns c = nobody _ _ _ (omega (arith, c.loop.invariant.0, c.loop-test.false)) c.loop.invariant.1
