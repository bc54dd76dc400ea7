-- The signal set where none was woken, the waiters that are left, and the task woken beside them.
use Rattle.std.proofs.Common.{◌||◌, not, refl}
use Rattle.std.proofs.Math.Bool.{not-not}
use Rattle.kernel.specs.Kernel.{event, with_event}
use Rattle.kernel.specs.Event.{signal}
use Rattle.kernel.specs.Scheduler.{wake_one}
use Rattle.kernel.specs.Calls.{value, effect}
use Rattle.leaf_wake.proofs.Laws.{answered}
use Rattle.call_signal.proofs.signalled.Goals as goal

pub returns : goal.returns
unfolding value effect signal
returns c =
    let a = c.args in
    let w = c.wake_one-w in
    let x = event a.k a.e in
    let signaled = not (wake_one x.waiters a.k).woke || x.signaled in
    rw (← w.ensures.waiters)
    (answered (with_event a.e (record { signaled = signaled; waiters = w.result.waiters }))
    _ a.k w.result _ refl w.ensures (rw (← w.ensures.woke, c.is_none.ensures, not-not c.is_none.result) c.woken.ensures))
