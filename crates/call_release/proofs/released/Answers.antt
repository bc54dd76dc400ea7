-- The count up, the waiters that are left, and the task woken beside them.
use Rattle.std.proofs.Common.{◌+◌, refl}
use Rattle.kernel.specs.Kernel.{semaphore, with_semaphore}
use Rattle.kernel.specs.Semaphore.{release}
use Rattle.kernel.specs.Calls.{value, effect}
use Rattle.leaf_wake.proofs.Laws.{answered}
use Rattle.call_release.proofs.released.Goals as goal

pub returns : goal.returns
unfolding value effect release
returns c =
    let a = c.args in
    let w = c.wake_one-w in
    rw (← w.ensures.waiters)
    (answered (with_semaphore a.s (record { count = (semaphore a.k a.s).count + 1; waiters = w.result.waiters }))
    _ a.k w.result _ refl w.ensures c.woken.ensures)
