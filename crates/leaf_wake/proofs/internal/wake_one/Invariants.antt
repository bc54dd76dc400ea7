-- As many are left to be dropped as turns of the loop, and they wake whom the whole queue wakes.
use Rattle.std.proofs.Common.{◌≡◌, ◌+◌}
use Rattle.kernel.specs.Scheduler.{wake_one}
use Rattle.leaf_wake.proofs.internal.wake_one.Given as goal

abbrev pub invariant-loop : goal.invariant-loop
invariant-loop l = (l.waiters.len + l.counter ≡ l.end) × (wake_one l.waiters l.k ≡ wake_one l.initial.waiters l.k)
