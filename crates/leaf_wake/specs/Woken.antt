-- What `wake_one` hands on to a release or a signal.
use Rattle.std.specs.Prelude.{◌≡◌, ◌<◌, ltb, unwrap_or, is_some, IfSome}
use Rattle.base.specs.Choice.{if◌then◌otherwise◌}
use Rattle.kernel.specs.declared.control.TaskState.TheVariants.{Ready}
use Rattle.kernel.specs.declared.wait_queue.WaitQueue.{WaitQueue}
use Rattle.kernel.specs.declared.scheduler.Kernel.{Kernel}
use Rattle.kernel.specs.Control.{entered}
use Rattle.kernel.specs.Kernel.{at}
use Rattle.kernel.specs.Scheduler.{wake_one}
use Rattle.leaf_wake.specs.declared.internal.Woken.{Woken}

-- w is what `wake_one` makes of queue q and kernel k: the waiters that are left, and the slot that is to be made Ready, if one was woken
pub record WakesOne (w : Woken) (q : WaitQueue) (k : Kernel) : Type 0 where
  pub waiters : w.waiters ≡ (wake_one q k).waiters
  pub below : IfSome w.slot (λ i. i < 16)
  pub kernel : (if ltb (unwrap_or w.slot 16) 16 then at (unwrap_or w.slot 16) (entered Ready) k otherwise k) ≡ (wake_one q k).kernel
  pub woke : is_some w.slot ≡ (wake_one q k).woke
