-- What each semaphore call does where nothing refuses it (synchronization/semaphore.rs).
use Rattle.std.specs.Prelude.{ℕ, ◌+◌, ◌-◌, Bool, ltb}
use Rattle.base.specs.Choice.{if◌then◌otherwise◌}
use Rattle.kernel.specs.Types.{AtSemaphore, Kernel}
use Rattle.kernel.specs.WaitQueue.{enqueued}
use Rattle.kernel.specs.Kernel.{current_task_id, semaphore, with_semaphore}
use Rattle.kernel.specs.Scheduler.{block, limited, wake_one}

abbrev pub has_permit : ℕ → Kernel → Bool
has_permit s k = ltb 0 (semaphore k s).count

abbrev pub permit_taken : ℕ → Kernel → Kernel
permit_taken s k = with_semaphore s (record { count = (semaphore k s).count - 1; waiters = (semaphore k s).waiters }) k

abbrev pub blocked_on_semaphore : ℕ → Kernel → Kernel
blocked_on_semaphore s k = with_semaphore s (record { count = (semaphore k s).count; waiters = enqueued (semaphore k s).waiters (current_task_id k) }) (block k)

unfoldable pub acquire : ℕ → Kernel → Kernel
acquire s k = if has_permit s k then permit_taken s k otherwise blocked_on_semaphore s k

-- the form with a limit, which begins only where the call blocks (02, W-202)
unfoldable pub acquire_within : ℕ → ℕ → Kernel → Kernel
acquire_within s ticks k = if has_permit s k then permit_taken s k otherwise limited (AtSemaphore s) ticks (blocked_on_semaphore s k)

unfoldable pub try_acquire : ℕ → Kernel → Kernel
try_acquire s k = if has_permit s k then permit_taken s k otherwise k

-- count up in any case, then heads are dropped until one was woken or the queue is empty
unfoldable pub release : ℕ → Kernel → Kernel
release s k =
    let w = wake_one (semaphore k s).waiters k in
    with_semaphore s (record { count = (semaphore k s).count + 1; waiters = w.waiters }) w.kernel
