-- What each event call does where nothing refuses it (synchronization/event.rs).
use Rattle.std.specs.Prelude.{ℕ, false, ◌||◌, not}
use Rattle.base.specs.Choice.{if◌then◌otherwise◌}
use Rattle.kernel.specs.Types.{AtEvent, Kernel}
use Rattle.kernel.specs.WaitQueue.{enqueued}
use Rattle.kernel.specs.Kernel.{current_task_id, event, with_event}
use Rattle.kernel.specs.Scheduler.{block, limited, wake_one}

abbrev pub signal_taken : ℕ → Kernel → Kernel
signal_taken e k = with_event e (record { signaled = false; waiters = (event k e).waiters }) k

abbrev pub blocked_on_event : ℕ → Kernel → Kernel
blocked_on_event e k = with_event e (record { signaled = (event k e).signaled; waiters = enqueued (event k e).waiters (current_task_id k) }) (block k)

unfoldable pub event_wait : ℕ → Kernel → Kernel
event_wait e k = if (event k e).signaled then signal_taken e k otherwise blocked_on_event e k

-- the form with a limit, which begins only where the call blocks (02, W-202)
unfoldable pub event_wait_within : ℕ → ℕ → Kernel → Kernel
event_wait_within e ticks k = if (event k e).signaled then signal_taken e k otherwise limited (AtEvent e) ticks (blocked_on_event e k)

-- heads are dropped until one was woken or the queue is empty; signaled is set if none was
unfoldable pub signal : ℕ → Kernel → Kernel
signal e k =
    let w = wake_one (event k e).waiters k in
    with_event e (record { signaled = not w.woke || (event k e).signaled; waiters = w.waiters }) w.kernel
