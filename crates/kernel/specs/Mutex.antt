-- What each mutex call does where nothing refuses it (synchronization/mutex.rs).
use Rattle.std.specs.Prelude.{ℕ, Bool, true, false, ◌&&◌, ◌||◌, not}
use Rattle.base.specs.Choice.{if◌then◌otherwise◌}
use Rattle.kernel.specs.Types.{TaskId, Option, None, Some, Kernel}
use Rattle.kernel.specs.Control.{names}
use Rattle.kernel.specs.WaitQueue.{is_empty, head, popped, enqueued}
use Rattle.kernel.specs.Kernel.{current_task_id, mutex, with_mutex}
use Rattle.kernel.specs.Scheduler.{block, wake, owned_up, owned_down}

-- current owns it; it was handed to current
abbrev pub owns_mutex : Kernel → ℕ → Bool
owns_mutex k m = names (mutex k m).owner (current_task_id k)

abbrev pub is_handed : Kernel → ℕ → Bool
is_handed k m = names (mutex k m).handoff_to (current_task_id k)

-- unlocked: current's now, with that handoff_to
abbrev pub lock_taken : Option TaskId → ℕ → Kernel → Kernel
lock_taken h m k = with_mutex m (record { locked = true; owner = Some (current_task_id k); handoff_to = h; waiters = (mutex k m).waiters }) (owned_up (current_task_id k) k)

abbrev pub handoff_done : ℕ → Kernel → Kernel
handoff_done m k = with_mutex m (record { locked = (mutex k m).locked; owner = (mutex k m).owner; handoff_to = None; waiters = (mutex k m).waiters }) k

abbrev pub blocked_on_mutex : ℕ → Kernel → Kernel
blocked_on_mutex m k = with_mutex m (record { locked = (mutex k m).locked; owner = (mutex k m).owner; handoff_to = (mutex k m).handoff_to; waiters = enqueued (mutex k m).waiters (current_task_id k) }) (block k)

-- unlocked, handed to current, or another's
unfoldable pub lock : ℕ → Kernel → Kernel
lock m k =
    if not (mutex k m).locked then lock_taken (mutex k m).handoff_to m k
    otherwise if owns_mutex k m && is_handed k m then handoff_done m k
    otherwise blocked_on_mutex m k

-- lock's answer: it was unlocked, or it was handed to current
unfoldable pub lock_answer : ℕ → Kernel → Bool
lock_answer m k = not (mutex k m).locked || owns_mutex k m && is_handed k m

unfoldable pub try_lock : ℕ → Kernel → Kernel
try_lock m k = if (mutex k m).locked then k otherwise lock_taken None m k

-- handed to the head waiter, which is woken
abbrev pub handed_off : ℕ → Kernel → Kernel
handed_off m k =
    let next = head (mutex k m).waiters in
    with_mutex m (record { locked = true; owner = Some next; handoff_to = Some next; waiters = popped (mutex k m).waiters }) (wake next (owned_up next k))

abbrev pub lock_freed : ℕ → Kernel → Kernel
lock_freed m k = with_mutex m (record { locked = false; owner = None; handoff_to = None; waiters = (mutex k m).waiters }) k

-- owned down; then handed to the head waiter, or unlocked
unfoldable pub unlock : ℕ → Kernel → Kernel
unlock m k =
    let k₁ = owned_down (current_task_id k) k in
    if is_empty (mutex k m).waiters then lock_freed m k₁ otherwise handed_off m k₁
