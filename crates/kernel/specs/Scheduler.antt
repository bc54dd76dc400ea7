-- What each call on the scheduler does where nothing refuses it (sched/scheduler.rs).
use Rattle.std.specs.Prelude.{ℕ, zero, suc, ◌+◌, ◌-◌, ◌%◌, ◌^◌, min, Bool, true, false, ◌&&◌, ◌||◌, not, eqb, leb, ltb, ℤ, set}
use Rattle.base.specs.Choice.{if◌then◌otherwise◌}
use Rattle.base.specs.Below.{all_below, any_below, lowest_below}
use Rattle.kernel.specs.Types.{TaskId, Priority, Option, None, Some, TaskState, Ready, Running, Blocked, Sleeping, Terminated, StackRegion, LimitObject, NoLimit, AtSemaphore, AtEvent, TaskControl, WaitQueue, Kernel}
use Rattle.kernel.specs.Update.{with_limit, with_wake_tick, with_remaining, with_owned, with_waiter, with_sp, with_result, with_tasks, with_charges, with_retired_charge, with_tick_count, with_started, with_current, with_task_count, with_next_id}
use Rattle.kernel.specs.Control.{in_state, holds_task, has_limit, entered, expired, unblocked, blank_slot, new_task, regions_overlap}
use Rattle.kernel.specs.WaitQueue.{head, popped, removed}
use Rattle.kernel.specs.Kernel.{slot, charge, at, current, current_task, current_task_id, slot_of, is_present, at_id, semaphore, event, with_semaphore, with_event}
use Rattle.kernel.specs.Rank.{rank}

-- ---- next_task

-- the slot n places after c + 1, cyclically
abbrev pub slot_after : ℕ → ℕ → ℕ
slot_after c n = (c + 1 + n) % 16

-- Over which slots are Ready and what number each goes by, so that the kernel's pick, by rank, and the exported one are instances.
module _ (ready : ℕ → Bool) (number : ℕ → ℕ) where
  -- slot i is Ready, and no Ready slot has a smaller number
  unfoldable pub is_best : ℕ → Bool
  is_best i = ready i && all_below (λ j. not (ready j && ltb (number j) (number i))) 16

  -- how far on the first such slot is; 16 where none is Ready
  abbrev pub distance : ℕ → ℕ
  distance c = lowest_below (λ n. is_best (slot_after c n)) 16

  -- the first such slot from c + 1 cyclically; none Ready, slot 0
  unfoldable pub pick : ℕ → ℕ
  pick c = if ltb (distance c) 16 then slot_after c (distance c) otherwise 0

abbrev pub is_ready : Kernel → ℕ → Bool
is_ready k i = holds_task Ready (slot k i)

-- "the pick goes by rank" (02, W-205)
abbrev pub next_task : Kernel → ℕ
next_task k = pick (is_ready k) (rank k) (current k)

-- ---- state calls

abbrev pub set_status : TaskState → Kernel → Kernel
set_status s k = at (current k) (entered s) k

abbrev pub block : Kernel → Kernel
block k = set_status Blocked k

-- the tick at which a sleep or a limit of so many ticks ends, held at 2^64 - 1
abbrev pub wake_tick : ℕ → Kernel → ℕ
wake_tick ticks k = min (k.tick_count + ticks) (2 ^ 64 - 1)

abbrev pub sleep : ℕ → Kernel → Kernel
sleep ticks k = at (current k) (λ t. with_wake_tick (wake_tick ticks k) (entered Sleeping t)) k

-- a limit of so many ticks begins, for the wait of current at that object
abbrev pub limited : LimitObject → ℕ → Kernel → Kernel
limited o ticks k = at (current k) (with_limit o (wake_tick ticks k)) k

abbrev pub wake : TaskId → Kernel → Kernel
wake a k = at_id a unblocked k

-- what wake tells: whether it turns a Blocked task Ready (02, W-201)
abbrev pub wakes : TaskId → Kernel → Bool
wakes a k = is_present k a && in_state Blocked (slot k (slot_of k a))

abbrev pub wake_waiter : Option TaskId → Kernel → Kernel
wake_waiter None k = k
wake_waiter (Some a) k = wake a k

abbrev pub terminated : TaskControl → TaskControl
terminated t = with_waiter None (with_wake_tick 0 (with_remaining 0 (entered Terminated t)))

-- current Terminated, its waiter taken, and that one woken if it is present and Blocked
unfoldable pub exit : Kernel → Kernel
exit k = wake_waiter (current_task k).waiter (at (current k) terminated k)

-- a Terminated target changes nothing; otherwise current is its waiter, and Blocked
unfoldable pub wait : TaskId → Kernel → Kernel
wait a k = if in_state Terminated (slot k (slot_of k a)) then k otherwise block (at (slot_of k a) (with_waiter (Some (current_task_id k))) k)

-- "Reaping moves it into one retired sum" (02, W-206): slot i's charge is added to the sum, and 0 is left in the slot
abbrev pub charge_retired : ℕ → Kernel → Kernel
charge_retired i k = with_retired_charge (k.retired_charge + charge k i) (with_charges (set k.charges i 0) k)

-- slot i emptied, its charge moved, task_count down
abbrev pub emptied : ℕ → Kernel → Kernel
emptied i k = with_task_count (k.task_count - 1) (with_tasks (set k.tasks i blank_slot) (charge_retired i k))

-- the lowest Terminated slot from 1, never current; 16 where there is none
unfoldable pub reapable_slot : Kernel → ℕ
reapable_slot k = lowest_below (λ i. leb 1 i && not (eqb i (current k)) && holds_task Terminated (slot k i)) 16

unfoldable pub reap_one : Kernel → Kernel
reap_one k = if ltb (reapable_slot k) 16 then emptied (reapable_slot k) k otherwise k

abbrev pub set_result : TaskId → ℤ → Kernel → Kernel
set_result a r k = at_id a (with_result r) k

-- ---- for the objects

-- `mutex_acquired`, `mutex_released`
abbrev pub owned_up : TaskId → Kernel → Kernel
owned_up a k = at_id a (λ t. with_owned (t.owned_mutex_count + 1) t) k

abbrev pub owned_down : TaskId → Kernel → Kernel
owned_down a k = at_id a (λ t. with_owned (t.owned_mutex_count - 1) t) k

-- a queue's waiters and the kernel once heads were dropped, and whether one was woken
pub record Waking : Type 0 where
  pub waiters : WaitQueue
  pub kernel : Kernel
  pub woke : Bool

-- Heads are dropped until one was woken or the queue is empty (02, W-201); n is how many wait.
unfoldable pub drop_heads : ℕ → WaitQueue → Kernel → Waking
drop_heads zero q k = record { waiters = q; kernel = k; woke = false }
drop_heads (suc n) q k =
    if wakes (head q) k then record { waiters = popped q; kernel = wake (head q) k; woke = true }
    otherwise drop_heads n (popped q) k

abbrev pub wake_one : WaitQueue → Kernel → Waking
wake_one q k = drop_heads q.len q k

-- ---- add

-- the lowest empty slot; 16 where there is none
unfoldable pub lowest_empty : Kernel → ℕ
lowest_empty k = lowest_below (λ i. not (slot k i).occupied) 16

unfoldable pub overlaps_present : StackRegion → Kernel → Bool
overlaps_present r k = any_below (λ i. (slot k i).occupied && regions_overlap r (slot k i).stack) 16

abbrev pub next_id : Kernel → TaskId
next_id k = record { 0 = k.next_id }

-- a new task in the lowest empty slot, whose charge "starts at 0" (02, W-206)
unfoldable pub add : Priority → StackRegion → Kernel → Kernel
add p r k =
    let charges = set k.charges (lowest_empty k) 0 in
    with_task_count (k.task_count + 1) (with_next_id (k.next_id + 1) (with_charges charges (at (lowest_empty k) (λ _. new_task (next_id k) p r) k)))

-- ---- tick

-- a sleeper whose wake_tick is at most now
unfoldable pub is_due : ℕ → TaskControl → Bool
is_due now t = holds_task Sleeping t && leb t.wake_tick now

-- a limit at or before now; in a whole kernel its task is Blocked
unfoldable pub is_limit_due : ℕ → TaskControl → Bool
is_limit_due now t = t.occupied && has_limit t && leb t.limit_tick now

-- what the walk of a tick makes of a task
unfoldable pub woken : ℕ → TaskControl → TaskControl
woken now t = if is_limit_due now t then expired t otherwise if is_due now t then entered Ready t otherwise t

-- id a out of that object's queue wherever it stands, at its first place; a queue without it stays
abbrev pub unqueued : LimitObject → TaskId → Kernel → Kernel
unqueued NoLimit a k = k
unqueued (AtSemaphore s) a k = with_semaphore s (record { count = (semaphore k s).count; waiters = removed (semaphore k s).waiters a }) k
unqueued (AtEvent e) a k = with_event e (record { signaled = (event k e).signaled; waiters = removed (event k e).waiters a }) k

-- slot i at a tick, against the queues as they then are
unfoldable pub visited : ℕ → ℕ → Kernel → Kernel
visited now i k = at i (woken now) (if is_limit_due now (slot k i) then unqueued (slot k i).limit_object (slot k i).id k otherwise k)

-- the walk over the first n slots, one after another
unfoldable pub walked : ℕ → ℕ → Kernel → Kernel
walked now zero k = k
walked now (suc n) k = visited now n (walked now n k)

-- one tick off the slice, not below 0; at 0 it becomes time_slice
abbrev pub spent : TaskControl → TaskControl
spent t = if eqb (t.remaining_slice - 1) 0 then with_remaining t.time_slice t otherwise with_remaining (t.remaining_slice - 1) t

-- tick_count up, and the charge of current up if started
unfoldable pub clocked : Kernel → Kernel
clocked k =
    let charges = if k.started then set k.charges (current k) (charge k (current k) + 1) otherwise k.charges in
    with_tick_count (k.tick_count + 1) (with_charges charges k)

-- 01 raises tick_count first; the walk goes by the raised one and alters only tasks and queues, so the order does not show
unfoldable pub advanced : Kernel → Kernel
advanced k = clocked (walked (k.tick_count + 1) 16 k)

abbrev pub current_runs : Kernel → Bool
current_runs k = in_state Running (current_task k)

-- if current runs, one tick off its slice
unfoldable pub sliced : Kernel → Kernel
sliced k = if k.started && current_runs k then at (current k) spent k otherwise k

-- `update_tick`
unfoldable pub tick : Kernel → Kernel
tick k = sliced (advanced k)

-- whether a switch is wanted: current does not run, a sleeper woke or a limit ended, or the slice reaches 0
unfoldable pub wants : Bool → Kernel → Bool
wants woke k =
    if not k.started then false
    otherwise if not (current_runs k) then true
    otherwise woke || eqb ((current_task k).remaining_slice - 1) 0

unfoldable pub wants_switch : Kernel → Bool
wants_switch k =
    let now = k.tick_count + 1 in
    wants (any_below (λ i. is_limit_due now (slot k i) || is_due now (slot k i)) 16) (advanced k)

-- ---- start and switch

-- slot i becomes current, and f of its task Running
abbrev pub dispatched : ℕ → (TaskControl → TaskControl) → Kernel → Kernel
dispatched i f k = with_current i (at i (λ t. entered Running (f t)) k)

-- no reload of the slice
unfoldable pub start : Kernel → Kernel
start k = dispatched (next_task k) (λ t. t) (with_started true k)

-- current's sp stored, Running made Ready
unfoldable pub context_saved : ℕ → TaskControl → TaskControl
context_saved sp t = if in_state Running t then entered Ready (with_sp sp t) otherwise with_sp sp t

unfoldable pub reloaded : TaskControl → TaskControl
reloaded t = if eqb t.remaining_slice 0 then with_remaining t.time_slice t otherwise t

abbrev pub save_context : ℕ → Kernel → Kernel
save_context sp k = at (current k) (context_saved sp) k

-- what was current is saved, then the next task is picked
unfoldable pub switch : ℕ → Kernel → Kernel
switch sp k = dispatched (next_task (save_context sp k)) reloaded (save_context sp k)
