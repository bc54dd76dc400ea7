-- Odd kernels, whole ones that no list from fresh gets to: what the definitions make of those given here, and what was
-- worked out by hand from readings 14, 15, 17, 18 and 19 of 01 and 39 of 02. tests/cases/odd has lists from the same.
use Rattle.std.specs.Prelude.{ℕ, ◌+◌, ◌-◌, ◌*◌, ◌≡◌, refl, Bool, true, false, List, [], ◌∷◌, ◌++◌, map, ℤ, pos, negsuc, length, replicate}
use Rattle.base.specs.Choice.{if◌then◌otherwise◌, every}
use Rattle.base.specs.Below.{all_below, any_below, count_below, sum_below, lowest_below, smallest_below, tabulate}
use Rattle.kernel.specs.declared.control.TaskId.{TaskId}
use Rattle.kernel.specs.Types.{Option}
use Rattle.kernel.specs.Types.{None, Some}
use Rattle.kernel.specs.declared.control.TaskState.{TaskState}
use Rattle.kernel.specs.declared.control.TaskState.TheVariants.{Ready, Running, Blocked, Terminated}
use Rattle.kernel.specs.declared.control.StackRegion.{StackRegion}
use Rattle.kernel.specs.declared.control.LimitObject.TheVariants.{NoLimit, AtSemaphore}
use Rattle.kernel.specs.declared.control.TaskControl.{TaskControl}
use Rattle.kernel.specs.declared.wait_queue.WaitQueue.{WaitQueue}
use Rattle.kernel.specs.declared.mutex.Mutex.{Mutex}
use Rattle.kernel.specs.declared.scheduler.Kernel.{Kernel}
use Rattle.kernel.specs.Update.{with_state, with_wake_tick, with_remaining, with_owned, with_waiter, with_result}
use Rattle.kernel.specs.Update.{with_time_slice, with_limit, with_limit_passed}
use Rattle.kernel.specs.Update.{with_started, with_current, with_task_count, with_next_id}
use Rattle.kernel.specs.Control.{state_number, holds_task, new_task, region_fits, unblocked}
use Rattle.kernel.specs.WaitQueue.{empty_queue, position, pushed, enqueued, place_without, without, removed, popped}
use Rattle.kernel.specs.Kernel.{at, at_id, slot, slot_of, mutex, semaphore, event, with_mutex, with_semaphore, with_event}
use Rattle.kernel.specs.Kernel.{arena_fits, whole, fresh_kernel}
use Rattle.kernel.specs.Rank.{link, chain, leads_to, rank}
use Rattle.kernel.specs.Scheduler.{drop_heads, is_due, is_limit_due, woken, visited, walked, clocked, advanced, wants_switch}
use Rattle.kernel.specs.Scheduler.{reapable_slot}
use Rattle.kernel.specs.Scheduler
use Rattle.kernel.specs.Mutex
use Rattle.kernel.specs.Mutex.{lock_answer}
use Rattle.kernel.specs.Semaphore
use Rattle.kernel.specs.Event
use Rattle.kernel.specs.Calls.{Call, tick, current_id, wake, exit, wait, reap, reap_one, result, lock, try_lock, unlock}
use Rattle.kernel.specs.Calls.{acquire, release, signal, number, value, effect, step, value_number}

-- ---- the kernels

abbrev pub id : ℕ → TaskId
id n = record { 0 = n }

-- the stacks lie in the order of the slots
abbrev pub stack_of : ℕ → StackRegion
stack_of i = record { start = 8128 + 64 * i; size = 64 }

-- a task of that id, number and state in slot i
abbrev pub task : ℕ → ℕ → ℕ → TaskState → Kernel → Kernel
task i a p s k = at i (λ _. with_state s (new_task (id a) (record { 0 = p }) (stack_of i))) k

-- fresh but for tasks, which are n with idle; started, slot c being current
abbrev pub started : ℕ → ℕ → (Kernel → Kernel) → Kernel
started n c tasks = with_started true (with_current c (with_task_count n (with_next_id 9 (tasks (fresh_kernel 1000 4096)))))

-- these ids wait, the first one first; every place behind them holds id b
abbrev pub line : List ℕ → ℕ → WaitQueue
line ids b = record { ids = map id ids ++ replicate (8 - length ids) (id b); len = length ids }

abbrev pub mutex_of : Bool → Option TaskId → Option TaskId → WaitQueue → Mutex
mutex_of l o h q = record { locked = l; owner = o; handoff_to = h; waiters = q }

-- task 5 runs, with an owned count of 1. Mutexes 0 and 1 are locked and have no owner; 1 is handed to 5. 5 is the owner
-- of mutex 2, which is not locked, and of mutex 3, which is locked and handed to 6
pub owner_fields : Kernel
owner_fields =
    with_mutex 0 (mutex_of true None None empty_queue)
    (with_mutex 1 (mutex_of true None (Some (id 5)) empty_queue)
    (with_mutex 2 (mutex_of false (Some (id 5)) None empty_queue)
    (with_mutex 3 (mutex_of true (Some (id 5)) (Some (id 6)) empty_queue)
    (started 2 1 (λ k. at 1 (with_owned 1) (task 1 5 128 Running k))))))

-- task 5 runs, with an owned count of 1, and no mutex has an owner
pub count_alone : Kernel
count_alone = started 2 1 (λ k. at 1 (with_owned 1) (task 1 5 128 Running k))

-- task 5, which runs, and task 7, which waits at its mutex 3, have owned counts of 4
pub four_owned : Kernel
four_owned =
    with_mutex 3 (mutex_of true (Some (id 5)) None (line (7 ∷ []) 0))
    (started 3 1 (λ k. at 1 (with_owned 4) (at 2 (with_owned 4) (task 2 7 128 Blocked (task 1 5 128 Running k)))))

-- task 5 runs, with that slice and so much of it remaining
pub with_slice : ℕ → ℕ → Kernel
with_slice n r = started 2 1 (λ k. at 1 (λ t. with_remaining r (with_time_slice n t)) (task 1 5 128 Running k))

-- slots 1 and 2 hold id 5, at 128 and 100, slot 3 holds id 7, at p, in these states; slot c is current
abbrev pub twice : TaskState → TaskState → ℕ → TaskState → ℕ → Kernel
twice s t p u c = started 4 c (λ k. task 3 7 p u (task 2 5 100 t (task 1 5 128 s k)))

-- both are Blocked; 7 runs, and id 5 waits at its mutex 0, at semaphore 0 and for its exit
pub both_blocked : Kernel
both_blocked =
    with_mutex 0 (mutex_of true (Some (id 7)) None (line (5 ∷ []) 0))
    (with_semaphore 0 (record { count = 0; waiters = line (5 ∷ []) 0 })
    (at 3 (λ t. with_owned 1 (with_waiter (Some (id 5)) t)) (twice Blocked Blocked 200 Running 3)))

-- slot 2 is current, with an owned count of 1; 5 is the owner of mutex 1
pub current_twice : Kernel
current_twice =
    with_mutex 1 (mutex_of true (Some (id 5)) None empty_queue) (at 2 (with_owned 1) (twice Ready Running 200 Ready 2))

-- both have ended; something is left in each field of slot 1 that may have it
pub ended_twice : ℕ → Kernel
ended_twice c =
    at 1 (λ t. with_wake_tick 9 (with_owned 2 (with_waiter (Some (id 7)) t)))
    (at 1 (λ t. with_result (negsuc 0) (with_limit_passed true (with_limit NoLimit 9 t)))
    (twice Terminated Terminated 200 Ready c))

-- an empty slot, all zero but for an id and a state that are left in it
abbrev pub unoccupied : ℕ → TaskState → TaskControl
unoccupied a s =
    record {
      occupied = false;
      id = id a;
      state = s;
      priority = record { 0 = 0 };
      wake_tick = 0;
      time_slice = 0;
      remaining_slice = 0;
      owned_mutex_count = 0;
      waiter = None;
      stack = record { start = 0; size = 0 };
      sp = 0;
      result = pos 0;
      limit_object = NoLimit;
      limit_tick = 0;
      limit_passed = false;
    }

-- slot 2 holds task 5, Blocked; slot 1 is empty, and that id and state are left in it; 7 runs
pub empty_slot : Kernel
empty_slot = at 1 (λ _. unoccupied 5 Blocked) (started 3 3 (λ k. task 3 7 200 Running (task 2 5 100 Blocked k)))

-- slot 1 holds id 0 too, and its task runs
pub idle_twice : Kernel
idle_twice = started 2 1 (task 1 0 128 Running)

-- in the queues given every place behind the ids holds 7, the id of current. Nobody waits at mutex 0, of 5; 5 and 6 wait at
-- mutex 1, of 7; 8, 5 and 6 at semaphores 0 and 1 and at event 0. 6 and 8 are gone; 5 has a limit at semaphore 1
pub filled_behind : Kernel
filled_behind =
    with_mutex 0 (mutex_of true (Some (id 5)) None (line [] 7))
    (with_mutex 1 (mutex_of true (Some (id 7)) None (line (5 ∷ 6 ∷ []) 7))
    (with_semaphore 0 (record { count = 0; waiters = line (8 ∷ 5 ∷ 6 ∷ []) 7 })
    (with_semaphore 1 (record { count = 0; waiters = line (8 ∷ 5 ∷ 6 ∷ []) 7 })
    (with_event 0 (record { signaled = false; waiters = line (8 ∷ 5 ∷ 6 ∷ []) 7 })
    (at 1 (λ t. with_owned 1 (with_limit (AtSemaphore 1) 1 t))
    (started 3 2 (λ k. at 2 (with_owned 1) (task 2 7 100 Running (task 1 5 128 Blocked k)))))))))

-- 7, at 3, waits at a mutex whose owner is 5
pub owner_twice : Kernel
owner_twice =
    with_mutex 0 (mutex_of true (Some (id 5)) None (line (7 ∷ []) 0))
    (at 0 (with_state Running) (twice Ready Ready 3 Blocked 0))

-- 5, in these states, waits at a mutex whose owner is 7
pub waiter_twice : TaskState → TaskState → Kernel
waiter_twice s t =
    with_mutex 0 (mutex_of true (Some (id 7)) None (line (5 ∷ []) 0))
    (at 0 (with_state Running) (twice s t 200 Ready 0))

-- 5, Blocked in slot 1, waits at a mutex whose owner is 5; 7, at 3, runs
pub own_mutex : TaskState → Kernel
own_mutex t = with_mutex 0 (mutex_of true (Some (id 5)) None (line (5 ∷ []) 0)) (twice Blocked t 3 Running 3)

-- all that are given
pub kernels : List Kernel
kernels =
    owner_fields ∷ count_alone ∷ four_owned ∷ with_slice 5 0 ∷ with_slice 0 0 ∷ with_slice 0 2
    ∷ both_blocked ∷ current_twice ∷ ended_twice 1 ∷ ended_twice 2 ∷ empty_slot ∷ idle_twice
    ∷ filled_behind
    ∷ owner_twice ∷ waiter_twice Blocked Blocked ∷ waiter_twice Ready Blocked ∷ waiter_twice Blocked Ready
    ∷ own_mutex Ready ∷ own_mutex Blocked ∷ []

-- ---- what is seen of them

abbrev pub after : Call → Kernel → Kernel
after c k = (step k c).kernel

-- the number of a call and its value
abbrev pub answer : Call → Kernel → List ℕ
answer c k = (step k c).number ∷ value_number (step k c).value ∷ []

-- of the tasks in slots 1 to 3
abbrev pub each : (TaskControl → ℕ) → Kernel → List ℕ
each f k = f (slot k 1) ∷ f (slot k 2) ∷ f (slot k 3) ∷ []

-- a call's answer; after it the states of slots 1 to 3, and their owned counts
pub seen : Call → Kernel → List ℕ
seen c k =
    let r = after c k in
    answer c k ++ (each (λ t. state_number t.state) r ++ each (λ t. t.owned_mutex_count) r)

-- a call's answer; after it the state of slot 1, its owned count, whether mutex m is locked, and how many wait there
pub seen_at : ℕ → Call → Kernel → List ℕ
seen_at m c k =
    let t = slot (after c k) 1 in
    let x = mutex (after c k) m in
    answer c k
    ++ (state_number t.state ∷ t.owned_mutex_count ∷ (if x.locked then 1 otherwise 0) ∷ x.waiters.len ∷ [])

-- a call's answer; after it the owned counts of slots 1 and 2, and the number of a tick
pub counted : Call → Kernel → List ℕ
counted c k =
    let r = after c k in
    answer c k ++ ((slot r 1).owned_mutex_count ∷ (slot r 2).owned_mutex_count ∷ (step r tick).number ∷ [])

-- what remains of the slice of slot 1 after a tick, and the tick's value
pub ticked : Kernel → List ℕ
ticked k = (slot (after tick k) 1).remaining_slice ∷ value_number (step k tick).value ∷ []

-- a call's answer, and how many tasks there are after it
pub reaped : Call → Kernel → List ℕ
reaped c k = answer c k ++ ((after c k).task_count ∷ [])

-- a waiter's id, 0 for none, and a result, 0 for one below 0
abbrev pub waiter_id : Option TaskId → ℕ
waiter_id None = 0
waiter_id (Some a) = a.0

abbrev pub result_number : ℤ → ℕ
result_number (pos n) = n
result_number (negsuc n) = 0

-- how many wait in a queue, and all its places
pub places : WaitQueue → List ℕ
places q = q.len ∷ map (λ (a : TaskId). a.0) q.ids

-- the ranks of slots 0 to 3
pub ranks : Kernel → List ℕ
ranks k = tabulate (rank k) 4

-- what the cases compute with: to unfold this is to unfold all that its line names
computed : Unit {0}
unfolding owner_fields count_alone four_owned with_slice both_blocked current_twice ended_twice empty_slot idle_twice filled_behind
    owner_twice waiter_twice own_mutex seen seen_at counted ticked reaped places ranks
    if◌then◌otherwise◌ every all_below any_below count_below sum_below lowest_below smallest_below tabulate
    holds_task unblocked region_fits arena_fits whole fresh_kernel slot_of at_id reapable_slot Scheduler.reap_one
    position pushed enqueued place_without without removed popped drop_heads link chain leads_to rank
    is_due is_limit_due woken visited walked clocked advanced wants_switch
    Scheduler.sliced Scheduler.wants Scheduler.tick Scheduler.exit Scheduler.wait
    Mutex.lock lock_answer Mutex.try_lock Mutex.unlock Semaphore.acquire Semaphore.release Event.signal
    number value effect step value_number
computed = tt

-- ---- the cases

-- each of them is whole
pub are_whole : every (map whole kernels) ≡ true
unfolding kernels computed
are_whole = refl

-- reading 14 of 01: 11 is an owned count above 0, also where no mutex has an owner
-- 14 compares the owner, and a mutex handed to current need not be its own
-- without an owner a locked mutex is another's, also where it is handed to current
-- 13 compares the owner, and so does unlock where the mutex is not locked
-- the count is 0 then: 15; and exit is accepted, though 5 is the owner of mutex 3
pub by_owner_or_count :
    seen_at 0 exit owner_fields ∷ seen_at 0 exit count_alone
    ∷ seen_at 0 (unlock 0) owner_fields ∷ seen_at 1 (unlock 1) owner_fields
    ∷ seen_at 0 (lock 0) owner_fields ∷ seen_at 1 (lock 1) owner_fields
    ∷ seen_at 3 (lock 3) owner_fields ∷ seen_at 2 (unlock 2) owner_fields
    ∷ seen_at 3 (unlock 3) (after (unlock 2) owner_fields) ∷ seen_at 3 exit (after (unlock 2) owner_fields) ∷ []
    ≡ (11 ∷ 0 ∷ 1 ∷ 1 ∷ 1 ∷ 0 ∷ []) ∷ (11 ∷ 0 ∷ 1 ∷ 1 ∷ 0 ∷ 0 ∷ [])
    ∷ (14 ∷ 0 ∷ 1 ∷ 1 ∷ 1 ∷ 0 ∷ []) ∷ (14 ∷ 0 ∷ 1 ∷ 1 ∷ 1 ∷ 0 ∷ [])
    ∷ (0 ∷ 0 ∷ 2 ∷ 1 ∷ 1 ∷ 1 ∷ []) ∷ (0 ∷ 0 ∷ 2 ∷ 1 ∷ 1 ∷ 1 ∷ [])
    ∷ (13 ∷ 0 ∷ 1 ∷ 1 ∷ 1 ∷ 0 ∷ []) ∷ (0 ∷ 0 ∷ 1 ∷ 0 ∷ 0 ∷ 0 ∷ [])
    ∷ (15 ∷ 0 ∷ 1 ∷ 0 ∷ 1 ∷ 0 ∷ []) ∷ (0 ∷ 0 ∷ 5 ∷ 0 ∷ 1 ∷ 0 ∷ []) ∷ []
unfolding computed
by_owner_or_count = refl

-- reading 15 of 01: lock, try lock and a handoff raise 4 to 5, and the next call is 1
pub count_of_5 :
    counted (lock 0) four_owned ∷ counted (try_lock 0) four_owned ∷ counted (unlock 3) four_owned ∷ []
    ≡ (0 ∷ 1 ∷ 5 ∷ 4 ∷ 1 ∷ []) ∷ (0 ∷ 1 ∷ 5 ∷ 4 ∷ 1 ∷ []) ∷ (0 ∷ 1 ∷ 3 ∷ 5 ∷ 1 ∷ []) ∷ []
unfolding computed
count_of_5 = refl

-- .. since the kernel is no longer whole
pub whole_no_longer :
    whole (after (lock 0) four_owned) ∷ whole (after (try_lock 0) four_owned) ∷ whole (after (unlock 3) four_owned) ∷ []
    ≡ false ∷ false ∷ false ∷ []
unfolding computed
whole_no_longer = refl

-- reading 17 of 01: with 0 remaining it becomes the slice
-- a slice of 0 too
-- what remains of that falls first
pub slice_of_0 :
    ticked (with_slice 5 0)
    ∷ ticked (with_slice 0 0)
    ∷ ticked (with_slice 0 2) ∷ ticked (after tick (with_slice 0 2)) ∷ []
    ≡ (5 ∷ 1 ∷ [])
    ∷ (0 ∷ 1 ∷ [])
    ∷ (1 ∷ 0 ∷ []) ∷ (0 ∷ 1 ∷ []) ∷ []
unfolding computed
slice_of_0 = refl

-- reading 18 of 01: an id means the lowest slot that holds it, in wake, whose second one finds that Ready
-- in release, which then drops it and wakes nobody
-- in a handoff, and in exit, whose waiter is Ready by then
-- in reap: that has not ended
pub lower_slot :
    seen (wake (id 5)) both_blocked ∷ seen (wake (id 5)) (after (wake (id 5)) both_blocked)
    ∷ seen (release 0) both_blocked ∷ seen (release 0) (after (wake (id 5)) both_blocked)
    ∷ seen (unlock 0) both_blocked ∷ seen exit (after (unlock 0) both_blocked)
    ∷ seen (reap (id 5)) both_blocked ∷ []
    ≡ (0 ∷ 1 ∷ 0 ∷ 2 ∷ 1 ∷ 0 ∷ 0 ∷ 1 ∷ []) ∷ (0 ∷ 0 ∷ 0 ∷ 2 ∷ 1 ∷ 0 ∷ 0 ∷ 1 ∷ [])
    ∷ (0 ∷ 1 ∷ 0 ∷ 2 ∷ 1 ∷ 0 ∷ 0 ∷ 1 ∷ []) ∷ (0 ∷ 0 ∷ 0 ∷ 2 ∷ 1 ∷ 0 ∷ 0 ∷ 1 ∷ [])
    ∷ (0 ∷ 1 ∷ 0 ∷ 2 ∷ 1 ∷ 1 ∷ 0 ∷ 0 ∷ []) ∷ (0 ∷ 0 ∷ 0 ∷ 2 ∷ 5 ∷ 1 ∷ 0 ∷ 0 ∷ [])
    ∷ (9 ∷ 0 ∷ 2 ∷ 2 ∷ 1 ∷ 0 ∷ 0 ∷ 1 ∷ []) ∷ []
unfolding computed
lower_slot = refl

-- .. in wait and in result: the waiters and the results then
pub lower_slot_kept :
    each (λ t. waiter_id t.waiter) (after (wait (id 5)) both_blocked)
    ∷ each (λ t. result_number t.result) (after (result (id 5) (pos 9)) both_blocked) ∷ []
    ≡ (7 ∷ 0 ∷ 5 ∷ []) ∷ (9 ∷ 0 ∷ 0 ∷ []) ∷ []
unfolding computed
lower_slot_kept = refl

-- .. in reap; the next one means the other slot, which is current
-- 9 where the lower one is current; reap one goes by slots
pub lower_slot_reaped :
    reaped (reap (id 5)) (ended_twice 2) ∷ reaped (reap (id 5)) (after (reap (id 5)) (ended_twice 2))
    ∷ reaped (reap (id 5)) (ended_twice 1) ∷ reaped reap_one (ended_twice 1) ∷ []
    ≡ (0 ∷ 8192 ∷ 3 ∷ []) ∷ (9 ∷ 0 ∷ 3 ∷ []) ∷ (9 ∷ 0 ∷ 4 ∷ []) ∷ (0 ∷ 8256 ∷ 3 ∷ []) ∷ []
unfolding computed
lower_slot_reaped = refl

-- .. for current's own id too, which is that of slot current; oneself in wait is that id
-- 11 goes by slot current, 15 and the owned counts by the lower slot
-- slot current is Blocked, and its id queued; release finds the lower slot Ready, and drops it
pub lower_slot_of_current :
    seen current_id current_twice ∷ seen (wait (id 5)) current_twice
    ∷ seen exit current_twice ∷ seen (unlock 1) current_twice
    ∷ seen (lock 0) current_twice ∷ seen (unlock 1) (after (lock 0) current_twice)
    ∷ seen (acquire 0) current_twice ∷ seen (release 0) (after (acquire 0) current_twice) ∷ []
    ≡ (0 ∷ 5 ∷ 0 ∷ 1 ∷ 0 ∷ 0 ∷ 1 ∷ 0 ∷ []) ∷ (7 ∷ 0 ∷ 0 ∷ 1 ∷ 0 ∷ 0 ∷ 1 ∷ 0 ∷ [])
    ∷ (11 ∷ 0 ∷ 0 ∷ 1 ∷ 0 ∷ 0 ∷ 1 ∷ 0 ∷ []) ∷ (15 ∷ 0 ∷ 0 ∷ 1 ∷ 0 ∷ 0 ∷ 1 ∷ 0 ∷ [])
    ∷ (0 ∷ 1 ∷ 0 ∷ 1 ∷ 0 ∷ 1 ∷ 1 ∷ 0 ∷ []) ∷ (0 ∷ 0 ∷ 0 ∷ 1 ∷ 0 ∷ 0 ∷ 1 ∷ 0 ∷ [])
    ∷ (0 ∷ 0 ∷ 0 ∷ 2 ∷ 0 ∷ 0 ∷ 1 ∷ 0 ∷ []) ∷ (0 ∷ 0 ∷ 0 ∷ 2 ∷ 0 ∷ 0 ∷ 1 ∷ 0 ∷ []) ∷ []
unfolding computed
lower_slot_of_current = refl

-- .. the lowest that is occupied
-- 10 goes by slot current, oneself in wait by its id
pub occupied_slot :
    seen (wake (id 5)) empty_slot
    ∷ seen exit idle_twice ∷ seen (wait (id 0)) idle_twice ∷ []
    ≡ (0 ∷ 1 ∷ 2 ∷ 0 ∷ 1 ∷ 0 ∷ 0 ∷ 0 ∷ [])
    ∷ (0 ∷ 0 ∷ 5 ∷ 0 ∷ 0 ∷ 0 ∷ 0 ∷ 0 ∷ []) ∷ (7 ∷ 0 ∷ 1 ∷ 0 ∷ 0 ∷ 0 ∷ 0 ∷ 0 ∷ []) ∷ []
unfolding computed
occupied_slot = refl

-- reading 19 of 01: an emptied slot is all zero
pub emptied_slot :
    slot (after (reap (id 5)) (ended_twice 2)) 1 ∷ slot (after reap_one (ended_twice 2)) 1 ∷ []
    ≡ unoccupied 0 Ready ∷ unoccupied 0 Ready ∷ []
unfolding computed
emptied_slot = refl

-- .. and so are the places behind the ids of a queue that release, signal, unlock or a tick has shortened
-- acquire leaves them; its id, which stood there, was not in the queue
pub zero_places :
    places (semaphore (after (release 0) filled_behind) 0).waiters
    ∷ places (event (after (signal 0) filled_behind) 0).waiters
    ∷ places (mutex (after (unlock 1) filled_behind) 1).waiters
    ∷ places (semaphore (after tick filled_behind) 1).waiters
    ∷ places (semaphore (after (acquire 0) filled_behind) 0).waiters ∷ []
    ≡ (1 ∷ 6 ∷ 0 ∷ 0 ∷ 0 ∷ 0 ∷ 0 ∷ 0 ∷ 0 ∷ [])
    ∷ (1 ∷ 6 ∷ 0 ∷ 0 ∷ 0 ∷ 0 ∷ 0 ∷ 0 ∷ 0 ∷ [])
    ∷ (1 ∷ 6 ∷ 0 ∷ 0 ∷ 0 ∷ 0 ∷ 0 ∷ 0 ∷ 0 ∷ [])
    ∷ (2 ∷ 8 ∷ 6 ∷ 0 ∷ 0 ∷ 0 ∷ 0 ∷ 0 ∷ 0 ∷ [])
    ∷ (4 ∷ 8 ∷ 5 ∷ 6 ∷ 7 ∷ 7 ∷ 7 ∷ 7 ∷ 7 ∷ []) ∷ []
unfolding computed
zero_places = refl

-- reading 39 of 02: an owner is looked up, in the lower slot
-- a task waits where its own id stands, so both lend that are Blocked
-- 5 in slot 1, at its own mutex, is a ring of one; 5 in slot 2 lends to it, and so does 7 once it waits there
-- an id behind those that wait is not in the queue
pub ranks_by_id :
    ranks owner_twice
    ∷ ranks (waiter_twice Blocked Blocked) ∷ ranks (waiter_twice Ready Blocked) ∷ ranks (waiter_twice Blocked Ready)
    ∷ ranks (own_mutex Ready) ∷ ranks (own_mutex Blocked) ∷ ranks (after (lock 0) (own_mutex Ready))
    ∷ ranks (after (acquire 0) filled_behind) ∷ []
    ≡ (255 ∷ 3 ∷ 100 ∷ 3 ∷ [])
    ∷ (255 ∷ 128 ∷ 100 ∷ 100 ∷ []) ∷ (255 ∷ 128 ∷ 100 ∷ 100 ∷ []) ∷ (255 ∷ 128 ∷ 100 ∷ 128 ∷ [])
    ∷ (255 ∷ 128 ∷ 100 ∷ 3 ∷ []) ∷ (255 ∷ 100 ∷ 100 ∷ 3 ∷ []) ∷ (255 ∷ 3 ∷ 100 ∷ 3 ∷ [])
    ∷ (255 ∷ 128 ∷ 100 ∷ 0 ∷ []) ∷ []
unfolding computed
ranks_by_id = refl
