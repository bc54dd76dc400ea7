-- Waits with a limit (02, W-202) that no list of the programs gets to: what the definitions make of kernels given here, and what was worked out by hand.
use Rattle.std.specs.Prelude.{ℕ, ◌+◌, ◌-◌, ◌^◌, ◌≡◌, refl, true, List, [], ◌∷◌, ◌++◌, map, length, replicate}
use Rattle.base.specs.Choice.{if◌then◌otherwise◌, every}
use Rattle.base.specs.Below.{all_below, any_below, count_below, sum_below, lowest_below, tabulate}
use Rattle.kernel.specs.declared.control.LimitObject.TheVariants.{AtSemaphore}
use Rattle.kernel.specs.declared.control.TaskState.TheVariants.{Running, Blocked}
use Rattle.kernel.specs.declared.wait_queue.WaitQueue.{WaitQueue}
use Rattle.kernel.specs.declared.scheduler.Kernel.{Kernel}
use Rattle.kernel.specs.Update.{with_limit, with_tick_count, with_started, with_current, with_task_count, with_next_id}
use Rattle.kernel.specs.Control.{state_number, holds_task, new_task, region_fits, entered}
use Rattle.kernel.specs.WaitQueue.{zero_id, place, position, pushed, enqueued, place_without, without, removed}
use Rattle.kernel.specs.Kernel.{at, slot, semaphore, with_semaphore, arena_fits, whole, fresh_kernel}
use Rattle.kernel.specs.Scheduler.{is_best, pick, is_due, is_limit_due, woken, visited, walked, clocked, advanced, wants_switch}
use Rattle.kernel.specs.Scheduler
use Rattle.kernel.specs.Semaphore
use Rattle.kernel.specs.Calls.{Call, start, tick, acquire_within, number, value, effect, step}

-- ---- the kernels

-- these ids wait, the first one first
pub line : List ℕ → WaitQueue
line ids = record { ids = map (λ n. record { 0 = n }) ids ++ replicate (8 - length ids) zero_id; len = length ids }

-- task 1 in slot 1 is current and runs, the ids wait at semaphore 0, and tick_count is now
pub running : List ℕ → ℕ → Kernel
running ids now = with_semaphore 0 (record { count = 0; waiters = line ids }) (with_tick_count now (with_started true (with_current 1 (with_task_count 2 (with_next_id 2 (at 1 (λ _. entered Running (new_task (record { 0 = 1 }) (record { 0 = 128 }) (record { start = 8192; size = 1024 }))) (fresh_kernel 1000 4096)))))))

-- it is Blocked, with a limit there until a tick
pub blocked : List ℕ → ℕ → ℕ → Kernel
blocked ids until now = at 1 (λ t. with_limit (AtSemaphore 0) until (entered Blocked t)) (running ids now)

-- idle is Blocked with such a limit, before the start
pub idle_blocked : Kernel
idle_blocked = with_semaphore 0 (record { count = 0; waiters = line (0 ∷ []) }) (at 0 (λ t. with_limit (AtSemaphore 0) 5 (entered Blocked t)) (fresh_kernel 1000 4096))

-- ---- what is seen of them

-- of the task in slot i: its state, whether its last limit to end was ended by its own tick, the tick at which its limit ends; then how many ids wait at semaphore 0, and the first three places
pub seen : ℕ → Kernel → List ℕ
seen i k =
    let t = slot k i in
    let q = (semaphore k 0).waiters in
    state_number t.state ∷ (if t.limit_passed then 1 otherwise 0) ∷ t.limit_tick ∷ q.len ∷ (place q 0).0 ∷ (place q 1).0 ∷ (place q 2).0 ∷ []

pub after : Call → Kernel → Kernel
after c k = (step k c).kernel

-- ---- the cases

-- it ends out of the middle
-- one tick earlier nothing ends
-- reading 26: a limit before tick_count is no reason to refuse, and ends with the next tick
pub by_a_tick : (seen 1 (after tick (blocked (8 ∷ 1 ∷ 7 ∷ []) 10 9))) ∷ (seen 1 (after tick (blocked (8 ∷ 1 ∷ 7 ∷ []) 11 9))) ∷ (seen 1 (after tick (blocked (1 ∷ []) 5 9))) ∷ [] ≡ (0 ∷ 1 ∷ 0 ∷ 2 ∷ 8 ∷ 7 ∷ 0 ∷ []) ∷ (2 ∷ 0 ∷ 11 ∷ 3 ∷ 8 ∷ 1 ∷ 7 ∷ []) ∷ (0 ∷ 1 ∷ 0 ∷ 0 ∷ 0 ∷ 0 ∷ 0 ∷ []) ∷ []
unfolding seen after blocked running idle_blocked line if◌then◌otherwise◌ every all_below any_below count_below sum_below lowest_below tabulate holds_task region_fits position pushed enqueued place_without without removed arena_fits whole fresh_kernel is_best pick is_due is_limit_due woken visited walked clocked advanced Scheduler.sliced Scheduler.wants wants_switch Scheduler.tick Scheduler.start Semaphore.acquire_within number value effect step
by_a_tick = refl

-- reading 25: an id that is not in that queue
-- .. one that stands there twice, whose first place goes
-- reading 24: a start that picks idle, Blocked since none is Ready, ends its limit; idle keeps its place
pub of_odd_kernels : (seen 1 (after tick (blocked (8 ∷ 7 ∷ []) 10 9))) ∷ (seen 1 (after tick (blocked (1 ∷ 7 ∷ 1 ∷ []) 10 9))) ∷ (seen 0 (after start idle_blocked)) ∷ [] ≡ (0 ∷ 1 ∷ 0 ∷ 2 ∷ 8 ∷ 7 ∷ 0 ∷ []) ∷ (0 ∷ 1 ∷ 0 ∷ 2 ∷ 7 ∷ 1 ∷ 0 ∷ []) ∷ (1 ∷ 0 ∷ 0 ∷ 1 ∷ 0 ∷ 0 ∷ 0 ∷ []) ∷ []
unfolding seen after blocked running idle_blocked line if◌then◌otherwise◌ every all_below any_below count_below sum_below lowest_below tabulate holds_task region_fits position pushed enqueued place_without without removed arena_fits whole fresh_kernel is_best pick is_due is_limit_due woken visited walked clocked advanced Scheduler.sliced Scheduler.wants wants_switch Scheduler.tick Scheduler.start Semaphore.acquire_within number value effect step
of_odd_kernels = refl

-- held at 2^64 - 1
-- ended by the last tick
-- one that began there is ended by no tick: tick is refused
pub at_the_last_tick : (seen 1 (after (acquire_within 0 5) (running [] (2 ^ 64 - 3)))) ∷ (seen 1 (after tick (blocked (1 ∷ []) (2 ^ 64 - 1) (2 ^ 64 - 2)))) ∷ (seen 1 (after tick (blocked (1 ∷ []) (2 ^ 64 - 1) (2 ^ 64 - 1)))) ∷ [] ≡ (2 ∷ 0 ∷ (2 ^ 64 - 1) ∷ 1 ∷ 1 ∷ 0 ∷ 0 ∷ []) ∷ (0 ∷ 1 ∷ 0 ∷ 0 ∷ 0 ∷ 0 ∷ 0 ∷ []) ∷ (2 ∷ 0 ∷ (2 ^ 64 - 1) ∷ 1 ∷ 1 ∷ 0 ∷ 0 ∷ []) ∷ []
unfolding seen after blocked running idle_blocked line if◌then◌otherwise◌ every all_below any_below count_below sum_below lowest_below tabulate holds_task region_fits position pushed enqueued place_without without removed arena_fits whole fresh_kernel is_best pick is_due is_limit_due woken visited walked clocked advanced Scheduler.sliced Scheduler.wants wants_switch Scheduler.tick Scheduler.start Semaphore.acquire_within number value effect step
at_the_last_tick = refl
