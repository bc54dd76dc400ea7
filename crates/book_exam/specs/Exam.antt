-- The exam's marked cases: what the definitions answer is what the key says, by one theorem over the table of them.
use Rattle.std.specs.Prelude.{ℕ, zero, suc, ◌+◌, ◌≡◌, refl, true, List, [], ◌∷◌, map, set, replicate}
use Rattle.base.specs.Choice.{if◌then◌otherwise◌, every}
use Rattle.base.specs.Below.{all_below, any_below, count_below, sum_below, lowest_below}
use Rattle.kernel.specs.declared.wait_queue.WaitQueue.{WaitQueue}
use Rattle.kernel.specs.declared.scheduler.Kernel.{Kernel}
use Rattle.kernel.specs.declared.control.TaskState.TheVariants.{Running}
use Rattle.kernel.specs.Update.{with_remaining, with_tick_count, with_started, with_current, with_task_count, with_next_id}
use Rattle.kernel.specs.Control.{state_number, holds_task, new_task, region_fits, entered}
use Rattle.kernel.specs.WaitQueue.{empty_queue, position, pushed, enqueued}
use Rattle.kernel.specs.Kernel.{at, current_task, with_semaphore, arena_fits, whole, fresh_kernel}
use Rattle.kernel.specs.Scheduler.{is_best, pick, is_due, is_limit_due, woken, visited, walked, clocked, advanced, wants_switch}
use Rattle.kernel.specs.Scheduler
use Rattle.kernel.specs.Semaphore
use Rattle.kernel.specs.Timer.{ms_to_ticks}
use Rattle.kernel.specs.Calls.{Call, tick, sleep, acquire, number, value, effect, step, value_number, pick_bytes}

-- ---- what the candidate is given

-- a slot, the number of its state and its priority
pub record Entry : Type 0 where
  pub slot : ℕ
  pub state : ℕ
  pub priority : ℕ

pub data Question : Type 0 where
  -- who runs next; slots that are not listed are empty
  who_runs : (table : List Entry) (current : ℕ) → Question
  ticks : (ms hz : ℕ) → Question
  -- started, current Running with slice 5 and so many ticks remaining: what remains after a tick, and whether a switch is wanted
  after_tick : (remaining : ℕ) → Question
  -- current sleeps so many ticks at that tick: its state after one tick more, and that tick
  after_sleep : (ticks at : ℕ) → Question
  -- eight are enqueued, from that id on, and task 1 acquires: the number
  acquire_behind : (first : ℕ) → Question

-- ---- what the definitions answer

states : List Entry → List ℕ
states [] = replicate 16 6
states (e ∷ es) = set (states es) e.slot e.state

priorities : List Entry → List ℕ
priorities [] = replicate 16 0
priorities (e ∷ es) = set (priorities es) e.slot e.priority

-- a started kernel in which task 1 runs in slot 1
running : Kernel
running = with_started true (with_current 1 (with_task_count 2 (with_next_id 2 (at 1 (λ _. entered Running (new_task (record { 0 = 1 }) (record { 0 = 128 }) (record { start = 8192; size = 1024 }))) (fresh_kernel 1000 4096)))))

line : ℕ → ℕ → WaitQueue
line first zero = empty_queue
line first (suc n) = pushed (line first n) (record { 0 = first + n })

-- the kernel after a call
after : Kernel → Call → Kernel
after k c = (step k c).kernel

pub answer : Question → List ℕ
answer (who_runs table current) = pick_bytes (states table) (priorities table) current ∷ []
answer (ticks ms hz) = ms_to_ticks ms hz ∷ []
answer (after_tick r) =
    let k = at 1 (with_remaining r) running in
    (current_task (after k tick)).remaining_slice ∷ value_number (step k tick).value ∷ []
answer (after_sleep n t) =
    let k = after (after (with_tick_count t running) (sleep n)) tick in
    state_number (current_task k).state ∷ k.tick_count ∷ []
answer (acquire_behind first) = (step (with_semaphore 0 (record { count = 0; waiters = line first 8 }) running) (acquire 0)).number ∷ []

-- ---- the key

pub record Case : Type 0 where
  pub question : Question
  pub right : List ℕ

idle : Entry
idle = record { slot = 0; state = 0; priority = 255 }

ready : ℕ → ℕ → Entry
ready i p = record { slot = i; state = 0; priority = p }

pub cases : List Case
cases =
    record { question = who_runs (idle ∷ []) 0; right = 0 ∷ [] }
    ∷ record { question = who_runs (idle ∷ ready 3 128 ∷ ready 4 128 ∷ []) 3; right = 4 ∷ [] }
    ∷ record { question = who_runs (idle ∷ ready 3 7 ∷ ready 15 7 ∷ []) 15; right = 3 ∷ [] }
    ∷ record { question = who_runs (idle ∷ ready 2 9 ∷ ready 5 8 ∷ []) 1; right = 5 ∷ [] }
    ∷ record { question = who_runs (record { slot = 0; state = 2; priority = 255 } ∷ []) 0; right = 0 ∷ [] }
    ∷ record { question = ticks 0 1000; right = 0 ∷ [] }
    ∷ record { question = ticks 1000 1; right = 1 ∷ [] }
    ∷ record { question = ticks 1001 1; right = 2 ∷ [] }
    ∷ record { question = ticks 10 100; right = 1 ∷ [] }
    ∷ record { question = ticks 11 100; right = 2 ∷ [] }
    ∷ record { question = after_tick 1; right = 5 ∷ 1 ∷ [] }
    ∷ record { question = after_sleep 0 7; right = 0 ∷ 8 ∷ [] }
    ∷ record { question = acquire_behind 1; right = 0 ∷ [] }
    ∷ record { question = acquire_behind 2; right = 12 ∷ [] }
    ∷ []

pub given : Case → List ℕ
given c = answer c.question

pub wanted : Case → List ℕ
wanted c = c.right

pub exam : map given cases ≡ map wanted cases
unfolding given wanted cases answer idle ready states priorities running line after if◌then◌otherwise◌ every all_below any_below count_below sum_below lowest_below holds_task region_fits position pushed enqueued arena_fits whole fresh_kernel is_best pick is_due is_limit_due woken visited walked clocked advanced Scheduler.sliced Scheduler.wants wants_switch Scheduler.tick Semaphore.acquire ms_to_ticks number value effect step value_number pick_bytes
exam = refl
