-- What the book says of wake, release and signal (02, W-201): of any call of theirs on a kernel that a list of calls reaches from fresh.
use Rattle.std.specs.Prelude.{ℕ, ◌+◌, ◌-◌, ◌<◌, ◌≡◌, true, false, ◌⊎◌, ◌≢◌}
use Rattle.kernel.specs.declared.control.TaskId.{TaskId}
use Rattle.kernel.specs.declared.control.TaskState.TheVariants.{Ready, Blocked}
use Rattle.kernel.specs.declared.wait_queue.WaitQueue.{WaitQueue}
use Rattle.kernel.specs.declared.scheduler.Kernel.{Kernel}
use Rattle.kernel.specs.declared.scheduler.Value.TheVariants.{YesNo}
use Rattle.kernel.specs.Control.{entered}
use Rattle.kernel.specs.WaitQueue.{place}
use Rattle.kernel.specs.Kernel.{slot, slot_of, semaphore, event}
use Rattle.kernel.specs.Scheduler.{wakes}
use Rattle.kernel.specs.Calls.{Call, wake, release, signal, step, Reached}

-- "turned exactly one task from Blocked to Ready": that of slot i; k is the kernel before, k' the one after
pub record OneReady (k k' : Kernel) (i : ℕ) : Type 0 where
  pub present : (slot k i).occupied ≡ true
  pub was : (slot k i).state ≡ Blocked
  pub is : slot k' i ≡ entered Ready (slot k i)
  pub others : (j : ℕ) → j ≢ i → slot k' j ≡ slot k j

-- of queue q the id at place p was woken; q' is the queue after
pub record OneWoken (k k' : Kernel) (q q' : WaitQueue) : Type 0 where
  pub p : ℕ
  -- it was queued there
  pub queued : p < q.len
  pub ready : OneReady k k' (slot_of k (place q p))
  -- it was the first whom a wake turns Ready
  pub first : (j : ℕ) → j < p → wakes (place q j) k ≡ false
  -- "those behind it stay queued in their order, and nobody else does"
  pub shorter : q'.len ≡ q.len - (p + 1)
  pub behind : (j : ℕ) → j < q'.len → place q' j ≡ place q (p + 1 + j)

-- of queue q nobody was woken
pub record NoneWoken (k k' : Kernel) (q q' : WaitQueue) : Type 0 where
  pub none : (j : ℕ) → j < q.len → wakes (place q j) k ≡ false
  pub same : k'.tasks ≡ k.tasks
  pub empty : q'.len ≡ 0

-- a release or a signal, and the queue of its object
pub data ReleaseOrSignal : Call → (Kernel → WaitQueue) → Type 0 where
  releasing : (s : ℕ) → ReleaseOrSignal (release s) (λ k. (semaphore k s).waiters)
  signalling : (e : ℕ) → ReleaseOrSignal (signal e) (λ k. (event k e).waiters)

pub record Wakings (k : Kernel) : Type 0 where
  -- wake tells whether it turned a Blocked task Ready; where it did not, nothing is altered
  pub wake_yes : (a : TaskId) → (step k (wake a)).value ≡ YesNo true → OneReady k (step k (wake a)).kernel (slot_of k a)
  pub wake_no : (a : TaskId) → (step k (wake a)).value ≡ YesNo false → (step k (wake a)).kernel ≡ k
  pub wake_tells : (a : TaskId) → (step k (wake a)).number ≡ 0 → ((step k (wake a)).value ≡ YesNo true) ⊎ ((step k (wake a)).value ≡ YesNo false)
  -- "A release or signal that answers yes turned exactly one task from Blocked to Ready, the first in the queue that was
  -- Blocked"
  pub yes : (c : Call) (queue : Kernel → WaitQueue) → ReleaseOrSignal c queue → (step k c).value ≡ YesNo true → OneWoken k (step k c).kernel (queue k) (queue (step k c).kernel)
  -- "One that is accepted and answers no left every task as it was and the queue empty"
  pub no : (c : Call) (queue : Kernel → WaitQueue) → ReleaseOrSignal c queue → (step k c).value ≡ YesNo false → NoneWoken k (step k c).kernel (queue k) (queue (step k c).kernel)
  pub tells : (c : Call) (queue : Kernel → WaitQueue) → ReleaseOrSignal c queue → (step k c).number ≡ 0 → ((step k c).value ≡ YesNo true) ⊎ ((step k c).value ≡ YesNo false)
  -- an accepted release raises its count in any case
  pub count : (s : ℕ) → (step k (release s)).number ≡ 0 → (semaphore (step k (release s)).kernel s).count ≡ (semaphore k s).count + 1
  -- signal sets the flag if none was woken, and only then: an event that is signalled has no queue (Queues.antt)
  pub set : (e : ℕ) → (step k (signal e)).value ≡ YesNo false → (event (step k (signal e)).kernel e).signaled ≡ true
  pub not_signaled : (e : ℕ) → (step k (signal e)).value ≡ YesNo true
      → (event (step k (signal e)).kernel e).signaled ≡ false
  -- "An accepted signal is never lost"
  pub kept : (e : ℕ) → (step k (signal e)).number ≡ 0 → OneWoken k (step k (signal e)).kernel (event k e).waiters (event (step k (signal e)).kernel e).waiters ⊎ ((event (step k (signal e)).kernel e).signaled ≡ true)

abbrev pub WakeGuarantee : Type 0
WakeGuarantee = (k : Kernel) → Reached k → Wakings k
