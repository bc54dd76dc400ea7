-- What the book says of queues, of every kernel that a list of calls reaches from fresh.
use Rattle.std.specs.Prelude.{ℕ, ◌<◌, ◌≡◌, true}
use Rattle.kernel.specs.declared.wait_queue.WaitQueue.{WaitQueue}
use Rattle.kernel.specs.declared.scheduler.Kernel.{Kernel}
use Rattle.kernel.specs.WaitQueue.{place}
use Rattle.kernel.specs.Kernel.{mutex, semaphore, event}
use Rattle.kernel.specs.Calls.{Reached}

-- each id stands at most once in queue q: no two places have the same
abbrev pub Once : WaitQueue → Type 0
Once q = (i j : ℕ) → i < q.len → j < q.len → place q i ≡ place q j → i ≡ j

pub record Queues (k : Kernel) : Type 0 where
  pub mutexes : (m : ℕ) → m < 4 → Once (mutex k m).waiters
  pub semaphores : (s : ℕ) → s < 4 → Once (semaphore k s).waiters
  pub events : (e : ℕ) → e < 4 → Once (event k e).waiters
  -- a signalled event has no queue
  pub signaled : (e : ℕ) → (event k e).signaled ≡ true → (event k e).waiters.len ≡ 0

abbrev pub QueueGuarantee : Type 0
QueueGuarantee = (k : Kernel) → Reached k → Queues k
