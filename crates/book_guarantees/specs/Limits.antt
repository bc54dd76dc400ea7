-- What the book says of a wait with a limit (02, W-202): of every kernel that a list of calls reaches from fresh, and of every list after the call.
use Rattle.std.specs.Prelude.{ℕ, ◌+◌, ◌-◌, ◌^◌, min, ◌≤◌, ◌<◌, ◌≡◌, true, false, List, ◌⊎◌}
use Rattle.kernel.specs.declared.control.TaskId.{TaskId}
use Rattle.kernel.specs.declared.control.LimitObject.{LimitObject}
use Rattle.kernel.specs.declared.control.LimitObject.TheVariants.{AtSemaphore, AtEvent}
use Rattle.kernel.specs.declared.control.TaskState.TheVariants.{Ready, Running, Blocked, Sleeping}
use Rattle.kernel.specs.declared.wait_queue.WaitQueue.{WaitQueue}
use Rattle.kernel.specs.declared.scheduler.Kernel.{Kernel}
use Rattle.kernel.specs.declared.scheduler.Value.TheVariants.{YesNo}
use Rattle.kernel.specs.declared.scheduler.Answer.{Answer}
use Rattle.kernel.specs.Control.{has_limit, entered, expired}
use Rattle.kernel.specs.WaitQueue.{position, contains}
use Rattle.kernel.specs.Kernel.{slot, current, semaphore, event}
use Rattle.kernel.specs.Scheduler.{spent}
use Rattle.kernel.specs.Calls.{Call, tick, acquire_within, event_wait_within, step, Reached}
use Rattle.book_guarantees.specs.Lists.{Entry, after, Each, Returned, end, accepted_ticks}

-- where no tick comes any more
abbrev pub last_tick : ℕ
last_tick = 2 ^ 64 - 1

-- the task in slot i is present and has a limit
pub record Limited (k : Kernel) (i : ℕ) : Type 0 where
  pub present : (slot k i).occupied ≡ true
  pub limit : has_limit (slot k i) ≡ true

-- what then holds of it
pub record Waiting (k : Kernel) (i : ℕ) : Type 0 where
  pub blocked : (slot k i).state ≡ Blocked
  -- it stands in the queue of the object
  pub at_semaphore : (s : ℕ) → (slot k i).limit_object ≡ AtSemaphore s → (s < 4) × (contains (semaphore k s).waiters (slot k i).id ≡ true)
  pub at_event : (e : ℕ) → (slot k i).limit_object ≡ AtEvent e → (e < 4) × (contains (event k e).waiters (slot k i).id ≡ true)
  -- the limit lies after tick_count; where no tick comes any more it may be the last one itself
  pub ahead : (k.tick_count < (slot k i).limit_tick) ⊎ ((k.tick_count ≡ last_tick) × ((slot k i).limit_tick ≡ last_tick))

-- ---- an accepted tick

-- the task in slot i has a limit that the raised tick_count reaches
pub record LimitDue (k : Kernel) (i : ℕ) : Type 0 where
  pub limited : Limited k i
  pub reached : (slot k i).limit_tick ≤ k.tick_count + 1

-- the task in slot i sleeps, and the raised tick_count reaches its wake_tick
pub record SleepDue (k : Kernel) (i : ℕ) : Type 0 where
  pub present : (slot k i).occupied ≡ true
  pub sleeping : (slot k i).state ≡ Sleeping
  pub reached : (slot k i).wake_tick ≤ k.tick_count + 1

-- a is the id of a task whose limit at object o is due
pub record LimitEndsAt (k : Kernel) (o : LimitObject) (a : TaskId) : Type 0 where
  pub i : ℕ
  pub due : LimitDue k i
  pub object : (slot k i).limit_object ≡ o
  pub named : (slot k i).id ≡ a

-- q' is queue q without the ids of which `Leaves` holds
pub record Without (Leaves : TaskId → Type 0) (q q' : WaitQueue) : Type 0 where
  -- such an id stands in it no more; the others do if they did, and keep their order
  pub left : (a : TaskId) → Leaves a → contains q' a ≡ false
  pub stay : (a : TaskId) → (Leaves a → ⊥) → contains q' a ≡ contains q a
  pub order : (a b : TaskId) → (Leaves a → ⊥) → (Leaves b → ⊥)
      → position q a < position q b → position q' a < position q' b
  -- with no such id it is as it was
  pub same : ((a : TaskId) → Leaves a → ⊥) → q' ≡ q

-- what an accepted tick does to the records and queues of kernel k; a is its answer
pub record AtTick (k : Kernel) (a : Answer) : Type 0 where
  pub raised : a.kernel.tick_count ≡ k.tick_count + 1
  -- it ends exactly the limits that the raised tick_count reaches: that task is Ready and marked; any other task with a
  -- limit has its record as it was
  pub due : (i : ℕ) → LimitDue k i → slot a.kernel i ≡ expired (slot k i)
  pub not_due : (i : ℕ) → Limited k i → k.tick_count + 1 < (slot k i).limit_tick → slot a.kernel i ≡ slot k i
  -- a slot without a limit keeps its mark, and its record but for a due sleeper's waking and the slice of the task that
  -- runs, which is current
  pub unmarked : (i : ℕ) → (Limited k i → ⊥) → (slot a.kernel i).limit_passed ≡ (slot k i).limit_passed
  pub sleeper : (i : ℕ) → SleepDue k i → slot a.kernel i ≡ entered Ready (slot k i)
  pub slice : (i : ℕ) → (slot k i).state ≡ Running → (i ≡ current k) × (slot a.kernel i ≡ spent (slot k i))
  pub others : (i : ℕ) → (Limited k i → ⊥) → (SleepDue k i → ⊥) → ((slot k i).state ≡ Running → ⊥)
      → slot a.kernel i ≡ slot k i
  -- it takes the ids of those whose limit it ends out of that object's queue, and alters no queue otherwise
  pub semaphores : (s : ℕ)
      → Without (LimitEndsAt k (AtSemaphore s)) (semaphore k s).waiters (semaphore a.kernel s).waiters
  pub events : (e : ℕ) → Without (LimitEndsAt k (AtEvent e)) (event k e).waiters (event a.kernel e).waiters
  pub mutexes : a.kernel.mutexes ≡ k.mutexes
  -- where it ends a limit it wants a switch
  pub wants : (i : ℕ) → LimitDue k i → a.value ≡ YesNo true
  -- every limit lies after tick_count then, the last tick included
  pub ahead : (i : ℕ) → Limited a.kernel i → a.kernel.tick_count < (slot a.kernel i).limit_tick

-- ---- lists after the call

-- a call with a limit of n ticks, at that object
pub data WithLimit (n : ℕ) : LimitObject → Call → Type 0 where
  acquiring : (s : ℕ) → WithLimit n (AtSemaphore s) (acquire_within s n)
  waiting : (e : ℕ) → WithLimit n (AtEvent e) (event_wait_within e n)

-- slot i has that limit: it ends at tick t
pub record Keeps (i t : ℕ) (k : Kernel) : Type 0 where
  pub limited : Limited k i
  pub until : (slot k i).limit_tick ≡ t

-- k' is the kernel that the call returned, i the slot that was current, n its limit, o its object and t the tick at which the limit ends
pub record EndsWithin (k' : Kernel) (i n : ℕ) (o : LimitObject) (t : ℕ) : Type 0 where
  -- the limit begins
  pub begins : Keeps i t k'
  pub object : (slot k' i).limit_object ≡ o
  -- as long as it is kept, fewer than n ticks were accepted: with the n-th at the latest it has ended
  pub fewer : (es : List Entry) → Returned k' es → Each (λ e. Keeps i t (after e)) es → accepted_ticks es < n
  -- so no list with n accepted ticks leaves the task with that limit; but at the last tick another may have begun in that slot, held at the same tick, which no tick ends
  pub over : t < last_tick → (es : List Entry) → Returned k' es → n ≤ accepted_ticks es → Keeps i t (end k' es) → ⊥

pub record LimitGuarantee : Type 0 where
  -- a task with a limit is Blocked and stands in that object's queue, and the limit lies after tick_count
  pub kept : (k : Kernel) → Reached k → (i : ℕ) → Limited k i → Waiting k i
  pub at_tick : (k : Kernel) → Reached k → (step k tick).number ≡ 0 → AtTick k (step k tick)
  -- a wait with a limit ends within its limit of ticks; where the call answers no, it blocked
  pub ends : (k : Kernel) → Reached k → (n : ℕ) (o : LimitObject) (c : Call) → WithLimit n o c → (step k c).value ≡ YesNo false → EndsWithin (step k c).kernel (current k) n o (min (k.tick_count + n) last_tick)
