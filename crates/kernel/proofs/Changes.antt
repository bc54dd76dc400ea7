-- What every accepted call does, taken apart once: a chain of changes, each of one part of the kernel. What each change keeps, every call keeps.
use Prim.Native.Nat.{ℕ, ◌+◌, ◌-◌, ◌^◌, ◌≤◌, ◌<◌}
use mathlib.Core.Path.{◌≡◌, refl, ap, ◌∙◌}
use mathlib.Core.Bool.{Bool, true, false, not}
use mathlib.Core.List.{List, []}
use lib.Dec.{eqb}
use lib.IntN.{ℤ}
use lib.ListN.{length, get_or, set, length-set}
use borrow.Author.Tests.{ltb-true, not-true}
use Rattle.base.specs.Choice.{if◌then◌otherwise◌}
use Rattle.base.proofs.Choices.{either}
use Rattle.base.proofs.Loops.{lowest_is, set_each}
use Rattle.kernel.specs.Types.{Priority, StackRegion, Option, None, Some, TaskId, TaskState, Running, Blocked, Sleeping, Terminated, LimitObject, NoLimit, AtSemaphore, AtEvent, TaskControl, WaitQueue, Semaphore, Event, Kernel}
use Rattle.kernel.specs.Update.{with_limit, with_wake_tick, with_owned, with_remaining, with_waiter, with_result, with_tasks, with_charges, with_tick_count, with_started}
use Rattle.kernel.specs.Control.{state_number, in_state, names, holds_task, has_limit, object_fits, entered, expired, blank_slot, new_task}
use Rattle.kernel.specs.WaitQueue.{empty_queue, contains, head, enqueued, popped, removed}
use Rattle.kernel.specs.Kernel.{slot, charge, at, holds_id, current, current_task, current_task_id, at_id, is_present, slot_of, mutex, semaphore, event, with_mutex, with_semaphore, with_event}
use Rattle.kernel.specs.Scheduler.{wake_tick, next_task, next_id, terminated, emptied, lowest_empty, owned_up, owned_down, context_saved, dispatched, reloaded}
use Rattle.kernel.specs.Scheduler
use Rattle.kernel.specs.Calls.{Kind, adding, reaping, starting, switching, ticking, owning, plain}
use Rattle.kernel.proofs.Whole.{RegionFits}

-- ---- changes of a task, of a queue, of a kernel

-- a task that stays in its slot; none of these is a turn
pub data TaskChange : Kind → TaskControl → TaskControl → Type 0 where
  same : {g : Kind} {t : TaskControl} → TaskChange g t t
  state : {g : Kind} {t : TaskControl} (s : TaskState) → eqb (state_number s) 1 ≡ false → TaskChange g t (entered s t)
  asleep : {g : Kind} {t : TaskControl} (until : ℕ) → TaskChange g t (with_wake_tick until (entered Sleeping t))
  ended : {g : Kind} {t : TaskControl} → TaskChange g t (terminated t)
  waiter : {g : Kind} {t : TaskControl} (a : Option TaskId) → TaskChange g t (with_waiter a t)
  answered : {g : Kind} {t : TaskControl} (r : ℤ) → TaskChange g t (with_result r t)
  passed : {g : Kind} {t : TaskControl} → TaskChange g t (expired t)
  less : {t : TaskControl} (n : ℕ) → n ≤ t.remaining_slice → TaskChange ticking t (with_remaining n t)
  full : {t : TaskControl} → TaskChange ticking t (with_remaining t.time_slice t)
  saved : {t : TaskControl} (sp : ℕ) → TaskChange switching t (context_saved sp t)

-- only current joins; heads leave, one after another, and an id leaves out of the middle; P is known of each that leaves
pub data QueueChange (P : TaskId → Type 0) (a : TaskId) : WaitQueue → WaitQueue → Type 0 where
  still : {q : WaitQueue} → QueueChange P a q q
  joined : {q : WaitQueue} → QueueChange P a q (enqueued q a)
  left : {q r : WaitQueue} → P (head r) → QueueChange P a q r → QueueChange P a q (popped r)
  out : {q : WaitQueue} (b : TaskId) → P b → QueueChange P a q (removed q b)

-- of an id that leaves a mutex's queue nothing is known
abbrev pub Anyone : TaskId → Type 0
Anyone b = Unit {0}

-- of one that leaves another queue: no slot holds it, or a slot that does has no limit
pub data Unlimited (k : Kernel) (a : TaskId) : Type 0 where
  absent : ((i : ℕ) → i < 16 → holds_id a (slot k i) ≡ false) → Unlimited k a
  present : (i : ℕ) → i < 16 → holds_id a (slot k i) ≡ true → has_limit (slot k i) ≡ false → Unlimited k a

-- the queue of a limit's object
abbrev pub queue_in : LimitObject → List Semaphore → List Event → WaitQueue
queue_in NoLimit semaphores events = empty_queue
queue_in (AtSemaphore s) semaphores events = (get_or semaphores s (record { count = 0; waiters = record { ids = []; len = 0 } })).waiters
queue_in (AtEvent e) semaphores events = (get_or events e (record { signaled = false; waiters = record { ids = []; len = 0 } })).waiters

abbrev pub queue_at : LimitObject → Kernel → WaitQueue
queue_at o k = queue_in o k.semaphores k.events

-- an owned count up or down, of the task named
abbrev pub raised : Option TaskId → Kernel → Kernel
raised None k = k
raised (Some a) k = owned_up a k

abbrev pub lowered : Option TaskId → Kernel → Kernel
lowered None k = k
lowered (Some a) k = owned_down a k

-- the tasks once an owned count went from the one to the other
abbrev pub moved : Option TaskId → Option TaskId → Kernel → List TaskControl
moved from to k = (raised to (lowered from k)).tasks

-- how mutex m goes from one owner to another; locked then or not
pub data Hand (k : Kernel) (m : ℕ) : Bool → Option TaskId → Option TaskId → Type 0 where
  taken : (mutex k m).locked ≡ false → Hand k m true None (Some (current_task_id k))
  freed : names (mutex k m).owner (current_task_id k) ≡ true → Hand k m false (Some (current_task_id k)) None
  handed : names (mutex k m).owner (current_task_id k) ≡ true → Hand k m true (Some (current_task_id k)) (Some (head (mutex k m).waiters))

-- the charges after a tick
abbrev pub charged : Kernel → List ℕ
charged k = if k.started then set k.charges (current k) (charge k (current k) + 1) otherwise k.charges

-- Each carries what an accepted call knows of it; a kind rules out the changes that its calls do not make.
pub data Change : Kind → Kernel → Kernel → Type 0 where
  -- the task in one slot; the limit of current, which is Blocked and queued there
  task : {g : Kind} {k : Kernel} (i : ℕ) (u : TaskControl) → i < 16 → TaskChange g (slot k i) u → Change g k (with_tasks (set k.tasks i u) k)
  begins : {k : Kernel} (o : LimitObject) (ticks : ℕ) → current k < 16 → ((current_task k).occupied ≡ true → in_state Blocked (current_task k) ≡ true) → object_fits o ≡ true → 0 < ticks
      → (length (queue_at o k).ids ≡ 8 → contains (queue_at o k) (current_task_id k) ≡ true) → Change plain k (Scheduler.limited o ticks k)
  -- tick_count, and current's charge with it, once no limit ends
  clock : {k : Kernel} → (k.tick_count ≡ 2 ^ 64 - 1 → ⊥) → ((i : ℕ) → i < 16 → (slot k i).occupied ≡ true → has_limit (slot k i) ≡ true → k.tick_count + 1 < (slot k i).limit_tick) → Change ticking k (with_tick_count (k.tick_count + 1) (with_charges (charged k) k))
  -- a semaphore's count, an event's flag, a mutex's handoff_to, each with its queue
  permits : {g : Kind} {k : Kernel} (s n : ℕ) (q : WaitQueue) → s < 4 → QueueChange (Unlimited k) (current_task_id k) (semaphore k s).waiters q → Change g k (with_semaphore s (record { count = n; waiters = q }) k)
  flag : {g : Kind} {k : Kernel} (e : ℕ) (b : Bool) (q : WaitQueue) → e < 4 → QueueChange (Unlimited k) (current_task_id k) (event k e).waiters q → Change g k (with_event e (record { signaled = b; waiters = q }) k)
  handoff : {k : Kernel} (m : ℕ) (h : Option TaskId) (q : WaitQueue) → m < 4 → QueueChange Anyone (current_task_id k) (mutex k m).waiters q → Change owning k (with_mutex m (record { locked = (mutex k m).locked; owner = (mutex k m).owner; handoff_to = h; waiters = q }) k)
  -- a mutex's owner, with the owned counts of both
  owner : {k : Kernel} (m : ℕ) (l : Bool) (from to h : Option TaskId) (q : WaitQueue) → m < 4 → Hand k m l from to → QueueChange Anyone (current_task_id k) (mutex k m).waiters q → Change owning k (with_mutex m (record { locked = l; owner = to; handoff_to = h; waiters = q }) (with_tasks (moved from to k) k))
  -- a slot filled or emptied, with task_count
  added : {k : Kernel} (p : Priority) (r : StackRegion) → lowest_empty k < 16 → RegionFits k.arena_words r → Change adding k (Scheduler.add p r k)
  reaped : {k : Kernel} (i : ℕ) → i < 16 → (0 ≡ i → ⊥) → (current k ≡ i → ⊥) → holds_task Terminated (slot k i) ≡ true → Change reaping k (emptied i k)
  -- the picked task runs and is current: by a start, and by a switch once what was current is saved
  begun : {k : Kernel} → k.started ≡ false → next_task k < 16 → (slot k (next_task k)).occupied ≡ true → Change starting k (dispatched (next_task k) (λ t. t) (with_started true k))
  turned : {k : Kernel} → in_state Running (current_task k) ≡ false → next_task k < 16 → (slot k (next_task k)).occupied ≡ true → Change switching k (dispatched (next_task k) reloaded k)

-- one after another
infixl 20 ◌then◌
pub data Changes (g : Kind) : Kernel → Kernel → Type 0 where
  none : {k : Kernel} → Changes g k k
  ◌then◌ : {k k' k'' : Kernel} → Changes g k k' → Change g k' k'' → Changes g k k''

-- what goes with a task's owned count goes with a mutex's owner
pub id_each : (P : Kernel → Type 0) (a : TaskId) (f : TaskControl → TaskControl) (k : Kernel) → ((i : ℕ) → i < 16 → P (at i f k)) → P k → P (at_id a f k)
unfolding at_id
id_each P a f k h p = either P (is_present k a) (λ e. h (slot_of k a) (ltb-true _ _ e)) (λ _. p)

pub owner_each : (P : Kernel → Type 0) → ((k : Kernel) (i n : ℕ) → i < 16 → P k → P (at i (with_owned n) k)) → (from to : Option TaskId) (k : Kernel) → P k → P (raised to (lowered from k))
owner_each P h from to k p = up to (lowered from k) (down from k p)
  where
    down : (a : Option TaskId) (x : Kernel) → P x → P (lowered a x)
    down None x q = q
    down (Some a) x q = id_each P a _ x (λ i l. h x i _ l q) q

    up : (a : Option TaskId) (x : Kernel) → P x → P (raised a x)
    up None x q = q
    up (Some a) x q = id_each P a _ x (λ i l. h x i _ l q) q

pub moved_tasks : (from to : Option TaskId) (k : Kernel) → with_tasks (moved from to k) k ≡ raised to (lowered from k)
moved_tasks from to k = owner_each (λ x. with_tasks x.tasks k ≡ x) (λ x i n _ e. ap (λ (y : Kernel). with_tasks (set x.tasks i (with_owned n (slot x i))) y) e) from to k refl

-- a relation that goes on from one to the next
pub fold : {g : Kind} (R : Kernel → Kernel → Type 0) → ((k : Kernel) → R k k) → ((k k' k'' : Kernel) → R k k' → R k' k'' → R k k'') → ((k k' : Kernel) → Change g k k' → R k k') → {k k' : Kernel} → Changes g k k' → R k k'
fold R r t f (none {k = k}) = r k
fold R r t f (◌then◌ {k = k} {k' = k'} {k'' = k''} cs c) = t k k' k'' (fold R r t f cs) (f k' k'' c)

-- an invariant
pub carry : {g : Kind} (P : Kernel → Type 0) → ((k k' : Kernel) → Change g k k' → P k → P k') → {k k' : Kernel} → Changes g k k' → P k → P k'
carry P f none p = p
carry P f (◌then◌ {k' = k'} {k'' = k''} cs c) p = f k' k'' c (carry P f cs p)

-- no change adds or drops a slot
pub slots_kept : {g : Kind} {k k' : Kernel} → Change g k k' → length k'.tasks ≡ length k.tasks
unfolding Scheduler.add
slots_kept (task {k = k} i u h c) = length-set k.tasks i u
slots_kept (begins {k = k} o n h b f t s) = length-set k.tasks _ _
slots_kept (clock l a) = refl
slots_kept (permits s n q h c) = refl
slots_kept (flag v n q h c) = refl
slots_kept (handoff m h q l c) = refl
slots_kept (owner {k = k} m x from to h q l o c) = owner_each (λ k'. length k'.tasks ≡ length k.tasks) (λ x i n _ e. length-set x.tasks i _ ∙ e) from to k refl
slots_kept (added {k = k} p r free region) = length-set k.tasks _ _
slots_kept (reaped {k = k} x h idle running on) = length-set k.tasks x _
slots_kept (begun {k = k} x h o) = length-set k.tasks _ _
slots_kept (turned {k = k} x h o) = length-set k.tasks _ _

-- ---- slot by slot

-- all that happens to a slot
pub data SlotChange : Kind → TaskControl → TaskControl → Type 0 where
  by : {g : Kind} {t u : TaskControl} → TaskChange g t u → SlotChange g t u
  limited : {t : TaskControl} (o : LimitObject) (n : ℕ) → (t.occupied ≡ true → in_state Blocked t ≡ true) → object_fits o ≡ true → SlotChange plain t (with_limit o n t)
  counted : {t : TaskControl} (n : ℕ) → SlotChange owning t (with_owned n t)
  new : {t : TaskControl} (a : TaskId) (p : Priority) (r : StackRegion) → t.occupied ≡ false → SlotChange adding t (new_task a p r)
  cleared : {t : TaskControl} → holds_task Terminated t ≡ true → SlotChange reaping t blank_slot
  run_first : {t : TaskControl} → SlotChange starting t (entered Running t)
  run_next : {t : TaskControl} → SlotChange switching t (entered Running (reloaded t))

one_slot : (T : TaskControl → TaskControl → Type 0) → ((t : TaskControl) → T t t) → (k : Kernel) (i : ℕ) (u : TaskControl) → T (slot k i) u → (j : ℕ) → T (slot k j) (get_or (set k.tasks i u) j blank_slot)
one_slot T r k i u h = set_each (λ j t. T (slot k j) t) blank_slot k.tasks i u h (λ j. r (slot k j))

pub first_empty : (k : Kernel) → lowest_empty k < 16 → (slot k (lowest_empty k)).occupied ≡ false
unfolding lowest_empty
first_empty k h = not-true _ (lowest_is (λ i. not (slot k i).occupied) 16 h)

-- a relation of tasks that goes on from one to the next holds of each slot
pub each_slot : {g : Kind} (T : TaskControl → TaskControl → Type 0) → ((t : TaskControl) → T t t) → ((t u v : TaskControl) → T t u → T u v → T t v) → ((t u : TaskControl) → SlotChange g t u → T t u) → {k k' : Kernel} → Change g k k' → (j : ℕ) → T (slot k j) (slot k' j)
unfolding Scheduler.add
each_slot T r t f (task {k = k} i u h c) = one_slot T r k i u (f _ _ (by c))
each_slot T r t f (begins {k = k} o n h b g p s) = one_slot T r k _ _ (f _ _ (limited o (wake_tick n k) b g))
each_slot T r t f (clock {k = k} l a) = λ j. r (slot k j)
each_slot T r t f (permits {k = k} s n q h c) = λ j. r (slot k j)
each_slot T r t f (flag {k = k} v n q h c) = λ j. r (slot k j)
each_slot T r t f (handoff {k = k} m h q l c) = λ j. r (slot k j)
each_slot T r t f (owner {k = k} m x from to h q l d c) = owner_each (λ y. (j : ℕ) → T (slot k j) (slot y j)) (λ y i n _ e j. t _ _ _ (e j) (one_slot T r y i _ (f _ _ (counted n)) j)) from to k (λ j. r (slot k j))
each_slot T r t f (added {k = k} p s free region) = one_slot T r k _ _ (f _ _ (new (next_id k) p s (first_empty k free)))
each_slot T r t f (reaped {k = k} x h idle running on) = one_slot T r k x blank_slot (f _ _ (cleared on))
each_slot T r t f (begun {k = k} x h o) = one_slot T r k _ _ (f _ _ run_first)
each_slot T r t f (turned {k = k} x h o) = one_slot T r k _ _ (f _ _ run_next)
