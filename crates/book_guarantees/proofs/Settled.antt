-- Call by call, since the changes do not tell it: a signalled event has no queue, as one is signalled only where its queue is empty and nobody joins the queue of
-- one that is; and no task has a limit before the start.
use Prim.Native.Nat.{ℕ, zero, suc}
use native.Mathlib.Omega.{arith}
use mathlib.Core.Path.{◌≡◌, refl, sym, ap, ◌∙◌}
use mathlib.Core.Bool.{Bool, true, false, false≢true, not, ◌||◌, ◌&&◌}
use lib.Dec.{ltb}
use Rattle.base.proofs.Choices.{not_clear, or_left, either}
use Rattle.base.proofs.Loops.{set_each}
use Rattle.kernel.specs.declared.control.TaskId.{TaskId}
use Rattle.kernel.specs.Types.{Option}
use Rattle.kernel.specs.Types.{None, Some}
use Rattle.kernel.specs.declared.control.LimitObject.{LimitObject}
use Rattle.kernel.specs.declared.control.LimitObject.TheVariants.{NoLimit, AtSemaphore, AtEvent}
use Rattle.kernel.specs.declared.control.TaskState.TheVariants.{Running, Blocked, Terminated}
use Rattle.kernel.specs.declared.control.TaskControl.{TaskControl}
use Rattle.kernel.specs.declared.wait_queue.WaitQueue.{WaitQueue}
use Rattle.kernel.specs.declared.event.Event.{Event}
use Rattle.kernel.specs.declared.scheduler.Kernel.{Kernel}
use Rattle.kernel.specs.Control.{in_state, has_limit, unblocked, blank_slot}
use Rattle.kernel.specs.WaitQueue.{contains, without, is_empty, head, popped, removed}
use Rattle.kernel.specs.Kernel.{slot, current_task, slot_of, at_id, mutex, event, with_event, fresh_kernel}
use Rattle.kernel.specs.Scheduler
use Rattle.kernel.specs.Scheduler.{context_saved, wakes, wake_waiter, wake_one, drop_heads, reapable_slot, is_limit_due, unqueued, visited, walked, clocked, advanced, current_runs, sliced}
use Rattle.kernel.specs.Mutex
use Rattle.kernel.specs.Mutex.{owns_mutex, is_handed}
use Rattle.kernel.specs.Semaphore
use Rattle.kernel.specs.Semaphore.{has_permit}
use Rattle.kernel.specs.Event
use Rattle.kernel.specs.Calls.{Call, add, start, tick, switch, current_id, status, block, sleep, wake, exit, wait, reap, reap_one, result, lock, try_lock, unlock, acquire, acquire_within, try_acquire, release, event_wait, event_wait_within, signal, list, ticks_to_ms, load, Kind, adding, reaping, starting, switching, ticking, owning, plain, number, effect, init_number, Reached}
use Rattle.kernel.proofs.Queue.{popped_length}
use Rattle.kernel.proofs.Accepted.{accepted_at}
use Rattle.kernel.proofs.Changes.{TaskChange, same, state, asleep, ended, waiter, answered, passed, less, full, saved, id_each, Changes, SlotChange, by, limited, counted, new, cleared, run_first, run_next}
use Rattle.kernel.proofs.MadeOf.{made_of}
use Rattle.kernel.proofs.Owned.{all_default}
use Rattle.kernel.proofs.Reached.{reached}
use Rattle.book_guarantees.proofs.Kept.{each_kept}
use Rattle.book_guarantees.proofs.Invariant.{Invariant, fresh_invariant}
use Rattle.book_guarantees.proofs.TurnGuarantee.{accepted_fact}

-- ---- a signalled event has no queue

-- of one event, and of all
abbrev Clear : Event → Type 0
Clear x = x.signaled ≡ true → x.waiters.len ≡ 0

abbrev pub AllClear : Kernel → Type 0
AllClear k = (e : ℕ) → Clear (event k e)

-- one event replaced
event_clear : (k : Kernel) (v : ℕ) (x : Event) → AllClear k → Clear x → AllClear (with_event v x k)
event_clear k v x c h = set_each (λ _ y. Clear y) _ k.events v x h c

-- what alters tasks alone
id_clear : (k : Kernel) (a : TaskId) (f : TaskControl → TaskControl) → AllClear k → AllClear (at_id a f k)
id_clear k a f c = id_each AllClear a f k (λ _ _. c) c

waiter_clear : (k : Kernel) (a : Option TaskId) → AllClear k → AllClear (wake_waiter a k)
waiter_clear k None c = c
waiter_clear k (Some a) c = id_clear k a _ c

-- what every wake keeps
heads_keep : (P : Kernel → Type 0) → ((k : Kernel) (a : TaskId) → P k → P (Scheduler.wake a k)) → (n : ℕ) (q : WaitQueue) (k : Kernel) → P k → P (drop_heads n q k).kernel
unfolding drop_heads
heads_keep P f zero q k p = p
heads_keep P f (suc n) q k p = either (λ (w : Scheduler.Waking). P w.kernel) (wakes (head q) k) (λ _. f k (head q) p) (λ _. heads_keep P f n (popped q) k p)

-- where none was woken the queue is empty; where one was it was not
heads_empty : (n : ℕ) (q : WaitQueue) (k : Kernel) → q.len ≡ n → (drop_heads n q k).woke ≡ false → (drop_heads n q k).waiters.len ≡ 0
unfolding drop_heads
heads_empty zero q k e = λ _. e
heads_empty (suc n) q k e =
    either (λ (w : Scheduler.Waking). w.woke ≡ false → w.waiters.len ≡ 0) (wakes (head q) k) (λ _ y. absurd (false≢true (sym y)))
    (λ _. heads_empty n (popped q) k (omega (arith, popped_length q (λ z. omega arith))))

none_woken : (n : ℕ) (q : WaitQueue) (k : Kernel) → n ≡ 0 → (drop_heads n q k).woke ≡ false
unfolding drop_heads
none_woken zero q k e = refl
none_woken (suc n) q k e = absurd (omega arith)

signal_clear : (k : Kernel) (v : ℕ) → AllClear k → Clear (record { signaled = not (wake_one (event k v).waiters k).woke || (event k v).signaled; waiters = (wake_one (event k v).waiters k).waiters })
signal_clear k v c = go (wake_one q k).woke refl (event k v).signaled refl
  where
    q : WaitQueue
    q = (event k v).waiters

    go : (w : Bool) → (wake_one q k).woke ≡ w → (b : Bool) → (event k v).signaled ≡ b → (not w || b) ≡ true → (wake_one q k).waiters.len ≡ 0
    go false e b s h = heads_empty q.len q k refl e
    go true e true s h = absurd (false≢true (sym (none_woken q.len q k (c v s)) ∙ e))
    go true e false s h = absurd (false≢true h)

removed_empty : (q : WaitQueue) (a : TaskId) → q.len ≡ 0 → (removed q a).len ≡ 0
unfolding removed without
removed_empty q a e = either (λ (r : WaitQueue). r.len ≡ 0) (contains q a) (λ _. omega arith) (λ _. e)

unqueued_clear : (k : Kernel) (o : LimitObject) (a : TaskId) → AllClear k → AllClear (unqueued o a k)
unqueued_clear k NoLimit a c = c
unqueued_clear k (AtSemaphore s) a c = c
unqueued_clear k (AtEvent v) a c = event_clear k v _ c (λ h. removed_empty (event k v).waiters a (c v h))

walked_clear : (now n : ℕ) (k : Kernel) → AllClear k → AllClear (walked now n k)
unfolding walked visited
walked_clear now zero k c = c
walked_clear now (suc n) k c = let x = walked now n k in let d = walked_clear now n k c in either AllClear (is_limit_due now (slot x n)) (λ _. unqueued_clear x (slot x n).limit_object (slot x n).id d) (λ _. d)

-- ---- a kernel that is not started has no limits

abbrev NoLimits : Kernel → Type 0
NoLimits k = (i : ℕ) → has_limit (slot k i) ≡ false

-- how limits go from k to k' where k is not started
abbrev Unlimited : Kernel → Kernel → Type 0
Unlimited k k' = k.started ≡ false → NoLimits k → NoLimits k'

task_unlimited : {g : Kind} {t u : TaskControl} → TaskChange g t u → has_limit t ≡ false → has_limit u ≡ false
unfolding context_saved
task_unlimited same h = h
task_unlimited (state s n) h = refl
task_unlimited (asleep n) h = refl
task_unlimited ended h = refl
task_unlimited (waiter a) h = h
task_unlimited (answered r) h = h
task_unlimited passed h = refl
task_unlimited (less n q) h = h
task_unlimited full h = h
task_unlimited (saved {t = t} sp) h = either (λ (u : TaskControl). has_limit u ≡ false) (in_state Running t) (λ _. refl) (λ _. h)

-- a limit begins only in a call of no other kind
abbrev NotPlain : Kind → Type 0
NotPlain adding = Unit {0}
NotPlain reaping = Unit {0}
NotPlain starting = Unit {0}
NotPlain switching = Unit {0}
NotPlain ticking = Unit {0}
NotPlain owning = Unit {0}
NotPlain plain = ⊥

slot_unlimited : {g : Kind} → NotPlain g → (t u : TaskControl) → SlotChange g t u → has_limit t ≡ false → has_limit u ≡ false
slot_unlimited x t u (by c) h = task_unlimited c h
slot_unlimited x t u (limited o n b f) h = absurd x
slot_unlimited x t u (counted n) h = h
slot_unlimited x t u (new a p r e) h = refl
slot_unlimited x t u (cleared e) h = refl
slot_unlimited x t u run_first h = refl
slot_unlimited x t u run_next h = refl

by_kind : {g : Kind} {k k' : Kernel} → NotPlain g → Changes g k k' → Unlimited k k'
by_kind x cs off n i = each_kept (λ t u. has_limit t ≡ false → has_limit u ≡ false) (λ _ h. h) (λ _ _ _ p q h. q (p h)) (slot_unlimited x) cs i (n i)

-- a check of the accepted call is that the kernel is started
once_started : (k : Kernel) (c : Call) → not k.started ≡ false → Unlimited k (effect k c)
once_started k c e off n = absurd (false≢true (sym off ∙ not_clear _ e))

id_unlimited : (k : Kernel) (a : TaskId) (f : TaskControl → TaskControl) → ((t : TaskControl) → has_limit t ≡ false → has_limit (f t) ≡ false) → NoLimits k → NoLimits (at_id a f k)
id_unlimited k a f h n = id_each NoLimits a f k (λ i _. set_each (λ _ t. has_limit t ≡ false) blank_slot k.tasks i _ (h (slot k i) (n i)) n) n

wake_unlimited : (k : Kernel) (a : TaskId) → NoLimits k → NoLimits (Scheduler.wake a k)
unfolding unblocked
wake_unlimited k a = id_unlimited k a unblocked (λ t h. either (λ (u : TaskControl). has_limit u ≡ false) (in_state Blocked t) (λ _. refl) (λ _. h))

-- ---- every call

call_settled : (k : Kernel) (c : Call) → number k c ≡ 0 → AllClear k → AllClear (effect k c) × Unlimited k (effect k c)
unfolding effect Scheduler.add Scheduler.start Scheduler.switch Scheduler.exit Scheduler.wait Scheduler.reap_one Scheduler.tick sliced advanced clocked Mutex.lock Mutex.try_lock Mutex.unlock Semaphore.acquire Semaphore.acquire_within Semaphore.try_acquire Semaphore.release Event.event_wait Event.event_wait_within Event.signal
call_settled k (add arena p r) e c = (c, by_kind tt (made_of k (add arena p r) e))
call_settled k start e c = (c, by_kind tt (made_of k start e))
call_settled k tick e c = let d = walked_clear _ 16 k c in (either AllClear ((advanced k).started && current_runs (advanced k)) (λ _. d) (λ _. d), by_kind tt (made_of k tick e))
call_settled k (switch arena sp) e c = (c, by_kind tt (made_of k (switch arena sp) e))
call_settled k current_id e c = (c, once_started k current_id (accepted_at k current_id 0 refl e))
call_settled k (status s) e c = (c, once_started k (status s) (accepted_at k (status s) 0 refl e))
call_settled k block e c = (c, once_started k block (accepted_at k block 0 refl e))
call_settled k (sleep ticks) e c = (c, once_started k (sleep ticks) (accepted_at k (sleep ticks) 0 refl e))
call_settled k (wake a) e c = (id_clear k a _ c, λ _. wake_unlimited k a)
call_settled k exit e c = (waiter_clear _ (current_task k).waiter c, once_started k exit (accepted_at k exit 0 refl e))
call_settled k (wait a) e c = (either AllClear (in_state Terminated (slot k (slot_of k a))) (λ _. c) (λ _. c), once_started k (wait a) (accepted_at k (wait a) 0 refl e))
call_settled k (reap a) e c = (c, by_kind tt (made_of k (reap a) e))
call_settled k reap_one e c = (either AllClear (ltb (reapable_slot k) 16) (λ _. c) (λ _. c), by_kind tt (made_of k reap_one e))
call_settled k (result a r) e c = (id_clear k a _ c, λ _. id_unlimited k a _ (λ _ h. h))
call_settled k (lock m) e c = (either AllClear (not (mutex k m).locked) (λ _. id_clear k _ _ c) (λ _. either AllClear (owns_mutex k m && is_handed k m) (λ _. c) (λ _. c)), by_kind tt (made_of k (lock m) e))
call_settled k (try_lock m) e c = (either AllClear (mutex k m).locked (λ _. c) (λ _. id_clear k _ _ c), by_kind tt (made_of k (try_lock m) e))
call_settled k (unlock m) e c = let d = id_clear k _ _ c in (either AllClear (is_empty (mutex k m).waiters) (λ _. d) (λ _. id_clear _ _ _ (id_clear _ _ _ d)), by_kind tt (made_of k (unlock m) e))
call_settled k (acquire s) e c = (either AllClear (has_permit s k) (λ _. c) (λ _. c), once_started k (acquire s) (accepted_at k (acquire s) 1 refl e))
call_settled k (acquire_within s ticks) e c = (either AllClear (has_permit s k) (λ _. c) (λ _. c), once_started k (acquire_within s ticks) (accepted_at k (acquire_within s ticks) 1 refl e))
call_settled k (try_acquire s) e c = (either AllClear (has_permit s k) (λ _. c) (λ _. c), λ _ n. either NoLimits (has_permit s k) (λ _. n) (λ _. n))
call_settled k (release s) e c = (heads_keep AllClear (λ x a. id_clear x a _) _ _ k c, λ _. heads_keep NoLimits wake_unlimited _ _ k)
call_settled k (event_wait v) e c = (either AllClear (event k v).signaled (λ _. event_clear k v _ c (λ h. absurd (false≢true h))) (λ f. event_clear k v _ c (λ h. absurd (false≢true (sym f ∙ h)))), once_started k (event_wait v) (accepted_at k (event_wait v) 1 refl e))
call_settled k (event_wait_within v ticks) e c = (either AllClear (event k v).signaled (λ _. event_clear k v _ c (λ h. absurd (false≢true h))) (λ f. event_clear k v _ c (λ h. absurd (false≢true (sym f ∙ h)))), once_started k (event_wait_within v ticks) (accepted_at k (event_wait_within v ticks) 1 refl e))
call_settled k (signal v) e c = (event_clear (wake_one (event k v).waiters k).kernel v _ (heads_keep AllClear (λ x a. id_clear x a _) _ _ k c) (signal_clear k v c), λ _. heads_keep NoLimits wake_unlimited _ _ k)
call_settled k (list arena records) e c = (c, λ _ n. n)
call_settled k (ticks_to_ms ticks) e c = (c, λ _ n. n)
call_settled k (load a) e c = (c, λ _ n. n)

-- ---- from fresh

record Settled (k : Kernel) : Type 0 where
  invariant : Invariant k
  clear : AllClear k
  limits : k.started ≡ false → NoLimits k

settled : {k : Kernel} → Reached k → Settled k
unfolding fresh_kernel
settled = reached Settled fresh_settled after
  where
    none : (v : ℕ) → (event (fresh_kernel 1 1) v).signaled ≡ false
    none zero = refl
    none (suc zero) = refl
    none (suc (suc zero)) = refl
    none (suc (suc (suc zero))) = refl
    none (suc (suc (suc (suc v)))) = refl

    no_limit : (i : ℕ) → has_limit (slot (fresh_kernel 1 1) i) ≡ false
    no_limit zero = refl
    no_limit (suc i) = ap has_limit (all_default blank_slot 15 i)

    fresh_settled : (hz words : ℕ) → init_number hz words ≡ 0 → Settled (fresh_kernel hz words)
    fresh_settled hz words e = record { invariant = fresh_invariant hz words e; clear = λ v h. absurd (false≢true (sym (none v) ∙ h)); limits = λ _. no_limit }

    after : (k : Kernel) (c : Call) → number k c ≡ 0 → Settled k → Settled (effect k c)
    after k c e s =
        let f = accepted_fact k c s.invariant e (made_of k c e) in
        let d = call_settled k c e s.clear in
        record { invariant = f.invariant; clear = d.0; limits = λ off. let was = or_left k.started _ (sym f.on ∙ off) in d.1 was (s.limits was) }

pub all_clear : {k : Kernel} → Reached k → AllClear k
all_clear r = (settled r).clear

-- a limit begins only after the start
pub limited_started : {k : Kernel} → Reached k → (i : ℕ) → has_limit (slot k i) ≡ true → k.started ≡ true
limited_started {k} r i l = go k.started refl
  where
    go : (b : Bool) → k.started ≡ b → b ≡ true
    go true e = refl
    go false e = absurd (false≢true (sym ((settled r).limits e i) ∙ l))
