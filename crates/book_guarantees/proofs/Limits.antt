-- The limit guarantee. That a limit's task is queued, and the limit ahead, holds of every fresh kernel and is kept by every change; tick_count rises by the accepted ticks.
use Prim.Native.Nat.{ℕ, zero, suc, ◌+◌, min, ◌≤◌, ◌<◌}
use native.Mathlib.Decide.{dec_lt}
use native.Mathlib.Omega.{arith}
use mathlib.Core.Path.{◌≡◌, refl, sym, ap, subst, ◌∙◌}
use mathlib.Core.Bool.{Bool, true, false, false≢true}
use mathlib.Core.List.{List, [], ◌∷◌}
use mathlib.Core.Logic.{◌⊎◌, inl, inr, ⊎_elim}
use lib.Dec.{eqb}
use lib.ListN.{length, get_or, set, length-set, get_or-eq_default}
use lib.Seq.{get_or-set_same}
use borrow.Author.Tests.{eqb-true, eqb-false, eq-eqb, ltb-true, le-leb, lt-leb}
use Rattle.base.specs.Choice.{if◌then◌otherwise◌}
use Rattle.base.proofs.Choices.{and_left, and_right, either}
use Rattle.base.proofs.Loops.{set_each}
use Rattle.kernel.specs.declared.control.TaskId.{TaskId}
use Rattle.kernel.specs.declared.control.LimitObject.{LimitObject}
use Rattle.kernel.specs.declared.control.LimitObject.TheVariants.{NoLimit, AtSemaphore, AtEvent}
use Rattle.kernel.specs.declared.control.TaskState.{TaskState}
use Rattle.kernel.specs.declared.control.TaskState.TheVariants.{Running, Blocked}
use Rattle.kernel.specs.declared.control.TaskControl.{TaskControl}
use Rattle.kernel.specs.declared.wait_queue.WaitQueue.{WaitQueue}
use Rattle.kernel.specs.declared.semaphore.Semaphore.{Semaphore}
use Rattle.kernel.specs.declared.event.Event.{Event}
use Rattle.kernel.specs.declared.scheduler.Kernel.{Kernel}
use Rattle.kernel.specs.declared.scheduler.Value.TheVariants.{YesNo}
use Rattle.kernel.specs.declared.scheduler.Answer.{Answer}
use Rattle.kernel.specs.Control.{state_number, in_state, holds_task, is_limit, has_limit, object_fits, entered, expired, blank_slot}
use Rattle.kernel.specs.Update.{with_limit}
use Rattle.kernel.specs.WaitQueue.{contains, head}
use Rattle.kernel.specs.Kernel.{slot, current, event, fresh_kernel}
use Rattle.kernel.specs.Scheduler.{context_saved, limited, is_due, is_limit_due, woken, spent, wants_switch}
use Rattle.kernel.specs.Scheduler
use Rattle.kernel.specs.Semaphore
use Rattle.kernel.specs.Semaphore.{has_permit}
use Rattle.kernel.specs.Event
use Rattle.kernel.specs.Calls.{Call, tick, Kind, number, value, value_number, effect, accepted, step, Reached, called}
use Rattle.kernel.proofs.Queue.{enqueued_keeps, popped_keeps, removed_keeps}
use Rattle.kernel.proofs.Accepted.{accepted_at}
use Rattle.kernel.proofs.Changes.{TaskChange, same, state, asleep, ended, waiter, answered, passed, less, full, saved, QueueChange, still, joined, left, out, Unlimited, absent, present, queue_in, owner_each, Change, task, begins, clock, permits, flag, handoff, owner, added, reaped, begun, turned}
use Rattle.kernel.proofs.Unlimited.{inside}
use Rattle.kernel.proofs.Owned.{Owned, Sound, all_default, fresh_sound, change_sound}
use Rattle.kernel.proofs.Reached.{reached_by}
use Rattle.book_guarantees.specs.Lists.{Entry, after, Each, Returned, end, Outcome, turn, tick as ticked, other, outcome_of, outcome, is_start, accepted_tick, accepted_ticks}
use Rattle.book_guarantees.specs.Limits.{last_tick, Limited, Waiting, LimitEndsAt, Without, AtTick, WithLimit, acquiring, waiting, Keeps, EndsWithin, LimitGuarantee}
use Rattle.book_guarantees.proofs.BestFirst.{clash}
use Rattle.book_guarantees.proofs.Fairness.{runs}
use Rattle.book_guarantees.proofs.Invariant.{tick_clock, tick_slot, tick_spent}
use Rattle.book_guarantees.proofs.Settled.{limited_started}
use Rattle.book_guarantees.proofs.Queues.{AllFit, fresh_fits, change_fits}
use Rattle.book_guarantees.proofs.Ticks.{queue_of, woken_still, not_limited, not_sleeping, sleeper_due, woken_sleeper, woken_mark, limit_due, not_running, tick_mutexes, tick_queues, tick_mark, limit_wants}
use Rattle.book_guarantees.proofs.TurnGuarantee.{Fact, entry_fact, reached_invariant}
use Rattle.book_guarantees.proofs.Wakings.{is_blocked, answers, accepts, of_step, told}

-- ---- the invariant

abbrev Ahead : ℕ → ℕ → Type 0
Ahead now n = (now < n) ⊎ ((now ≡ last_tick) × (n ≡ last_tick))

-- of a task that has a limit, in a kernel with these queues and this tick_count
abbrev Holds : List Semaphore → List Event → ℕ → TaskControl → Type 0
Holds ss es now t = t.occupied ≡ true → has_limit t ≡ true → (contains (queue_in t.limit_object ss es) t.id ≡ true) × Ahead now t.limit_tick

record Kept (k : Kernel) : Type 0 where
  tick : k.tick_count ≤ last_tick
  holds : (i : ℕ) → i < 16 → Holds k.semaphores k.events k.tick_count (slot k i)

record Queued (k : Kernel) : Type 0 where
  sound : Sound k
  queues : AllFit k
  limits : Kept k

-- ---- tasks

task_holds : (ss : List Semaphore) (es : List Event) (now : ℕ) {g : Kind} {t u : TaskControl} → TaskChange g t u → Holds ss es now t → Holds ss es now u
unfolding context_saved
task_holds ss es now same h = h
task_holds ss es now (state s n) h = λ _ l. absurd (false≢true l)
task_holds ss es now (asleep n) h = λ _ l. absurd (false≢true l)
task_holds ss es now ended h = λ _ l. absurd (false≢true l)
task_holds ss es now (waiter a) h = h
task_holds ss es now (answered r) h = h
task_holds ss es now passed h = λ _ l. absurd (false≢true l)
task_holds ss es now (less n q) h = h
task_holds ss es now full h = h
task_holds ss es now (saved {t = t} sp) h = either (Holds ss es now) (in_state Running t) (λ _ _ l. absurd (false≢true l)) (λ _. h)

-- ---- queues

-- whoever has a limit is not among those who leave
not_among : (k : Kernel) → Owned k → (i : ℕ) → i < 16 → (slot k i).occupied ≡ true → has_limit (slot k i) ≡ true → (b : TaskId) → Unlimited k b → b.0 ≡ (slot k i).id.0 → ⊥
not_among k w i h o l b (absent none) e = false≢true (sym (none i h) ∙ rw (o, eq-eqb (slot k i).id.0 b.0 (sym e)))
not_among k w i h o l b (present j g held n) e =
    let j_is_i : j ≡ i = w.apart j i (and_left _ _ held) o (eqb-true _ _ (and_right (slot k j).occupied _ held) ∙ e) in
    false≢true (sym n ∙ rw j_is_i l)

queue_keeps : {k : Kernel} {a : TaskId} {q r : WaitQueue} (b : TaskId) → ((c : TaskId) → Unlimited k c → c.0 ≡ b.0 → ⊥) → QueueChange (Unlimited k) a q r → contains q b ≡ true → contains r b ≡ true
queue_keeps b n still e = e
queue_keeps {a = a} b n (joined {q = q}) e = enqueued_keeps q a b e
queue_keeps b n (left {r = r} p c) e = popped_keeps r b (n (head r) p) (queue_keeps b n c e)
queue_keeps b n (out {q = q} c p) e = removed_keeps q c b (n c p) e

-- a semaphore replaced, an event replaced
in_semaphores : (o : LimitObject) (ss : List Semaphore) (es : List Event) (s : ℕ) (x : Semaphore) (b : TaskId) → (contains (queue_in (AtSemaphore s) ss es) b ≡ true → contains x.waiters b ≡ true) → contains (queue_in o ss es) b ≡ true → contains (queue_in o (set ss s x) es) b ≡ true
in_semaphores NoLimit ss es s x b f e = e
in_semaphores (AtSemaphore r) ss es s x b f e = set_each (λ j (y : Semaphore). contains (queue_in (AtSemaphore j) ss es) b ≡ true → contains y.waiters b ≡ true) _ ss s x f (λ _ h. h) r e
in_semaphores (AtEvent v) ss es s x b f e = e

in_events : (o : LimitObject) (ss : List Semaphore) (es : List Event) (v : ℕ) (x : Event) (b : TaskId) → (contains (queue_in (AtEvent v) ss es) b ≡ true → contains x.waiters b ≡ true) → contains (queue_in o ss es) b ≡ true → contains (queue_in o ss (set es v x)) b ≡ true
in_events NoLimit ss es v x b f e = e
in_events (AtSemaphore s) ss es v x b f e = e
in_events (AtEvent r) ss es v x b f e = set_each (λ j (y : Event). contains (queue_in (AtEvent j) ss es) b ≡ true → contains y.waiters b ≡ true) _ es v x f (λ _ h. h) r e

-- the queue of an object that is there has eight places
sized_at : (k : Kernel) → AllFit k → (o : LimitObject) → object_fits o ≡ true → length (queue_in o k.semaphores k.events).ids ≡ 8
sized_at k q NoLimit f = refl
sized_at k q (AtSemaphore s) f = (q.semaphores s (ltb-true _ _ f)).places
sized_at k q (AtEvent e) f = (q.events e (ltb-true _ _ f)).places

-- ---- each change

begins_ahead : (now n : ℕ) → now ≤ last_tick → 0 < n → Ahead now (min (now + n) last_tick)
begins_ahead now n h p =
    elim (dec_lt now last_tick) [
      | yes l ↦ inl (omega arith)
      | no l ↦ inr (omega arith, omega arith)
    ]

one_slot : (k : Kernel) → Kept k → (i : ℕ) (u : TaskControl) → (i < 16 → Holds k.semaphores k.events k.tick_count u) → (j : ℕ) → j < 16 → Holds k.semaphores k.events k.tick_count (get_or (set k.tasks i u) j blank_slot)
one_slot k q i u f = set_each (λ j t. j < 16 → Holds k.semaphores k.events k.tick_count t) blank_slot k.tasks i u f q.holds

-- only tasks are altered
tasks_kept : (k k' : Kernel) → k'.tick_count ≡ k.tick_count → k'.semaphores ≡ k.semaphores → k'.events ≡ k.events → ((j : ℕ) → j < 16 → Holds k.semaphores k.events k.tick_count (slot k' j)) → Kept k → Kept k'
tasks_kept k k' t s e h q = record { tick = rw t q.tick; holds = rw (t, s, e) h }

change_kept : (g : Kind) (k k' : Kernel) → Change g k k' → Sound k → AllFit k → Kept k → Kept k'
unfolding Scheduler.add
change_kept g k k' (task i u h c) w a q = tasks_kept k k' refl refl refl (one_slot k q i u (λ l. task_holds _ _ _ c (q.holds i l))) q
change_kept g k k' (begins o n h b f p s) w a q =
    tasks_kept k k' refl refl refl (one_slot k q (current k) _ (λ _ _ _. (s (sized_at k a o f), begins_ahead k.tick_count n q.tick p))) q
change_kept g k k' (clock l b) w a q = record {
  tick = omega (arith, q.tick, l);
  holds = λ i h o m. ((q.holds i h o m).0, inl (b i h o m));
}
change_kept g k k' (permits s n r h c) w a q = record {
  tick = q.tick;
  holds = λ i l o m. (in_semaphores (slot k i).limit_object k.semaphores k.events s _ (slot k i).id (queue_keeps (slot k i).id (not_among k w.owned i l o m) c) (q.holds i l o m).0, (q.holds i l o m).1);
}
change_kept g k k' (flag v n r h c) w a q = record {
  tick = q.tick;
  holds = λ i l o m. (in_events (slot k i).limit_object k.semaphores k.events v _ (slot k i).id (queue_keeps (slot k i).id (not_among k w.owned i l o m) c) (q.holds i l o m).0, (q.holds i l o m).1);
}
change_kept g k k' (handoff m h r l c) w a q = tasks_kept k k' refl refl refl q.holds q
change_kept g k k' (owner m x from to h r l d c) w a q =
    tasks_kept k k' refl refl refl
    (owner_each (λ y. (j : ℕ) → j < 16 → Holds k.semaphores k.events k.tick_count (slot y j)) (λ y i n _ f. set_each (λ j t. j < 16 → Holds k.semaphores k.events k.tick_count t) blank_slot y.tasks i _ (f i) f) from to k q.holds) q
change_kept g k k' (added p r free region) w a q = tasks_kept k k' refl refl refl (one_slot k q _ _ (λ _ _ l. absurd (false≢true l))) q
change_kept g k k' (reaped x h idle running on) w a q = tasks_kept k k' refl refl refl (one_slot k q x blank_slot (λ _ _ l. absurd (false≢true l))) q
change_kept g k k' (begun x h o) w a q = tasks_kept k k' refl refl refl (one_slot k q _ _ (λ _ _ l. absurd (false≢true l))) q
change_kept g k k' (turned x h o) w a q = tasks_kept k k' refl refl refl (one_slot k q _ _ (λ _ _ l. absurd (false≢true l))) q

-- ---- from fresh

fresh_kept : (hz words : ℕ) → Kept (fresh_kernel hz words)
unfolding fresh_kernel
fresh_kept hz words = record { tick = omega arith; holds = λ i h o l. absurd (false≢true (sym (no_limit i) ∙ l)) }
  where
    no_limit : (i : ℕ) → has_limit (slot (fresh_kernel hz words) i) ≡ false
    no_limit zero = refl
    no_limit (suc i) = ap has_limit (all_default blank_slot 15 i)

queued : {k : Kernel} → Reached k → Queued k
queued = reached_by Queued (λ hz words e. record { sound = fresh_sound hz words e; queues = fresh_fits hz words e; limits = fresh_kept hz words }) (λ g k k' c q. record { sound = change_sound g k k' c q.sound; queues = change_fits g k k' c q.queues; limits = change_kept g k k' c q.sound q.queues q.limits })

-- ---- the statements

-- a present task's slot is one of the sixteen
sixteen : {k : Kernel} → Reached k → (i : ℕ) → (slot k i).occupied ≡ true → i < 16
sixteen {k} r i o = omega (arith, inside k i o, (queued r).sound.owned.slots)

kept : (k : Kernel) → Reached k → (i : ℕ) → Limited k i → Waiting k i
kept k r i l =
    let q = queued r in
    let h = sixteen r i l.present in
    let fits = q.sound.is.limits i h l.present l.limit in
    let held = q.limits.holds i h l.present l.limit in
    record {
      blocked = is_blocked (slot k i).state fits.0;
      at_semaphore = λ s e. (ltb-true s 4 (rw e at fits.1), rw e at held.0);
      at_event = λ s e. (ltb-true s 4 (rw e at fits.1), rw e at held.0);
      ahead = held.1;
    }

-- ---- a tick

waits_due : (now : ℕ) (t : TaskControl) → t.occupied ≡ true → has_limit t ≡ true → t.limit_tick ≤ now → woken now t ≡ expired t
unfolding woken is_limit_due if◌then◌otherwise◌
waits_due now t o l d = rw (o, l, le-leb t.limit_tick now d)

waits_on : (now : ℕ) (t : TaskControl) → t.occupied ≡ true → has_limit t ≡ true → t.state ≡ Blocked → now < t.limit_tick → woken now t ≡ t
unfolding woken is_limit_due is_due holds_task if◌then◌otherwise◌
waits_on now t o l b d = rw (o, l, lt-leb t.limit_tick now d, b)

-- an entry that a list has after k
fact : {k : Kernel} (e : Entry) → Reached k → e.answer ≡ step k e.call → Fact k (is_start e) (outcome e) (after e)
fact {k} e r s = entry_fact k e (reached_invariant r) s

-- the answer to an accepted tick
ticks : (P : Answer → Type 0) (k : Kernel) → (step k tick).number ≡ 0 → P (accepted (YesNo (wants_switch k)) (Scheduler.tick k)) → P (step k tick)
unfolding value effect
ticks P k z p = of_step P k tick (accepts k tick z) p

ticked_ahead : (k : Kernel) → Reached k → (step k tick).number ≡ 0 → (i : ℕ) → Limited (step k tick).kernel i → (step k tick).kernel.tick_count < (slot (step k tick).kernel i).limit_tick
unfolding outcome outcome_of if◌then◌otherwise◌
ticked_ahead k r z i l =
    let was = ticks (λ (a : Answer). outcome (record { call = tick; answer = a }) ≡ ticked (eqb (value_number (YesNo (wants_switch k))) 1)) k z refl in
    (fact (record { call = tick; answer = step k tick }) r refl).ahead _ was i (sixteen (called tick r) i l.present) l.present l.limit

-- past the table's end there is nothing
beyond : {k : Kernel} → Reached k → (i : ℕ) → (i < 16 → ⊥) → slot k i ≡ blank_slot
beyond {k} r i n = get_or-eq_default k.tasks blank_slot (omega (arith, n, (queued r).sound.owned.slots))

-- of a slot inside it, and of one past its end
each_slot : (k : Kernel) → Reached k → (step k tick).number ≡ 0 → (P : TaskControl → TaskControl → Type 0) → P blank_slot blank_slot → (i : ℕ) → (i < 16 → P (slot k i) (slot (Scheduler.tick k) i)) → P (slot k i) (slot (step k tick).kernel i)
each_slot k r z P b i f =
    elim (dec_lt i 16) [
      | yes h ↦ ticks (λ (a : Answer). P (slot k i) (slot a.kernel i)) k z (f h)
      | no h ↦ rw (beyond r i h, beyond (called tick r) i h) b
    ]

at_tick : (k : Kernel) → Reached k → (step k tick).number ≡ 0 → AtTick k (step k tick)
at_tick k r z = record {
  raised = ticks (λ (a : Answer). a.kernel.tick_count ≡ now) k z (tick_clock k);
  due = λ i d. to i _ (sixteen r i d.limited.present) (waits_due now (slot k i) d.limited.present d.limited.limit d.reached) refl;
  not_due = λ i l d. let b = (kept k r i l).blocked in to i _ (sixteen r i l.present) (waits_on now (slot k i) l.present l.limit b d) (rw b);
  unmarked = λ i n. each_slot k r z (λ t u. u.limit_passed ≡ t.limit_passed) refl i (λ h. tick_mark k i h ∙ woken_mark now (slot k i) (λ o l. n (record { present = o; limit = l })));
  sleeper = λ i d. to i _ (sixteen r i d.present) (woken_sleeper now (slot k i) (awake i (λ e. clash (ap asleep (sym e ∙ d.sleeping)) refl)) (sleeper_due now (slot k i) d.present d.sleeping d.reached)) refl;
  slice = slice;
  others = λ i n m s. each_slot k r z (λ t u. u ≡ t) refl i
      (λ h. let w = woken_still now (slot k i) (not_limited now (slot k i) (λ o l. n (record { present = o; limit = l }))) (not_sleeping now (slot k i) (λ o a b. m (record { present = o; sleeping = a; reached = b }))) in tick_slot k i h (ap runs (sym w) ∙ not_running (slot k i).state s) ∙ sym w);
  semaphores = λ s. queues (AtSemaphore s);
  events = λ e. queues (AtEvent e);
  mutexes = ticks (λ (a : Answer). a.kernel.mutexes ≡ k.mutexes) k z (tick_mutexes k);
  wants = λ i d. ticks (λ (a : Answer). a.value ≡ YesNo true) k z (ap YesNo (limit_wants k i (sixteen r i d.limited.present) (limited_started r i d.limited.limit) (limit_due now (slot k i) d.limited.present d.limited.limit d.reached)));
  ahead = ticked_ahead k r z;
}
  where
    now : ℕ
    now = k.tick_count + 1

    to : (i : ℕ) (u : TaskControl) → i < 16 → woken now (slot k i) ≡ u → runs u ≡ false → slot (step k tick).kernel i ≡ u
    to i u h w n = ticks (λ (a : Answer). slot a.kernel i ≡ u) k z (tick_slot k i h (ap runs w ∙ n) ∙ w)

    queues : (o : LimitObject) → Without (LimitEndsAt k o) (queue_of o k) (queue_of o (step k tick).kernel)
    queues o = ticks (λ (a : Answer). Without (LimitEndsAt k o) (queue_of o k) (queue_of o a.kernel)) k z (tick_queues k r (queued r).sound.is (queued r).queues (sixteen r) o)

    asleep : TaskState → Bool
    asleep s = eqb (state_number s) 3

    running : TaskState → Bool
    running s = eqb (state_number s) 1

    -- only Blocked tasks have a limit
    awake : (i : ℕ) → ((slot k i).state ≡ Blocked → ⊥) → is_limit_due now (slot k i) ≡ false
    awake i n = not_limited now (slot k i) (λ o l. n (kept k r i (record { present = o; limit = l })).blocked)

    slice : (i : ℕ) → (slot k i).state ≡ Running → (i ≡ current k) × (slot (step k tick).kernel i ≡ spent (slot k i))
    slice i e =
        let inv = reached_invariant r in
        let on = inv.running i (ap running e) in
        let w = woken_still now (slot k i) (awake i (λ b. clash (ap running (sym b ∙ e)) refl)) (not_sleeping now (slot k i) (λ _ b _. clash (ap running (sym b ∙ e)) refl)) in
        (on.0, ticks (λ (a : Answer). slot a.kernel i ≡ spent (slot k i)) k z (rw on.0 (tick_spent k inv on.1 (rw (← on.0) (ap running e)) (rw (← on.0) w))))

-- ---- lists

reached_next : {k : Kernel} (e : Entry) → Reached k → e.answer ≡ step k e.call → Reached (after e)
reached_next e r s = subst (λ (a : Answer). Reached a.kernel) (sym s) (called e.call r)

reached_end : {k : Kernel} (es : List Entry) → Reached k → Returned k es → Reached (end k es)
reached_end [] r s = r
reached_end (e ∷ es) r s = reached_end es (reached_next e r s.0) s.1

-- tick_count rises by the accepted ticks
rises : {k : Kernel} (es : List Entry) → Reached k → Returned k es → (end k es).tick_count ≡ k.tick_count + accepted_ticks es
rises [] r s = omega arith
rises (e ∷ es) r s = omega (arith, (fact e r s.0).clock, rises es (reached_next e r s.0) s.1)

-- a limit that is kept all along lies ahead after the last of the accepted ticks
kept_ahead : {k : Kernel} (i t : ℕ) (es : List Entry) → Reached k → Returned k es → Each (λ e. Keeps i t (after e)) es → (accepted_ticks es ≡ 0) ⊎ (k.tick_count + accepted_ticks es < t)
kept_ahead i t [] r s h = inl refl
kept_ahead {k} i t (e ∷ es) r s h =
    let f = fact e r s.0 in
    let l = h.0.limited in
    go (outcome e) f.clock (λ w q. omega (arith, f.ahead w q i (sixteen (reached_next e r s.0) i l.present) l.present l.limit, h.0.until)) (kept_ahead i t es (reached_next e r s.0) s.1 h.1)
  where
    go : (v : Outcome) → (after e).tick_count ≡ k.tick_count + accepted_tick v → ((w : Bool) → v ≡ ticked w → (after e).tick_count < t) → (accepted_ticks es ≡ 0) ⊎ ((after e).tick_count + accepted_ticks es < t) → (accepted_tick v + accepted_ticks es ≡ 0) ⊎ (k.tick_count + (accepted_tick v + accepted_ticks es) < t)
    go (turn s) c a (inl z) = inl (omega (arith, z))
    go (turn s) c a (inr z) = inr (omega arith)
    go (ticked w) c a (inl z) = inr (omega (arith, a w refl))
    go (ticked w) c a (inr z) = inr (omega arith)
    go other c a (inl z) = inl (omega (arith, z))
    go other c a (inr z) = inr (omega arith)

-- what follows from the limit that the call leaves
ends_within : (k k' : Kernel) (i n : ℕ) (o : LimitObject) → Reached k' → k'.tick_count ≡ k.tick_count → 0 < n → Keeps i (min (k.tick_count + n) last_tick) k' → (slot k' i).limit_object ≡ o → EndsWithin k' i n o (min (k.tick_count + n) last_tick)
ends_within k k' i n o r c p b x = record {
  begins = b;
  object = x;
  fewer = λ es s h. ⊎_elim (λ z. omega (arith, z)) (λ z. omega (arith, z, c)) (kept_ahead i _ es r s h);
  over = λ last es s m h. ⊎_elim (λ z. omega (arith, z, h.until, rises es r s, c, m)) (λ z. omega (arith, z.1, h.until, last)) (kept (end k' es) (reached_end es r s) i h.limited).ahead;
}

-- the task that was current, with its limit
current_keeps : (k : Kernel) (o : LimitObject) (n : ℕ) (x : Kernel) → Sound k → x.tasks ≡ (Scheduler.block k).tasks → current x ≡ current k → x.tick_count ≡ k.tick_count → is_limit o ≡ true → Keeps (current k) (min (k.tick_count + n) last_tick) (limited o n x) × ((slot (limited o n x) (current k)).limit_object ≡ o)
current_keeps k o n x w tasks now up l =
    let size : current k < length k.tasks = omega (arith, w.owned.slots, w.is.current_slot) in
    let was : slot x (current k) ≡ entered Blocked (slot k (current k)) = ap (λ (ts : List TaskControl). get_or ts (current k) blank_slot) tasks ∙ get_or-set_same k.tasks (current k) _ blank_slot size in
    let here : slot (limited o n x) (current k) ≡ with_limit o (min (x.tick_count + n) last_tick) (slot x (current k)) = rw now (get_or-set_same x.tasks (current k) _ blank_slot (omega (arith, size, ap length tasks, length-set k.tasks (current k) (entered Blocked (slot k (current k)))))) in
    (record { limited = record { present = rw (here, was) w.is.running; limit = rw here l }; until = rw (here, up) }, rw here)

-- a call that tells whether it need not block, and where it must begins a limit on the kernel x
blocks_within : (k : Kernel) → Reached k → (n : ℕ) (o : LimitObject) (c : Call) (free : Bool) (got x : Kernel) → number k c ≡ 0 → free ≡ false → effect k c ≡ (if free then got otherwise limited o n x) → 0 < n → x.tasks ≡ (Scheduler.block k).tasks → current x ≡ current k → x.tick_count ≡ k.tick_count → is_limit o ≡ true
    → EndsWithin (step k c).kernel (current k) n o (min (k.tick_count + n) last_tick)
blocks_within k r n o c free got x e shut is p tasks now up l =
    of_step (λ (a : Answer). Reached a.kernel → EndsWithin a.kernel (current k) n o (min (k.tick_count + n) last_tick)) k c e
    (subst (λ (y : Kernel). Reached y → EndsWithin y (current k) n o (min (k.tick_count + n) last_tick)) (sym is)
    (either (λ (y : Kernel). Reached y → EndsWithin y (current k) n o (min (k.tick_count + n) last_tick)) free (λ f. absurd (false≢true (sym shut ∙ f)))
    (λ _ q. let b = current_keeps k o n x (queued r).sound tasks now up l in ends_within k (limited o n x) (current k) n o q up p b.0 b.1)))
    (called c r)

ends : (k : Kernel) → Reached k → (n : ℕ) (o : LimitObject) (c : Call) → WithLimit n o c → (step k c).value ≡ YesNo false → EndsWithin (step k c).kernel (current k) n o (min (k.tick_count + n) last_tick)
unfolding value effect Semaphore.acquire_within Event.event_wait_within
ends k r n o c (acquiring s) v =
    let e = answers k c false v in
    blocks_within k r n o c (has_permit s k) _ (Semaphore.blocked_on_semaphore s k) e (told k c false (has_permit s k) refl v) refl (omega (arith, eqb-false n 0 (accepted_at k c 2 refl e))) refl refl refl refl
ends k r n o c (waiting s) v =
    let e = answers k c false v in
    blocks_within k r n o c (event k s).signaled _ (Event.blocked_on_event s k) e (told k c false (event k s).signaled refl v) refl (omega (arith, eqb-false n 0 (accepted_at k c 2 refl e))) refl refl refl refl

pub limit_guarantee : LimitGuarantee
limit_guarantee = record { kept = kept; at_tick = at_tick; ends = ends }
