-- What a tick does beside ending limits: to tasks without one, to the queues, slot by slot of its walk, and to its answer.
use Prim.Native.Nat.{ℕ, zero, suc, ◌+◌, ◌-◌, ◌≤◌, ◌<◌}
use native.Mathlib.Decide.{ℕ_discrete}
use native.Mathlib.Omega.{arith}
use mathlib.Core.Path.{◌≡◌, refl, sym, ap, subst, ◌∙◌}
use mathlib.Core.Bool.{Bool, true, false, not, ◌&&◌, ◌||◌, false≢true}
use mathlib.Core.Logic.{◌⊎◌, inl, inr, ⊎_elim}
use lib.Dec.{eqb}
use lib.ListN.{length}
use lib.Seq.{get_or-set_same, get_or-set_other}
use borrow.Author.Tests.{leb-true, le-leb, ltb-true}
use Rattle.base.specs.Choice.{if◌then◌otherwise◌}
use Rattle.base.proofs.Choices.{not_yes, either, left as left-arm, and_left, and_right}
use Rattle.base.proofs.Loops.{any_some, set_each}
use Rattle.kernel.specs.declared.control.TaskId.{TaskId}
use Rattle.kernel.specs.declared.control.LimitObject.{LimitObject}
use Rattle.kernel.specs.declared.control.LimitObject.TheVariants.{NoLimit, AtSemaphore, AtEvent}
use Rattle.kernel.specs.declared.control.TaskState.{TaskState}
use Rattle.kernel.specs.declared.control.TaskState.TheVariants.{Ready, Running, Blocked, Sleeping, Suspended, Terminated}
use Rattle.kernel.specs.declared.control.TaskControl.{TaskControl}
use Rattle.kernel.specs.declared.wait_queue.WaitQueue.{WaitQueue}
use Rattle.kernel.specs.declared.scheduler.Kernel.{Kernel}
use Rattle.kernel.specs.Control.{state_number, in_state, holds_task, is_limit, has_limit, object_fits, entered, blank_slot}
use Rattle.kernel.specs.WaitQueue.{empty_queue, contains, removed}
use Rattle.kernel.specs.Kernel.{slot, current, current_task, semaphore, event}
use Rattle.kernel.specs.Scheduler.{is_due, is_limit_due, woken, unqueued, visited, walked, spent, clocked, advanced, current_runs, sliced, wants, wants_switch}
use Rattle.kernel.specs.Scheduler
use Rattle.kernel.specs.Calls.{Reached}
use Rattle.kernel.proofs.Unlimited.{due_occupied}
use Rattle.kernel.proofs.Walk.{walked_beside, walked_before, walked_after}
use Rattle.kernel.proofs.Whole.{Whole}
use Rattle.book_guarantees.specs.Limits.{LimitEndsAt, Without}
use Rattle.book_guarantees.proofs.Wakings.{sized}
use Rattle.book_guarantees.proofs.Queues.{Fits, empty_fits, AllFit, same_id_lem, removed_fits, removed_gone, removed_stays, removed_order}

-- ---- a task without a limit

-- what the walk leaves: neither a due limit nor a due sleeper
pub woken_still : (now : ℕ) (t : TaskControl) → is_limit_due now t ≡ false → is_due now t ≡ false → t ≡ woken now t
unfolding woken
woken_still now t l d = left-arm _ _ _ _ l (left-arm _ _ _ _ d refl)

pub not_limited : (now : ℕ) (t : TaskControl) → (t.occupied ≡ true → has_limit t ≡ true → ⊥) → is_limit_due now t ≡ false
not_limited now t n = not_yes _ (λ y. let o = due_occupied now t y in n o.0 o.1)

is_sleeping : (s : TaskState) → eqb (state_number s) 3 ≡ true → s ≡ Sleeping
is_sleeping Ready e = absurd (false≢true e)
is_sleeping Running e = absurd (false≢true e)
is_sleeping Blocked e = absurd (false≢true e)
is_sleeping Sleeping e = refl
is_sleeping Suspended e = absurd (false≢true e)
is_sleeping Terminated e = absurd (false≢true e)

pub not_sleeping : (now : ℕ) (t : TaskControl) → (t.occupied ≡ true → t.state ≡ Sleeping → t.wake_tick ≤ now → ⊥) → is_due now t ≡ false
unfolding is_due holds_task
not_sleeping now t n = not_yes _ (λ y. let h = and_left (t.occupied && in_state Sleeping t) _ y in n (and_left t.occupied _ h) (is_sleeping t.state (and_right t.occupied _ h)) (leb-true _ _ (and_right (t.occupied && in_state Sleeping t) _ y)))

pub sleeper_due : (now : ℕ) (t : TaskControl) → t.occupied ≡ true → t.state ≡ Sleeping → t.wake_tick ≤ now → is_due now t ≡ true
unfolding is_due holds_task
sleeper_due now t o s d = rw (o, s, le-leb t.wake_tick now d)

pub woken_sleeper : (now : ℕ) (t : TaskControl) → is_limit_due now t ≡ false → is_due now t ≡ true → woken now t ≡ entered Ready t
unfolding woken if◌then◌otherwise◌
woken_sleeper now t l d = rw (l, d)

-- the mark of a task without a limit
pub woken_mark : (now : ℕ) (t : TaskControl) → (t.occupied ≡ true → has_limit t ≡ true → ⊥) → (woken now t).limit_passed ≡ t.limit_passed
unfolding woken is_due holds_task
woken_mark now t n =
    let same : TaskControl → Type 0 = λ u. u.limit_passed ≡ t.limit_passed in
    either same (is_limit_due now t) (λ y. absurd (false≢true (sym (not_limited now t n) ∙ y)))
    (λ _. either same (is_due now t) (λ y. either (λ b. b ≡ t.limit_passed) (has_limit t) (λ l. absurd (n (and_left t.occupied _ (and_left (t.occupied && in_state Sleeping t) _ y)) l)) (λ _. refl)) (λ _. refl))

pub limit_due : (now : ℕ) (t : TaskControl) → t.occupied ≡ true → has_limit t ≡ true → t.limit_tick ≤ now → is_limit_due now t ≡ true
unfolding is_limit_due
limit_due now t o l d = rw (o, l, le-leb t.limit_tick now d)

pub not_running : (s : TaskState) → (s ≡ Running → ⊥) → eqb (state_number s) 1 ≡ false
not_running Ready n = refl
not_running Running n = absurd (n refl)
not_running Blocked n = refl
not_running Sleeping n = refl
not_running Suspended n = refl
not_running Terminated n = refl

-- ---- queues

-- the queue of an object
abbrev pub queue_of : LimitObject → Kernel → WaitQueue
queue_of NoLimit k = empty_queue
queue_of (AtSemaphore s) k = (semaphore k s).waiters
queue_of (AtEvent e) k = (event k e).waiters

-- one id more is gone
one_gone : {G G' : TaskId → Type 0} (q r : WaitQueue) (a : TaskId) → ((b : TaskId) → G b → G' b) → ((b : TaskId) → G' b → G b ⊎ (a ≡ b)) → G' a → Fits r → Without G q r → Without G' q (removed r a)
one_gone {G} {G'} q r a in-it either_way here f w = record {
  left = λ b g. go b (ℕ_discrete a.0 b.0) (either_way b g);
  stay = λ b n. removed_stays r a b f (apart b n) ∙ w.stay b (λ g. n (in-it b g));
  order = λ b c n m l. removed_order r a b c f (apart b n) (apart c m) (w.order b c (λ g. n (in-it b g)) (λ g. m (in-it c g)) l);
  same = λ n. absurd (n a here);
}
  where
    apart : (b : TaskId) → (G' b → ⊥) → a.0 ≡ b.0 → ⊥
    apart b n e = n (subst G' (same_id_lem a b e) here)

    go : (b : TaskId) → Dec (a.0 ≡ b.0) → G b ⊎ (a ≡ b) → contains (removed r a) b ≡ false
    go b (yes e) g = subst (λ (x : TaskId). contains (removed r a) x ≡ false) (same_id_lem a b e) (removed_gone r a f)
    go b (no n) (inl g) = removed_stays r a b f n ∙ w.left b g
    go b (no n) (inr e) = absurd (n (ap (λ (x : TaskId). x.0) e))

-- the same ids are gone
same_gone : {G G' : TaskId → Type 0} {q r : WaitQueue} → ((b : TaskId) → G b → G' b) → ((b : TaskId) → G' b → G b) → Without G q r → Without G' q r
same_gone to from w = record {
  left = λ b g. w.left b (from b g);
  stay = λ b n. w.stay b (λ g. n (to b g));
  order = λ b c n m. w.order b c (λ g. n (to b g)) (λ g. m (to c g));
  same = λ n. w.same (λ b g. n b (to b g));
}

-- the queue of object o when an id leaves that of p
unqueued_queue : (o p : LimitObject) (a : TaskId) (x : Kernel) → length x.semaphores ≡ 4 → length x.events ≡ 4 → object_fits p ≡ true → is_limit p ≡ true
    → ((p ≡ o) × (queue_of o (unqueued p a x) ≡ removed (queue_of o x) a)) ⊎ ((p ≡ o → ⊥) × (queue_of o (unqueued p a x) ≡ queue_of o x))
unqueued_queue o NoLimit a x ss es f l = absurd (false≢true l)
unqueued_queue NoLimit (AtSemaphore s) a x ss es f l = inr (λ e. false≢true (ap is_limit (sym e)), refl)
unqueued_queue (AtSemaphore r) (AtSemaphore s) a x ss es f l =
    elim (ℕ_discrete r s) [
      | yes e ↦ inl (ap AtSemaphore (sym e), rw e (ap (λ y. y.waiters) (get_or-set_same x.semaphores s _ _ (omega (arith, ss, ltb-true s 4 f)))))
      | no n ↦ inr (λ e. n (let q : r ≡ s = cc in q), ap (λ y. y.waiters) (get_or-set_other x.semaphores s r _ _ n))
    ]
unqueued_queue (AtEvent v) (AtSemaphore s) a x ss es f l = inr (λ e. let y : ◌≡◌ {A = ℕ} 0 1 = cc in omega (arith, y), refl)
unqueued_queue NoLimit (AtEvent v) a x ss es f l = inr (λ e. false≢true (ap is_limit (sym e)), refl)
unqueued_queue (AtSemaphore s) (AtEvent v) a x ss es f l = inr (λ e. let y : ◌≡◌ {A = ℕ} 0 1 = cc in omega (arith, y), refl)
unqueued_queue (AtEvent u) (AtEvent v) a x ss es f l =
    elim (ℕ_discrete u v) [
      | yes e ↦ inl (ap AtEvent (sym e), rw e (ap (λ y. y.waiters) (get_or-set_same x.events v _ _ (omega (arith, es, ltb-true v 4 f)))))
      | no n ↦ inr (λ e. n (let q : u ≡ v = cc in q), ap (λ y. y.waiters) (get_or-set_other x.events v u _ _ n))
    ]

-- an id that the walk over the first n slots takes out of the queue of o
record Ended (k : Kernel) (now : ℕ) (o : LimitObject) (n : ℕ) (a : TaskId) : Type 0 where
  i : ℕ
  below : i < n
  due : is_limit_due now (slot k i) ≡ true
  object : (slot k i).limit_object ≡ o
  named : (slot k i).id ≡ a

-- beside semaphores and events a queue does not change
queue_beside : (o : LimitObject) (x y : Kernel) → x.semaphores ≡ y.semaphores → x.events ≡ y.events → queue_of o x ≡ queue_of o y
queue_beside NoLimit x y ss es = refl
queue_beside (AtSemaphore s) x y ss es = rw ss
queue_beside (AtEvent v) x y ss es = rw es

module _ (k : Kernel) (w : Whole k) (ss : length k.semaphores ≡ 4) (es : length k.events ≡ 4) (fits : AllFit k) (now : ℕ) (o : LimitObject) where
  -- what the walk over the first n slots leaves of the queue
  record Left (n : ℕ) (q : WaitQueue) : Type 0 where
    less : Without (Ended k now o n) (queue_of o k) q
    fit : object_fits o ≡ true → Fits q

  wider : (n : ℕ) (b : TaskId) → Ended k now o n b → Ended k now o (suc n) b
  wider n b g = record { i = g.i; below = omega (arith, g.below); due = g.due; object = g.object; named = g.named }

  -- slot n, or one before it
  narrower : (n : ℕ) (b : TaskId) → Ended k now o (suc n) b → Ended k now o n b ⊎ ((is_limit_due now (slot k n) ≡ true) × ((slot k n).limit_object ≡ o) × ((slot k n).id ≡ b))
  narrower n b g =
      elim (ℕ_discrete g.i n) [
        | yes e ↦ inr (rw (← e) g.due, rw (← e) g.object, rw (← e) g.named)
        | no e ↦ inl (record { i = g.i; below = omega (arith, g.below, e); due = g.due; object = g.object; named = g.named })
      ]

  -- slot n takes nothing out of it
  passes : (n : ℕ) (q : WaitQueue) → (is_limit_due now (slot k n) ≡ true → (slot k n).limit_object ≡ o → ⊥) → Left n q → Left (suc n) q
  passes n q none l = record { less = same_gone (wider n) (λ b g. ⊎_elim (λ x. x) (λ x. absurd (none x.0 x.1)) (narrower n b g)) l.less; fit = l.fit }

  takes : (n : ℕ) (q : WaitQueue) → is_limit_due now (slot k n) ≡ true → (slot k n).limit_object ≡ o → object_fits o ≡ true → Left n q → Left (suc n) (removed q (slot k n).id)
  takes n q d e f l = record {
    less = one_gone (queue_of o k) q (slot k n).id (wider n) (λ b g. ⊎_elim inl (λ x. inr x.2) (narrower n b g)) (record { i = n; below = omega arith; due = d; object = e; named = refl }) (l.fit f) l.less;
    fit = λ _. removed_fits q (slot k n).id (l.fit f);
  }

  visit : (n : ℕ) → n < 16 → (x : Kernel) → length x.semaphores ≡ 4 → length x.events ≡ 4 → Left n (queue_of o x)
      → Left (suc n) (queue_of o (if is_limit_due now (slot k n) then unqueued (slot k n).limit_object (slot k n).id x otherwise x))
  visit n h x xs xe l =
      either (λ (y : Kernel). Left (suc n) (queue_of o y)) (is_limit_due now (slot k n))
      (λ d.
      let oc = due_occupied now (slot k n) d in
      let f = (w.limits n h oc.0 oc.1).1 in
      ⊎_elim (λ e. rw e.1 (takes n (queue_of o x) d e.0 (rw e.0 at f) l)) (λ e. rw e.1 (passes n (queue_of o x) (λ _. e.0) l)) (unqueued_queue o (slot k n).limit_object (slot k n).id x xs xe f oc.1))
      (λ d. passes n (queue_of o x) (λ y _. false≢true (sym d ∙ y)) l)

  walk : (n : ℕ) → n ≤ 16 → Left n (queue_of o (walked now n k))
  unfolding walked visited
  walk zero h = record { less = record { left = λ b g. absurd (omega (arith, g.below)); stay = λ b n. refl; order = λ b c n m l. l; same = λ n. refl }; fit = at_first o }
    where
      at_first : (p : LimitObject) → object_fits p ≡ true → Fits (queue_of p k)
      at_first NoLimit f = empty_fits
      at_first (AtSemaphore s) f = fits.semaphores s (ltb-true s 4 f)
      at_first (AtEvent v) f = fits.events v (ltb-true v 4 f)
  walk (suc n) h =
      let x = walked now n k in
      let b = walked_beside now n k in
      let same : slot x n ≡ slot k n = walked_after now n k n (omega arith) in
      let y = if is_limit_due now (slot x n) then unqueued (slot x n).limit_object (slot x n).id x otherwise x in
      subst (λ (q : WaitQueue). Left (suc n) q) (sym (queue_beside o (visited now n x) y refl refl))
      (rw same (visit n (omega arith) x (b.semaphores ∙ ss) (b.events ∙ es) (walk n (omega arith))))

-- ---- a tick

tick_objects : (k : Kernel) → ((Scheduler.tick k).semaphores ≡ (walked (k.tick_count + 1) 16 k).semaphores) × ((Scheduler.tick k).events ≡ (walked (k.tick_count + 1) 16 k).events) × ((Scheduler.tick k).mutexes ≡ k.mutexes)
unfolding Scheduler.tick sliced advanced clocked
tick_objects k =
    let x = walked (k.tick_count + 1) 16 k in
    let m = ap (λ (y : Kernel). y.mutexes) (walked_beside (k.tick_count + 1) 16 k).form in
    either (λ (y : Kernel). (y.semaphores ≡ x.semaphores) × (y.events ≡ x.events) × (y.mutexes ≡ k.mutexes)) ((advanced k).started && current_runs (advanced k)) (λ _. (refl, refl, m)) (λ _. (refl, refl, m))

pub tick_mutexes : (k : Kernel) → (Scheduler.tick k).mutexes ≡ k.mutexes
tick_mutexes k = (tick_objects k).2

due_ends : (now : ℕ) (t : TaskControl) → is_limit_due now t ≡ true → (t.occupied ≡ true) × (has_limit t ≡ true) × (t.limit_tick ≤ now)
unfolding is_limit_due
due_ends now t e = let o = due_occupied now t e in (o.0, o.1, leb-true _ _ (and_right (t.occupied && has_limit t) _ e))

pub tick_queues : (k : Kernel) → Reached k → Whole k → AllFit k → ((i : ℕ) → (slot k i).occupied ≡ true → i < 16) → (o : LimitObject) → Without (LimitEndsAt k o) (queue_of o k) (queue_of o (Scheduler.tick k))
tick_queues k r w fits inside o =
    let now = k.tick_count + 1 in
    let z = sized r in
    rw (queue_beside o (Scheduler.tick k) (walked now 16 k) (tick_objects k).0 (tick_objects k).1)
    (same_gone
    (λ b g. let d = due_ends now (slot k g.i) g.due in record { i = g.i; due = record { limited = record { present = d.0; limit = d.1 }; reached = d.2 }; object = g.object; named = g.named })
    (λ b g. let l = g.due.limited in record { i = g.i; below = inside g.i l.present; due = limit_due now (slot k g.i) l.present l.limit g.due.reached; object = g.object; named = g.named })
    (walk k w z.semaphores z.events fits now o 16 (omega arith)).less)

spent_mark : (t : TaskControl) → (spent t).limit_passed ≡ t.limit_passed
spent_mark t = either (λ (u : TaskControl). u.limit_passed ≡ t.limit_passed) (eqb (t.remaining_slice - 1) 0) (λ _. refl) (λ _. refl)

-- the mark is what the walk leaves
pub tick_mark : (k : Kernel) (j : ℕ) → j < 16 → (slot (Scheduler.tick k) j).limit_passed ≡ (woken (k.tick_count + 1) (slot k j)).limit_passed
unfolding Scheduler.tick sliced advanced clocked
tick_mark k j h =
    let walk : slot (advanced k) j ≡ woken (k.tick_count + 1) (slot k j) = walked_before (k.tick_count + 1) 16 k j h in
    either (λ (x : Kernel). (slot x j).limit_passed ≡ (slot (advanced k) j).limit_passed) ((advanced k).started && current_runs (advanced k))
    (λ _. set_each (λ i t. t.limit_passed ≡ (slot (advanced k) i).limit_passed) blank_slot (advanced k).tasks (current (advanced k)) _ (spent_mark (current_task (advanced k))) (λ _. refl) j) (λ _. refl)
    ∙ ap (λ (t : TaskControl). t.limit_passed) walk

wanted : (s c w d : Bool) → s ≡ true → w ≡ true → (if not s then false otherwise if not c then true otherwise (w || d)) ≡ true
unfolding if◌then◌otherwise◌
wanted true true true d o e = refl
wanted true false w d o e = refl
wanted true true false d o e = absurd (false≢true e)
wanted false c w d o e = absurd (false≢true o)

-- where a limit ends a started kernel's tick wants a switch
pub limit_wants : (k : Kernel) (i : ℕ) → i < 16 → k.started ≡ true → is_limit_due (k.tick_count + 1) (slot k i) ≡ true → wants_switch k ≡ true
unfolding wants_switch wants advanced clocked
limit_wants k i h on d =
    let now = k.tick_count + 1 in
    wanted (advanced k).started (current_runs (advanced k)) _ _ (ap (λ (x : Kernel). x.started) (walked_beside now 16 k).form ∙ on)
    (any_some (λ j. is_limit_due now (slot k j) || is_due now (slot k j)) 16 i h (rw d))
