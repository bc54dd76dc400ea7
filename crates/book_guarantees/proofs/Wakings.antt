-- What the book says of wake, release and signal, proved: by induction on how many wait, then read off the step.
use Prim.Native.Nat.{ℕ, zero, suc, ◌+◌, ◌≤◌, ◌<◌}
use native.Mathlib.Omega.{arith}
use native.Mathlib.Numerals.{add-one}
use mathlib.Core.Path.{◌≡◌, refl, sym, ap, subst, ◌∙◌}
use mathlib.Core.Bool.{Bool, true, false, ◌||◌, not, false≢true}
use mathlib.Core.Logic.{◌⊎◌, inl, inr, ⊎_elim}
use mathlib.Core.List.{List}
use lib.Dec.{eqb}
use lib.ListN.{length, length-set}
use lib.Seq.{get_or-set_same, get_or-set_other}
use borrow.Author.Tests.{ltb-true, eqb-true}
use Rattle.base.specs.Choice.{if◌then◌otherwise◌}
use Rattle.base.proofs.Choices.{not_yes, and_left, and_right, either}
use Rattle.kernel.specs.declared.control.TaskId.{TaskId}
use Rattle.kernel.specs.declared.control.TaskState.{TaskState}
use Rattle.kernel.specs.declared.control.TaskState.TheVariants.{Ready, Running, Blocked, Sleeping, Suspended, Terminated}
use Rattle.kernel.specs.declared.control.TaskControl.{TaskControl}
use Rattle.kernel.specs.declared.wait_queue.WaitQueue.{WaitQueue}
use Rattle.kernel.specs.declared.semaphore.Semaphore.{Semaphore}
use Rattle.kernel.specs.declared.event.Event.{Event}
use Rattle.kernel.specs.declared.scheduler.Kernel.{Kernel}
use Rattle.kernel.specs.declared.scheduler.Value.{Value}
use Rattle.kernel.specs.declared.scheduler.Value.TheVariants.{Nothing, Id, Turn, Region, NoRegion, YesNo, Count, Milliseconds, Load}
use Rattle.kernel.specs.declared.scheduler.Answer.{Answer}
use Rattle.kernel.specs.Update.{with_tasks}
use Rattle.kernel.specs.Control.{state_number, blank_slot, entered}
use Rattle.kernel.specs.WaitQueue.{place, head, popped}
use Rattle.kernel.specs.Kernel.{slot, current_task_id, slot_of, is_present, semaphore, event, fresh_kernel}
use Rattle.kernel.specs.Scheduler
use Rattle.kernel.specs.Scheduler.{wakes, drop_heads, wake_one}
use Rattle.kernel.specs.Semaphore
use Rattle.kernel.specs.Event
use Rattle.kernel.specs.Calls.{Call, wake, release, signal, number, value, effect, accepted, step, Reached, init_number, Kind, plain}
use Rattle.kernel.proofs.Queue.{popped_length, popped_place}
use Rattle.kernel.proofs.Tasks.{found_occupied, wake_is}
use Rattle.kernel.proofs.Accepted.{accepted_is, accepted_object}
use Rattle.kernel.proofs.Unlimited.{inside}
use Rattle.kernel.proofs.Step.{number_accepted}
use Rattle.kernel.proofs.Changes.{Change, task, begins, clock, permits, flag, handoff, owner, added, reaped, begun, turned, still}
use Rattle.kernel.proofs.MadeOf.{heads}
use Rattle.kernel.proofs.Whole.{is_whole}
use Rattle.kernel.proofs.Reached.{reached_by, reached_whole}
use Rattle.book_guarantees.proofs.Settled.{all_clear}
use Rattle.book_guarantees.specs.Wakings.{OneReady, OneWoken, NoneWoken, ReleaseOrSignal, releasing, signalling, WakeGuarantee}

-- ---- a wake

pub is_blocked : (s : TaskState) → eqb (state_number s) 2 ≡ true → s ≡ Blocked
is_blocked Ready e = absurd (false≢true e)
is_blocked Running e = absurd (false≢true e)
is_blocked Blocked e = refl
is_blocked Sleeping e = absurd (false≢true e)
is_blocked Suspended e = absurd (false≢true e)
is_blocked Terminated e = absurd (false≢true e)

woken_one : (k : Kernel) (a : TaskId) → wakes a k ≡ true → OneReady k (Scheduler.wake a k) (slot_of k a)
unfolding if◌then◌otherwise◌
woken_one k a t =
    let i = slot_of k a in
    let o = found_occupied k a (ltb-true _ _ (and_left _ _ t)) in
    subst (λ (k' : Kernel). OneReady k k' i) (rw t at (wake_is a k)) (record {
      present = o;
      was = is_blocked (slot k i).state (and_right (is_present k a) _ t);
      is = get_or-set_same k.tasks i (entered Ready (slot k i)) blank_slot (inside k i o);
      others = λ j n. get_or-set_other k.tasks i j (entered Ready (slot k i)) blank_slot n;
    })

-- ---- heads dropped, n being how many wait

next_place : (q : WaitQueue) (j : ℕ) → q.len ≤ 8 → suc j < q.len → place (popped q) j ≡ place q (suc j)
next_place q j f h = popped_place q j f (omega arith) ∙ ap (place q) (add-one j)

one_more : {k k' : Kernel} {q' : WaitQueue} (q : WaitQueue) → q.len ≤ 8 → (q.len ≡ 0 → ⊥) → wakes (head q) k ≡ false → OneWoken k k' (popped q) q' → OneWoken k k' q q'
one_more {k} {k'} {q'} q f h n w =
    let l = popped_length q h in
    record {
      p = suc w.p;
      queued = omega (arith, w.queued);
      ready = subst (λ (a : TaskId). OneReady k k' (slot_of k a)) (next_place q w.p f (omega (arith, w.queued))) w.ready;
      first = before;
      shorter = omega (arith, w.shorter);
      behind = λ j g. w.behind j g ∙ (popped_place q (w.p + 1 + j) f (omega (arith, w.shorter, w.queued)) ∙ ap (place q) (omega arith));
    }
  where
    before : (j : ℕ) → j < suc w.p → wakes (place q j) k ≡ false
    before zero g = n
    before (suc j) g = ap (λ (a : TaskId). wakes a k) (sym (next_place q j f (omega (arith, w.queued, popped_length q h)))) ∙ w.first j (omega arith)

heads_yes : (k : Kernel) (n : ℕ) (q : WaitQueue) → q.len ≡ n → q.len ≤ 8 → (drop_heads n q k).woke ≡ true → OneWoken k (drop_heads n q k).kernel q (drop_heads n q k).waiters
unfolding drop_heads
heads_yes k zero q e f t = absurd (false≢true t)
heads_yes k (suc n) q e f t =
    let h : q.len ≡ 0 → ⊥ = λ z. omega arith in
    let l = popped_length q h in
    either (λ (w : Scheduler.Waking). w.woke ≡ true → OneWoken k w.kernel q w.waiters) (wakes (head q) k)
    (λ b _. record {
      p = 0;
      queued = omega arith;
      ready = woken_one k (head q) b;
      first = λ j g. absurd (omega arith);
      shorter = l;
      behind = λ j g. popped_place q j f (omega (arith, l)) ∙ ap (place q) (omega arith);
    })
    (λ b t'. one_more q f h b (heads_yes k n (popped q) (omega (arith, l)) (omega (arith, l)) t')) t

heads_no : (k : Kernel) (n : ℕ) (q : WaitQueue) → q.len ≡ n → q.len ≤ 8 → (drop_heads n q k).woke ≡ false → NoneWoken k (drop_heads n q k).kernel q (drop_heads n q k).waiters
unfolding drop_heads
heads_no k zero q e f t = record { none = λ j g. absurd (omega arith); same = refl; empty = e }
heads_no k (suc n) q e f t =
    let h : q.len ≡ 0 → ⊥ = λ z. omega arith in
    let l = popped_length q h in
    either (λ (w : Scheduler.Waking). w.woke ≡ false → NoneWoken k w.kernel q w.waiters) (wakes (head q) k) (λ _ t'. absurd (false≢true (sym t')))
    (λ b t'. let w = heads_no k n (popped q) (omega (arith, l)) (omega (arith, l)) t' in record { none = each b w.none; same = w.same; empty = w.empty }) t
  where
    each : wakes (head q) k ≡ false → ((j : ℕ) → j < (popped q).len → wakes (place (popped q) j) k ≡ false) → (j : ℕ) → j < q.len → wakes (place q j) k ≡ false
    each b w zero g = b
    each b w (suc j) g = ap (λ (a : TaskId). wakes a k) (sym (next_place q j f g)) ∙ w j (omega (arith, popped_length q (λ z. omega arith)))

-- ---- the object after the call

pub record Sized (k : Kernel) : Type 0 where
  pub semaphores : length k.semaphores ≡ 4
  pub events : length k.events ≡ 4

same_sized : {k k' : Kernel} → length k'.semaphores ≡ length k.semaphores → length k'.events ≡ length k.events → Sized k → Sized k'
same_sized s v z = record { semaphores = s ∙ z.semaphores; events = v ∙ z.events }

change_sized : (g : Kind) (k k' : Kernel) → Change g k k' → Sized k → Sized k'
unfolding Scheduler.add
change_sized g k k' (task i u h c) = same_sized refl refl
change_sized g k k' (begins o n h b f p q) = same_sized refl refl
change_sized g k k' (clock l a) = same_sized refl refl
change_sized g k k' (permits s n q h c) = same_sized (length-set k.semaphores s _) refl
change_sized g k k' (flag v n q h c) = same_sized refl (length-set k.events v _)
change_sized g k k' (handoff m h q l c) = same_sized refl refl
change_sized g k k' (owner m x from to h q l d c) = same_sized refl refl
change_sized g k k' (added p r free region) = same_sized refl refl
change_sized g k k' (reaped x h idle running on) = same_sized refl refl
change_sized g k k' (begun x h o) = same_sized refl refl
change_sized g k k' (turned x h o) = same_sized refl refl

fresh_sized : (hz words : ℕ) → init_number hz words ≡ 0 → Sized (fresh_kernel hz words)
unfolding fresh_kernel
fresh_sized hz words e = record { semaphores = refl; events = refl }

pub sized : {k : Kernel} → Reached k → Sized k
sized r = reached_by Sized fresh_sized change_sized r

-- what stands beside the tasks is as it was
beside : {A : Type 0} (f : Kernel → A) (k : Kernel) → Reached k → (q : WaitQueue) → ((l : List TaskControl) → f (with_tasks l k) ≡ f k) → f (wake_one q k).kernel ≡ f k
beside f k r q e = (heads f (current_task_id k) {g = plain} k (is_whole k (reached_whole r)) q e q.len q (λ _ _. still)).beside

semaphore_after : (k : Kernel) (s : ℕ) → Reached k → number k (release s) ≡ 0 → semaphore (effect k (release s)) s ≡ record { count = (semaphore k s).count + 1; waiters = (wake_one (semaphore k s).waiters k).waiters }
unfolding effect Semaphore.release
semaphore_after k s r e =
    let l = ap (λ (x : List Semaphore). length x) (beside (λ k'. k'.semaphores) k r (semaphore k s).waiters (λ _. refl)) in
    get_or-set_same (wake_one (semaphore k s).waiters k).kernel.semaphores s _ _ (omega (arith, accepted_object k (release s) s _ e refl, (sized r).semaphores, l))

event_after : (k : Kernel) (v : ℕ) → Reached k → number k (signal v) ≡ 0 → event (effect k (signal v)) v ≡ record { signaled = not (wake_one (event k v).waiters k).woke || (event k v).signaled; waiters = (wake_one (event k v).waiters k).waiters }
unfolding effect Event.signal
event_after k v r e =
    let l = ap (λ (x : List Event). length x) (beside (λ k'. k'.events) k r (event k v).waiters (λ _. refl)) in
    get_or-set_same (wake_one (event k v).waiters k).kernel.events v _ _ (omega (arith, accepted_object k (signal v) v _ e refl, (sized r).events, l))

-- an accepted release or signal
record Did (k : Kernel) (c : Call) (queue : Kernel → WaitQueue) : Type 0 where
  fits : (queue k).len ≤ 8
  tells : value k c ≡ YesNo (wake_one (queue k) k).woke
  tasks : (effect k c).tasks ≡ (wake_one (queue k) k).kernel.tasks
  waiters : queue (effect k c) ≡ (wake_one (queue k) k).waiters

did : (k : Kernel) (c : Call) (queue : Kernel → WaitQueue) → ReleaseOrSignal c queue → Reached k → number k c ≡ 0 → Did k c queue
unfolding value effect Semaphore.release Event.signal
did k c queue (releasing s) r e = record {
  fits = (accepted_is k (release s) e).semaphore_queue s (accepted_object k (release s) s _ e refl);
  tells = refl;
  tasks = refl;
  waiters = ap (λ (x : Semaphore). x.waiters) (semaphore_after k s r e);
}
did k c queue (signalling v) r e = record {
  fits = (accepted_is k (signal v) e).event_queue v (accepted_object k (signal v) v _ e refl);
  tells = refl;
  tasks = refl;
  waiters = ap (λ (x : Event). x.waiters) (event_after k v r e);
}

-- ---- the step

-- whether a value is yes or no, and which
abbrev parts : Value → Bool × Bool
parts Nothing = (false, false)
parts (Id a) = (false, false)
parts (Turn i sp) = (false, false)
parts (Region r) = (false, false)
parts NoRegion = (false, false)
parts (YesNo b) = (true, b)
parts (Count n) = (false, false)
parts (Milliseconds n) = (false, false)
parts (Load share remainder) = (false, false)

-- a call that answers yes or no was accepted
pub answers : (k : Kernel) (c : Call) (b : Bool) → (step k c).value ≡ YesNo b → number k c ≡ 0
unfolding step
answers k c b = either (λ (a : Answer). a.value ≡ YesNo b → number k c ≡ 0) (eqb (number k c) 0) (λ e _. eqb-true _ _ e) (λ _ q. absurd (false≢true (ap (λ v. (parts v).0) q)))

pub accepts : (k : Kernel) (c : Call) → (step k c).number ≡ 0 → number k c ≡ 0
unfolding step
accepts k c = either (λ (a : Answer). a.number ≡ 0 → number k c ≡ 0) (eqb (number k c) 0) (λ e _. eqb-true _ _ e) (λ _ q. q)

taken : (k : Kernel) (c : Call) → number k c ≡ 0 → accepted (value k c) (effect k c) ≡ step k c
taken k c e = number_accepted k c (number k c) _ refl e refl

-- P of what an accepted call did holds of its step
pub of_step : (P : Answer → Type 0) (k : Kernel) (c : Call) → number k c ≡ 0 → P (accepted (value k c) (effect k c)) → P (step k c)
of_step P k c e = subst P (taken k c e)

which : (b : Bool) (v : Value) → v ≡ YesNo b → (v ≡ YesNo true) ⊎ (v ≡ YesNo false)
which true v e = inl e
which false v e = inr e

-- what was told of an accepted call, from its step's value
pub told : (k : Kernel) (c : Call) (b d : Bool) → value k c ≡ YesNo d → (step k c).value ≡ YesNo b → d ≡ b
told k c b d e h = ap (λ v. (parts v).1) (sym e ∙ (ap (λ (a : Answer). a.value) (taken k c (answers k c b h)) ∙ h))

-- ---- release and signal

yes : (k : Kernel) → Reached k → (c : Call) (queue : Kernel → WaitQueue) → ReleaseOrSignal c queue → (step k c).value ≡ YesNo true → OneWoken k (step k c).kernel (queue k) (queue (step k c).kernel)
yes k r c queue x h =
    let e = answers k c true h in
    let d = did k c queue x r e in
    let w = heads_yes k (queue k).len (queue k) refl d.fits (told k c true _ d.tells h) in
    of_step (λ a. OneWoken k a.kernel (queue k) (queue a.kernel)) k c e
    (rw d.waiters (record {
      p = w.p;
      queued = w.queued;
      ready = record { present = w.ready.present; was = w.ready.was; is = rw d.tasks w.ready.is; others = λ j n. rw d.tasks (w.ready.others j n) };
      first = w.first;
      shorter = w.shorter;
      behind = w.behind;
    }))

no : (k : Kernel) → Reached k → (c : Call) (queue : Kernel → WaitQueue) → ReleaseOrSignal c queue → (step k c).value ≡ YesNo false → NoneWoken k (step k c).kernel (queue k) (queue (step k c).kernel)
no k r c queue x h =
    let e = answers k c false h in
    let d = did k c queue x r e in
    let w = heads_no k (queue k).len (queue k) refl d.fits (told k c false _ d.tells h) in
    of_step (λ a. NoneWoken k a.kernel (queue k) (queue a.kernel)) k c e (rw d.waiters (record { none = w.none; same = d.tasks ∙ w.same; empty = w.empty }))

set : (k : Kernel) → Reached k → (v : ℕ) → (step k (signal v)).value ≡ YesNo false → (event (step k (signal v)).kernel v).signaled ≡ true
unfolding value
set k r v h = let e = answers k (signal v) false h in of_step (λ a. (event a.kernel v).signaled ≡ true) k (signal v) e (rw (event_after k v r e, told k (signal v) false _ refl h))

-- an event that is signalled has no queue, so nobody is woken
not_signaled : (k : Kernel) → Reached k → (v : ℕ) → (step k (signal v)).value ≡ YesNo true → (event (step k (signal v)).kernel v).signaled ≡ false
unfolding value
not_signaled k r v h =
    let e = answers k (signal v) true h in
    let w = yes k r (signal v) _ (signalling v) h in
    let was : (event k v).signaled ≡ false = not_yes _ (λ s. omega (arith, w.queued, all_clear r v s)) in
    of_step (λ a. (event a.kernel v).signaled ≡ false) k (signal v) e (rw (event_after k v r e, told k (signal v) true _ refl h) was)

tells : (k : Kernel) → Reached k → (c : Call) (queue : Kernel → WaitQueue) → ReleaseOrSignal c queue → (step k c).number ≡ 0 → ((step k c).value ≡ YesNo true) ⊎ ((step k c).value ≡ YesNo false)
tells k r c queue x h = let e = accepts k c h in of_step (λ a. (a.value ≡ YesNo true) ⊎ (a.value ≡ YesNo false)) k c e (which _ _ (did k c queue x r e).tells)

-- ---- the sentences

pub wake_guarantee : WakeGuarantee
unfolding value effect if◌then◌otherwise◌
wake_guarantee k r = record {
  wake_yes = λ a h. let e = answers k (wake a) true h in of_step (λ x. OneReady k x.kernel (slot_of k a)) k (wake a) e (woken_one k a (told k (wake a) true _ refl h));
  wake_no = λ a h. let e = answers k (wake a) false h in of_step (λ x. x.kernel ≡ k) k (wake a) e (sym (rw (told k (wake a) false _ refl h) at (wake_is a k)));
  wake_tells = λ a h. let e = accepts k (wake a) h in of_step (λ x. (x.value ≡ YesNo true) ⊎ (x.value ≡ YesNo false)) k (wake a) e (which (wakes a k) _ refl);
  yes = yes k r;
  no = no k r;
  tells = tells k r;
  count = λ s h. let e = accepts k (release s) h in of_step (λ x. (semaphore x.kernel s).count ≡ (semaphore k s).count + 1) k (release s) e (ap (λ (x : Semaphore). x.count) (semaphore_after k s r e));
  set = set k r;
  not_signaled = not_signaled k r;
  kept = λ v h. let x = signalling v in ⊎_elim (λ t. inl (yes k r (signal v) _ x t)) (λ f. inr (set k r v f)) (tells k r (signal v) _ x h);
}
