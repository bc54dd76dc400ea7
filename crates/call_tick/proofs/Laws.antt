-- The kernel in the loop of a tick: the first slots are walked.
use Prim.Native.Nat.{ℕ, ◌+◌, ◌≤◌, ◌<◌, ◌-◌, ◌^◌}
use mathlib.Core.Path.{◌≡◌, refl, ap, sym, ◌∙◌}
use mathlib.Core.List.{List, [], ◌∷◌}
use mathlib.Core.Bool.{Bool, true, false, ◌&&◌, ◌||◌}
use native.Mathlib.Omega.{arith}
use native.Mathlib.Numerals.{add-one}
use lib.Dec.{eqb, leb}
use native.Mathlib.Decide.{dec_lt}
use lib.ListN.{get_or, set}
use lib.Seq.{set-get_or}
use borrow.Author.Tests.{ltb-true, eq-eqb, ne_eqb, le-leb, lt-leb}
use Rattle.base.specs.Choice.{if◌then◌otherwise◌}
use Rattle.base.specs.Below.{any_below}
use Rattle.base.proofs.Choices.{taken}
use Rattle.base.proofs.Loops.{Upto, any_start, upto_any, any_done, sum_at}
use Rattle.kernel.specs.declared.control.LimitObject.{LimitObject}
use Rattle.kernel.specs.declared.control.LimitObject.TheVariants.{NoLimit, AtSemaphore, AtEvent}
use Rattle.kernel.specs.declared.control.TaskId.{TaskId}
use Rattle.kernel.specs.declared.control.TaskControl.{TaskControl}
use Rattle.kernel.specs.declared.control.TaskState.TheVariants.{Ready, Running, Sleeping}
use Rattle.kernel.specs.declared.wait_queue.WaitQueue.{WaitQueue}
use Rattle.kernel.specs.declared.scheduler.Kernel.{Kernel}
use Rattle.kernel.specs.declared.scheduler.Value.TheVariants.{YesNo}
use Rattle.kernel.specs.declared.scheduler.Answer.{Answer}
use Rattle.kernel.specs.WaitQueue.{removed}
use Rattle.kernel.specs.Control.{in_state, holds_task, has_limit, object_fits, entered, expired, blank_slot}
use Rattle.kernel.specs.Kernel.{slot, charge, at, current, current_task, semaphore, event, with_semaphore, with_event, whole}
use Rattle.kernel.specs.Update.{with_tasks, with_charges, with_tick_count}
use Rattle.kernel.specs.Scheduler
use Rattle.kernel.specs.Scheduler.{is_due, is_limit_due, woken, unqueued, visited, walked, spent, clocked, advanced, sliced, wants, wants_switch}
use Rattle.kernel.specs.Calls.{tick, number, value, effect, first_of, not_whole, checks, refused, accepted, step}
use Rattle.kernel.proofs.Checks.{passed_early}
use Rattle.kernel.proofs.Step.{number_refused}
use Rattle.kernel.proofs.Whole.{is_whole}
use Rattle.kernel.proofs.Unlimited.{due_occupied}
use Rattle.kernel.proofs.Walk.{Beside, walked_beside, unqueued_tasks, walked_after}

-- a test b that is made first, which came out as v
first_fails : (a b c v : Bool) → v ≡ b → v ≡ false → v ≡ (a && b && c)
first_fails true b c v e f = rw (← e, f)
first_fails false b c v e f = f

first_holds : (a b c : Bool) → true ≡ b → (a && c) ≡ (a && b && c)
first_holds true b c e = rw (← e)
first_holds false b c e = refl

pub awake : (now : ℕ) (t : TaskControl) (v : Bool) → v ≡ in_state Sleeping t → v ≡ false → v ≡ is_due now t
unfolding is_due holds_task
awake now t v = first_fails t.occupied _ (leb t.wake_tick now) v

pub asleep : (now : ℕ) (t : TaskControl) → true ≡ in_state Sleeping t → (t.occupied && leb t.wake_tick now) ≡ is_due now t
unfolding is_due holds_task
asleep now t = first_holds t.occupied _ (leb t.wake_tick now)

pub without_limit : (now : ℕ) (t : TaskControl) (v : Bool) → v ≡ has_limit t → v ≡ false → v ≡ is_limit_due now t
unfolding is_limit_due
without_limit now t v = first_fails t.occupied _ (leb t.limit_tick now) v

pub with_limit_lem : (now : ℕ) (t : TaskControl) → true ≡ has_limit t → (t.occupied && leb t.limit_tick now) ≡ is_limit_due now t
unfolding is_limit_due
with_limit_lem now t = first_holds t.occupied _ (leb t.limit_tick now)

-- a tick wakes the task
abbrev wakes : ℕ → TaskControl → Bool
wakes now t = is_limit_due now t || is_due now t

-- the first i slots are walked, and `woke` says whether one of them was woken
pub record Walking (now : ℕ) (k₀ k : Kernel) (woke : Bool) (i : ℕ) : Type 0 where
  pub is : k ≡ walked now i k₀
  pub any : Upto (any_below (λ j. wakes now (slot k₀ j))) 16 woke i

pub walking_start : (now : ℕ) (k : Kernel) → Walking now k k false 0
unfolding walked
walking_start now k = record { is = refl; any = any_start _ _ }

pub walking_beside : {now : ℕ} {k₀ k : Kernel} {woke : Bool} {i : ℕ} → Walking now k₀ k woke i → Beside k₀ k
walking_beside {now} {k₀} {k} {woke} {i} w = rw w.is (walked_beside now i k₀)

pub walking_slot : {now : ℕ} {k₀ k : Kernel} {woke : Bool} {i : ℕ} → Walking now k₀ k woke i → slot k i ≡ slot k₀ i
walking_slot {now} {k₀} {k} {woke} {i} w = ap (λ (x : Kernel). slot x i) w.is ∙ walked_after now i k₀ i (omega arith)

pub walking_current : {now : ℕ} {k₀ k : Kernel} {woke : Bool} {i : ℕ} → Walking now k₀ k woke i → whole k₀ ≡ true → current k < 16
walking_current {k₀ = k₀} w h = omega (arith, ap current (walking_beside w).form, (is_whole k₀ h).current_slot)

pub walking_charge : {now : ℕ} {k₀ k : Kernel} {woke : Bool} {i : ℕ} → Walking now k₀ k woke i → whole k₀ ≡ true → charge k (current k) ≤ k₀.tick_count
walking_charge {k₀ = k₀} w h = let is = is_whole k₀ h in omega (arith, ap (λ (x : Kernel). charge x (current x)) (walking_beside w).form, is.charges, sum_at (charge k₀) 16 (current k₀) is.current_slot)

-- the object of a limit that is due
pub walking_fits : {now : ℕ} {k₀ k : Kernel} {woke : Bool} {i : ℕ} → Walking now k₀ k woke i → whole k₀ ≡ true → i < 16 → is_limit_due now (slot k i) ≡ true → object_fits (slot k i).limit_object ≡ true
walking_fits {now} {k₀} {k} {woke} {i} w h l p = let o = due_occupied now (slot k i) p in rw (walking_slot w) ((is_whole k₀ h).limits i l (rw (← walking_slot w) o.0) (rw (← walking_slot w) o.1)).1

pub semaphore_fits : (o : LimitObject) (s : ℕ) → o ≡ AtSemaphore s → object_fits o ≡ true → s < 4
semaphore_fits o s e f = ltb-true _ _ (rw e at f)

pub event_fits : (o : LimitObject) (v : ℕ) → o ≡ AtEvent v → object_fits o ≡ true → v < 4
event_fits o v e f = ltb-true _ _ (rw e at f)

pub walking_semaphore : {now : ℕ} {k₀ k : Kernel} {woke : Bool} {i s : ℕ} → Walking now k₀ k woke i → whole k₀ ≡ true → i < 16 → true ≡ is_limit_due now (slot k i) → (slot k i).limit_object ≡ AtSemaphore s → s < 4
walking_semaphore w h l p e = semaphore_fits _ _ e (walking_fits w h l (sym p))

pub walking_event : {now : ℕ} {k₀ k : Kernel} {woke : Bool} {i v : ℕ} → Walking now k₀ k woke i → whole k₀ ≡ true → i < 16 → true ≡ is_limit_due now (slot k i) → (slot k i).limit_object ≡ AtEvent v → v < 4
walking_event w h l p e = event_fits _ _ e (walking_fits w h l (sym p))

-- the three ways of the match
pub at_none : (o : LimitObject) (a : TaskId) (k x : Kernel) → o ≡ NoLimit → x ≡ k → x ≡ unqueued o a k
at_none o a k x e f = rw e f

pub at_semaphore : (o : LimitObject) (a : TaskId) (k x : Kernel) (s n : ℕ) (q : WaitQueue) → o ≡ AtSemaphore s → n ≡ s → q ≡ removed (semaphore k n).waiters a → x ≡ with_semaphore n (record { count = (semaphore k n).count; waiters = q }) k → x ≡ unqueued o a k
at_semaphore o a k x s n q e h f g = rw (e, ← h, ← f) g

pub at_event : (o : LimitObject) (a : TaskId) (k x : Kernel) (v n : ℕ) (q : WaitQueue) → o ≡ AtEvent v → n ≡ v → q ≡ removed (event k n).waiters a → x ≡ with_event n (record { signaled = (event k n).signaled; waiters = q }) k → x ≡ unqueued o a k
at_event o a k x v n q e h f g = rw (e, ← h, ← f) g

walking_next : {now : ℕ} {k₀ k k' : Kernel} {woke : Bool} {i : ℕ} (b : Bool) → Walking now k₀ k woke i → i < 16 → k' ≡ visited now i k → b ≡ (woke || wakes now (slot k i)) → Walking now k₀ k' b (i + 1)
unfolding walked
walking_next {now} {k₀} {k} {k'} {woke} {i} b w h e f = record {
  is = rw add-one (e ∙ ap (λ (x : Kernel). visited now i x) w.is);
  any = rw f (upto_any _ _ _ _ _ w.any h (ap (wakes now) (walking_slot w)));
}

or_true : (b : Bool) → true ≡ (b || true)
or_true true = refl
or_true false = refl

or_false : (b : Bool) → b ≡ (b || false)
or_false true = refl
or_false false = refl

-- a limit that is due
pub walking_limit : {now : ℕ} {k₀ k k' : Kernel} {woke : Bool} {i : ℕ} → Walking now k₀ k woke i → i < 16 → is_limit_due now (slot k i) ≡ true → k' ≡ unqueued (slot k i).limit_object (slot k i).id k
    → Walking now k₀ (with_tasks (set k'.tasks i (expired (slot k i))) k') true (i + 1)
unfolding visited woken if◌then◌otherwise◌
walking_limit {now} {k₀} {k} {k'} {woke} {i} w h e u =
    let s : slot k' i ≡ slot k i = ap (λ (x : Kernel). slot x i) u ∙ ap (λ (l : List TaskControl). get_or l i blank_slot) (unqueued_tasks (slot k i).limit_object (slot k i).id k) in
    walking_next true w h (rw (e, ← u, s, e)) (rw e (or_true woke))

-- a sleeper that is due
pub walking_due : {now : ℕ} {k₀ k : Kernel} {woke : Bool} {i : ℕ} → Walking now k₀ k woke i → i < 16 → is_limit_due now (slot k i) ≡ false → is_due now (slot k i) ≡ true
    → Walking now k₀ (with_tasks (set k.tasks i (entered Ready (slot k i))) k) true (i + 1)
unfolding visited woken if◌then◌otherwise◌
walking_due {woke = woke} w h e d = walking_next true w h (rw (e, e, d)) (rw (e, d) (or_true woke))

-- any other slot is left as it is
pub walking_other : {now : ℕ} {k₀ k : Kernel} {woke : Bool} {i : ℕ} → Walking now k₀ k woke i → i < 16 → is_limit_due now (slot k i) ≡ false → is_due now (slot k i) ≡ false → Walking now k₀ k woke (i + 1)
unfolding visited woken if◌then◌otherwise◌
walking_other {k = k} {woke = woke} {i = i} w h e d = walking_next woke w h (rw (e, e, d, set-get_or k.tasks i blank_slot)) (rw (e, d) (or_false woke))

pub walking_done : {now : ℕ} {k₀ k : Kernel} {woke : Bool} {i : ℕ} → Walking now k₀ k woke i → 16 ≤ i → (k ≡ walked now 16 k₀) × (woke ≡ any_below (λ j. wakes now (slot k₀ j)) 16)
walking_done {now} {k₀} {k} {woke} {i} w h =
    let q : i ≡ 16 = omega (arith, w.any.0) in
    (w.is ∙ ap (λ (n : ℕ). walked now n k₀) q, any_done _ _ _ _ w.any h)

-- ---- after the loop: k is the kernel before the tick, kʷ that once it is walked

abbrev counted : Kernel → Kernel
counted k = with_tick_count (k.tick_count + 1) k

abbrev pub charged : Kernel → Kernel
charged k = with_charges (set k.charges (current k) (charge k (current k) + 1)) k

module _ (k kʷ : Kernel) (woke : Bool) (is : kʷ ≡ walked (k.tick_count + 1) 16 k) (due : woke ≡ any_below (λ j. wakes (k.tick_count + 1) (slot k j)) 16) where
  clock_is : kʷ.tick_count ≡ k.tick_count
  clock_is = rw is (ap (λ (x : Kernel). x.tick_count) (walked_beside (k.tick_count + 1) 16 k).form)

  abbrev pub ticking : Kernel
  ticking = with_tick_count (k.tick_count + 1) kʷ

  off_is : kʷ.started ≡ false → ticking ≡ advanced k
  unfolding advanced clocked if◌then◌otherwise◌
  off_is off = rw (← is, off, clock_is)

  on_is : kʷ.started ≡ true → charged ticking ≡ advanced k
  unfolding advanced clocked if◌then◌otherwise◌
  on_is on = rw (← is, on, clock_is)

  pub not_started : kʷ.started ≡ false → accepted (YesNo false) ticking ≡ accepted (value k tick) (effect k tick)
  unfolding value effect Scheduler.tick wants_switch wants sliced if◌then◌otherwise◌
  not_started off = rw (← off_is off, off)

  pub not_running : kʷ.started ≡ true → in_state Running (current_task (charged ticking)) ≡ false → accepted (YesNo true) (charged ticking) ≡ accepted (value k tick) (effect k tick)
  unfolding value effect Scheduler.tick wants_switch wants sliced if◌then◌otherwise◌
  not_running on rest = rw (← on_is on, on, rest)

  -- what is left of the slice is its last tick
  last : (n : ℕ) → leb n 1 ≡ eqb (n - 1) 0
  last n =
      elim (dec_lt 1 n) [
        | yes h ↦ rw (lt-leb n 1 h, ne_eqb (n - 1) 0 (λ z. omega (arith, z, h))) refl
        | no h ↦ rw (le-leb n 1 (omega (arith, h)), eq-eqb (n - 1) 0 (omega (arith, h))) refl
      ]

  pub running : kʷ.started ≡ true → in_state Running (current_task (charged ticking)) ≡ true
      → accepted (YesNo (woke || leb (current_task (charged ticking)).remaining_slice 1)) (at (current (charged ticking)) spent (charged ticking)) ≡ accepted (value k tick) (effect k tick)
  unfolding value effect Scheduler.tick wants_switch wants sliced if◌then◌otherwise◌
  running on runs = rw (last (current_task (charged ticking)).remaining_slice, ← on_is on, on, runs, due)

-- ---- a kernel that is whole, at the last tick

pub at_last_tick : (k : Kernel) (a : Answer) → 0 ≡ first_of (not_whole k ∷ []) → k.tick_count ≡ 2 ^ 64 - 1 → a ≡ refused 18 k → a ≡ step k tick
unfolding number
at_last_tick k a w e = number_refused k tick 18 a (passed_early (not_whole k ∷ []) (checks k tick) 18 refl w (taken _ _ _ _ (eq-eqb _ _ e) refl)) (λ z. omega (arith, z))
