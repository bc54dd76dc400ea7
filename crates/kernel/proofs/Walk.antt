-- The walk of a tick: what stands beside tasks, semaphores and events stays, and each slot is woken once, by itself.
use Prim.Native.Nat.{ℕ, zero, suc, ◌≤◌, ◌<◌}
use native.Mathlib.Omega.{arith}
use native.Mathlib.Decide.{dec_lt}
use mathlib.Core.Path.{◌≡◌, refl, ap, ◌∙◌}
use mathlib.Core.List.{List}
use lib.ListN.{length, get_or, set, length-set, get_or-eq_default}
use lib.Seq.{get_or-set_same, get_or-set_other}
use Rattle.base.specs.Choice.{if◌then◌otherwise◌}
use Rattle.base.proofs.Choices.{either}
use Rattle.kernel.specs.Types.{TaskId, LimitObject, NoLimit, AtSemaphore, AtEvent, TaskControl, Kernel}
use Rattle.kernel.specs.Update.{with_tasks, with_semaphores, with_events}
use Rattle.kernel.specs.Control.{holds_task, blank_slot}
use Rattle.kernel.specs.Kernel.{slot}
use Rattle.kernel.specs.Scheduler.{is_due, is_limit_due, woken, unqueued, visited, walked}

-- past the table's end a slot stays blank
pub blank_woken : (now : ℕ) → woken now blank_slot ≡ blank_slot
unfolding woken is_limit_due is_due holds_task if◌then◌otherwise◌
blank_woken now = refl

-- x is k but for its tasks, semaphores and events, and has as many of each
pub record Beside (k x : Kernel) : Type 0 where
  pub form : x ≡ with_tasks x.tasks (with_semaphores x.semaphores (with_events x.events k))
  pub tasks : length x.tasks ≡ length k.tasks
  pub semaphores : length x.semaphores ≡ length k.semaphores
  pub events : length x.events ≡ length k.events

unqueued_beside : {k x : Kernel} (o : LimitObject) (a : TaskId) → Beside k x → Beside k (unqueued o a x)
unqueued_beside NoLimit a b = b
unqueued_beside {k} {x} (AtSemaphore s) a b = record { form = ap (λ (y : Kernel). unqueued (AtSemaphore s) a y) b.form; tasks = b.tasks; semaphores = length-set x.semaphores s _ ∙ b.semaphores; events = b.events }
unqueued_beside {k} {x} (AtEvent e) a b = record { form = ap (λ (y : Kernel). unqueued (AtEvent e) a y) b.form; tasks = b.tasks; semaphores = b.semaphores; events = length-set x.events e _ ∙ b.events }

set_beside : {k x : Kernel} (i : ℕ) (t : TaskControl) → Beside k x → Beside k (with_tasks (set x.tasks i t) x)
set_beside {k} {x} i t b = record { form = ap (λ (y : Kernel). with_tasks (set x.tasks i t) y) b.form; tasks = length-set x.tasks i t ∙ b.tasks; semaphores = b.semaphores; events = b.events }

visited_beside : (now i : ℕ) {k x : Kernel} → Beside k x → Beside k (visited now i x)
unfolding visited
visited_beside now i {k} {x} b = set_beside i _ (either (Beside k) (is_limit_due now (slot x i)) (λ _. unqueued_beside (slot x i).limit_object (slot x i).id b) (λ _. b))

pub walked_beside : (now n : ℕ) (k : Kernel) → Beside k (walked now n k)
unfolding walked
walked_beside now zero k = record { form = refl; tasks = refl; semaphores = refl; events = refl }
walked_beside now (suc n) k = visited_beside now n (walked_beside now n k)

-- ---- slot by slot

pub unqueued_tasks : (o : LimitObject) (a : TaskId) (x : Kernel) → (unqueued o a x).tasks ≡ x.tasks
unqueued_tasks NoLimit a x = refl
unqueued_tasks (AtSemaphore s) a x = refl
unqueued_tasks (AtEvent e) a x = refl

visited_tasks : (now i : ℕ) (x : Kernel) → (visited now i x).tasks ≡ set x.tasks i (woken now (slot x i))
unfolding visited
visited_tasks now i x =
    ap (λ (l : List TaskControl). set l i (woken now (get_or l i blank_slot)))
    (either (λ (y : Kernel). y.tasks ≡ x.tasks) (is_limit_due now (slot x i)) (λ _. unqueued_tasks (slot x i).limit_object (slot x i).id x) (λ _. refl))

woken_here : (now : ℕ) (l : List TaskControl) (i : ℕ) → get_or (set l i (woken now (get_or l i blank_slot))) i blank_slot ≡ woken now (get_or l i blank_slot)
woken_here now l i =
    elim (dec_lt i (length l)) [
      | yes h ↦ get_or-set_same l i _ blank_slot h
      | no h ↦ rw (get_or-eq_default l blank_slot {n = i} (omega arith), get_or-eq_default (set l i (woken now blank_slot)) blank_slot {n = i} (omega (arith, length-set l i (woken now blank_slot))), blank_woken now)
    ]

pub walked_after : (now n : ℕ) (k : Kernel) (j : ℕ) → n ≤ j → slot (walked now n k) j ≡ slot k j
unfolding walked
walked_after now zero k j h = refl
walked_after now (suc n) k j h = rw (visited_tasks now n (walked now n k), get_or-set_other (walked now n k).tasks n j (woken now (slot (walked now n k) n)) blank_slot (λ e. omega arith)) (walked_after now n k j (omega arith))

pub walked_before : (now n : ℕ) (k : Kernel) (j : ℕ) → j < n → slot (walked now n k) j ≡ woken now (slot k j)
unfolding walked
walked_before now zero k j h = absurd (omega arith)
walked_before now (suc n) k j h =
    elim (dec_lt j n) [
      | yes q ↦ rw (visited_tasks now n (walked now n k), get_or-set_other (walked now n k).tasks n j (woken now (slot (walked now n k) n)) blank_slot (λ e. omega arith)) (walked_before now n k j q)
      | no q ↦ let e : j ≡ n = omega arith in rw (e, visited_tasks now n (walked now n k), woken_here now (walked now n k).tasks n) (ap (woken now) (walked_after now n k n (omega arith)))
    ]
