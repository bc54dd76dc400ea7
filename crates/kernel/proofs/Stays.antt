-- A change leaves a whole kernel whole: an add where the kernel has its sixteen slots, a change of a mutex's owner where the owned counts fit afterwards.
use Prim.Native.Nat.{ℕ, ◌+◌, ◌≤◌, ◌<◌}
use native.Mathlib.Omega.{arith}
use mathlib.Core.Path.{◌≡◌, refl, sym, ◌∙◌}
use mathlib.Core.Bool.{true, false, false≢true}
use lib.Dec.{lit≤}
use lib.ListN.{length, get_or, set}
use lib.Seq.{get_or-set_same, get_or-set_other}
use borrow.Author.Tests.{leb-false}
use Rattle.base.specs.Below.{count_below, sum_below}
use Rattle.base.proofs.Choices.{and_left, either}
use Rattle.base.proofs.Loops.{count_same, count_le, count_one, set_each, set_default, sum_but, sum_clear}
use Rattle.kernel.specs.Types.{TaskId, Option, Running, Blocked, LimitObject, TaskControl, WaitQueue, Kernel}
use Rattle.kernel.specs.Update.{with_limit, with_tasks, with_charges, with_retired_charge, with_task_count, with_next_id}
use Rattle.kernel.specs.Control.{in_state, holds_task, object_fits, entered, blank_slot, new_task}
use Rattle.kernel.specs.WaitQueue.{contains, is_full, pushed, enqueued, without, is_empty, popped, removed}
use Rattle.kernel.specs.Kernel.{slot, charge, charge_sum, current, current_task, is_occupied, mutex, semaphore, event}
use Rattle.kernel.specs.Scheduler.{lowest_empty, next_task, next_id, context_saved, reloaded}
use Rattle.kernel.specs.Scheduler
use Rattle.kernel.specs.Calls.{Kind, adding, reaping, starting, switching, ticking, owning, plain}
use Rattle.kernel.proofs.Whole.{LimitFits, RegionFits, Whole}
use Rattle.kernel.proofs.Changes.{TaskChange, same, state, asleep, ended, waiter, answered, passed, less, full, saved, QueueChange, still, joined, left, out, charged, Change, task, begins, clock, permits, flag, handoff, owner, added, reaped, begun, turned, raised, lowered, owner_each, first_empty}

-- ---- a task, a queue

-- a task keeps what a whole kernel asks of it
record SameTask (t u : TaskControl) : Type 0 where
  occupied : u.occupied ≡ t.occupied
  stack : u.stack ≡ t.stack
  owned : u.occupied ≡ true → t.owned_mutex_count ≤ 4 → u.owned_mutex_count ≤ 4
  limits : u.occupied ≡ true → LimitFits t → LimitFits u

task_same : {g : Kind} {t u : TaskControl} → TaskChange g t u → SameTask t u
unfolding context_saved
task_same same = record { occupied = refl; stack = refl; owned = λ _ h. h; limits = λ _ h. h }
task_same (state s n) = record { occupied = refl; stack = refl; owned = λ _ h. h; limits = λ _ _ l. absurd (false≢true l) }
task_same (asleep n) = record { occupied = refl; stack = refl; owned = λ _ h. h; limits = λ _ _ l. absurd (false≢true l) }
task_same ended = record { occupied = refl; stack = refl; owned = λ _ h. h; limits = λ _ _ l. absurd (false≢true l) }
task_same (waiter a) = record { occupied = refl; stack = refl; owned = λ _ h. h; limits = λ _ h. h }
task_same (answered r) = record { occupied = refl; stack = refl; owned = λ _ h. h; limits = λ _ h. h }
task_same passed = record { occupied = refl; stack = refl; owned = λ _ h. h; limits = λ _ _ l. absurd (false≢true l) }
task_same (less n h) = record { occupied = refl; stack = refl; owned = λ _ h. h; limits = λ _ h. h }
task_same full = record { occupied = refl; stack = refl; owned = λ _ h. h; limits = λ _ h. h }
task_same (saved {t = t} sp) = either (SameTask t) (in_state Running t) (λ _. record { occupied = refl; stack = refl; owned = λ _ h. h; limits = λ _ _ l. absurd (false≢true l) }) (λ _. record { occupied = refl; stack = refl; owned = λ _ h. h; limits = λ _ h. h })

limit_same : (t : TaskControl) (o : LimitObject) (n : ℕ) → (t.occupied ≡ true → in_state Blocked t ≡ true) → object_fits o ≡ true → SameTask t (with_limit o n t)
limit_same t o n b f = record { occupied = refl; stack = refl; owned = λ _ h. h; limits = λ q _ _. (b q, f) }

run_same : {t u : TaskControl} → SameTask t u → SameTask t (entered Running u)
run_same s = record { occupied = s.occupied; stack = s.stack; owned = s.owned; limits = λ _ _ l. absurd (false≢true l) }

reload_same : (t : TaskControl) → SameTask t (reloaded t)
unfolding reloaded
reload_same t = either (SameTask t) _ (λ _. task_same full) (λ _. task_same {g = plain} same)

queue_fits : {P : TaskId → Type 0} {a : TaskId} {q r : WaitQueue} → QueueChange P a q r → q.len ≤ 8 → r.len ≤ 8
unfolding enqueued pushed popped removed without
queue_fits still h = h
queue_fits {a = a} (joined {q = q}) h = either (λ (x : WaitQueue). x.len ≤ 8) (contains q a) (λ _. h) (λ _. either (λ (x : WaitQueue). x.len ≤ 8) (is_full q) (λ _. h) (λ e. omega (arith, leb-false 8 q.len e)))
queue_fits (out {q = q} b p) h = either (λ (x : WaitQueue). x.len ≤ 8) (contains q b) (λ _. omega arith) (λ _. h)
queue_fits (left {r = r} p c) h = let g = queue_fits c h in either (λ (x : WaitQueue). x.len ≤ 8) (is_empty r) (λ _. g) (λ _. omega arith)

-- ---- a kernel whose tasks stay

stays : {k k' : Kernel} → Whole k → k'.arena_words ≡ k.arena_words → k'.hz ≡ k.hz → k'.task_count ≡ k.task_count → ((j : ℕ) → SameTask (slot k j) (slot k' j))
    → current k' < 16 → (slot k (current k')).occupied ≡ true
    → ((o : ℕ) → o < 4 → (mutex k' o).waiters.len ≤ 8) → ((o : ℕ) → o < 4 → (semaphore k' o).waiters.len ≤ 8) → ((o : ℕ) → o < 4 → (event k' o).waiters.len ≤ 8)
    → charge_sum k' ≤ k'.tick_count → Whole k'
stays {k} {k'} w arena hz count s slot_lt running m p v charges = record {
  arena = rw arena w.arena;
  clock = rw hz w.clock;
  current_slot = slot_lt;
  idle = (s 0).occupied ∙ w.idle;
  running = (s (current k')).occupied ∙ running;
  region = λ i h o. rw (arena, (s i).stack) (w.region i h (sym (s i).occupied ∙ o));
  owned = λ i h o. (s i).owned o (w.owned i h (sym (s i).occupied ∙ o));
  limits = λ i h o. (s i).limits o (w.limits i h (sym (s i).occupied ∙ o));
  mutex_queue = m;
  semaphore_queue = p;
  event_queue = v;
  charges = charges;
  count = count ∙ (w.count ∙ count_same _ _ 16 (λ i _. sym (s i).occupied));
  tasks = rw count w.tasks;
}

unmoved : (k : Kernel) (j : ℕ) → SameTask (slot k j) (slot k j)
unmoved k j = task_same {g = plain} same

one_stays : (k : Kernel) (i : ℕ) (u : TaskControl) → SameTask (slot k i) u → (j : ℕ) → SameTask (slot k j) (get_or (set k.tasks i u) j blank_slot)
one_stays k i u s = set_each (λ j t. SameTask (slot k j) t) blank_slot k.tasks i u s (unmoved k)

-- one charge goes up by one at most, as tick_count does
charges_stay : (k : Kernel) → Whole k → sum_below (λ i. get_or (charged k) i 0) 16 + k.retired_charge ≤ k.tick_count + 1
charges_stay k w =
    let c = current k in
    let n = charge k c + 1 in
    let up : (j : ℕ) → get_or (set k.charges c n) j 0 ≤ charge k j + 1 = set_each (λ j m. m ≤ charge k j + 1) 0 k.charges c n (omega arith) (λ j. omega arith) in
    either (λ l. sum_below (λ i. get_or l i 0) 16 + k.retired_charge ≤ k.tick_count + 1) k.started
    (λ _. omega (arith, w.charges, up c, sum_but (charge k) (λ i. get_or (set k.charges c n) i 0) 16 c w.current_slot (λ i e. get_or-set_other k.charges c i n 0 e)))
    (λ _. omega (arith, w.charges))

-- ---- add and reap

-- one slot set, not idle's and not current, and its charge 0
slot_stays : {k : Kernel} (n next sum x : ℕ) (t : TaskControl) → Whole k → (0 ≡ x → ⊥) → (current k ≡ x → ⊥) → (t.occupied ≡ true → RegionFits k.arena_words t.stack) → (t.occupied ≡ true → t.owned_mutex_count ≤ 4) → LimitFits t
    → n ≡ count_below (λ i. (get_or (set k.tasks x t) i blank_slot).occupied) 16 → sum_below (λ i. get_or (set k.charges x 0) i 0) 16 + sum ≤ k.tick_count
    → Whole (with_task_count n (with_next_id next (with_tasks (set k.tasks x t) (with_retired_charge sum (with_charges (set k.charges x 0) k)))))
slot_stays {k} n next sum x t w idle running region owned limit count charges = record {
  arena = w.arena;
  clock = w.clock;
  current_slot = w.current_slot;
  idle = rw (get_or-set_other k.tasks x 0 t blank_slot idle) w.idle;
  running = rw (get_or-set_other k.tasks x (current k) t blank_slot running) w.running;
  region = set_each (λ j u. j < 16 → u.occupied ≡ true → RegionFits k.arena_words u.stack) blank_slot k.tasks x t (λ _. region) w.region;
  owned = set_each (λ j u. j < 16 → u.occupied ≡ true → u.owned_mutex_count ≤ 4) blank_slot k.tasks x t (λ _. owned) w.owned;
  limits = set_each (λ j u. j < 16 → u.occupied ≡ true → LimitFits u) blank_slot k.tasks x t (λ _ _. limit) w.limits;
  mutex_queue = w.mutex_queue;
  semaphore_queue = w.semaphore_queue;
  event_queue = w.event_queue;
  charges = charges;
  count = count;
  tasks = rw count (count_le _ 16);
}

-- an occupied slot is no empty one
apart : (k : Kernel) (j x : ℕ) → (slot k j).occupied ≡ true → (slot k x).occupied ≡ false → j ≡ x → ⊥
apart k j x on off e = false≢true (sym off ∙ rw (← e) on)

-- ---- each change

abbrev pub OwnedFits : Kernel → Type 0
OwnedFits k = (i : ℕ) → (slot k i).occupied ≡ true → (slot k i).owned_mutex_count ≤ 4

-- what is asked besides: an add, of a kernel with its sixteen slots, as every kernel of the machine has; a change of owners, of counts that fit after it
abbrev pub Besides : Kind → Kernel → Kernel → Type 0
Besides adding k k' = length k.tasks ≡ 16
Besides reaping k k' = Unit {0}
Besides starting k k' = Unit {0}
Besides switching k k' = Unit {0}
Besides ticking k k' = Unit {0}
Besides owning k k' = OwnedFits k'
Besides plain k k' = Unit {0}

moved_stays : (from to : Option TaskId) (k : Kernel) → ((j : ℕ) → ((slot (raised to (lowered from k)) j).occupied ≡ (slot k j).occupied) × ((slot (raised to (lowered from k)) j).stack ≡ (slot k j).stack) × (LimitFits (slot k j) → LimitFits (slot (raised to (lowered from k)) j)))
moved_stays from to k = owner_each (λ y. (j : ℕ) → ((slot y j).occupied ≡ (slot k j).occupied) × ((slot y j).stack ≡ (slot k j).stack) × (LimitFits (slot k j) → LimitFits (slot y j)))
    (λ y i n _ e. set_each (λ j t. (t.occupied ≡ (slot k j).occupied) × (t.stack ≡ (slot k j).stack) × (LimitFits (slot k j) → LimitFits t)) blank_slot y.tasks i _ (e i) e) from to k (λ _. (refl, refl, λ h. h))

pub change_stays : (g : Kind) (k k' : Kernel) → Change g k k' → Besides g k k' → Whole k → Whole k'
unfolding Scheduler.add holds_task
change_stays g k k' (task i u h c) b w = stays w refl refl refl (one_stays k i u (task_same c)) w.current_slot w.running w.mutex_queue w.semaphore_queue w.event_queue w.charges
change_stays g k k' (begins o n h b f p q) bs w = stays w refl refl refl (one_stays k (current k) _ (limit_same (current_task k) o _ b f)) w.current_slot w.running w.mutex_queue w.semaphore_queue w.event_queue w.charges
change_stays g k k' (clock l a) b w = stays w refl refl refl (unmoved k) w.current_slot w.running w.mutex_queue w.semaphore_queue w.event_queue (charges_stay k w)
change_stays g k k' (permits s n q h c) b w = stays w refl refl refl (unmoved k) w.current_slot w.running w.mutex_queue (set_each (λ o y. o < 4 → y.waiters.len ≤ 8) _ k.semaphores s _ (λ l. queue_fits c (w.semaphore_queue s l)) w.semaphore_queue) w.event_queue w.charges
change_stays g k k' (flag v n q h c) b w = stays w refl refl refl (unmoved k) w.current_slot w.running w.mutex_queue w.semaphore_queue (set_each (λ o y. o < 4 → y.waiters.len ≤ 8) _ k.events v _ (λ l. queue_fits c (w.event_queue v l)) w.event_queue) w.charges
change_stays g k k' (handoff m h q l c) b w = stays w refl refl refl (unmoved k) w.current_slot w.running (set_each (λ o y. o < 4 → y.waiters.len ≤ 8) _ k.mutexes m _ (λ l. queue_fits c (w.mutex_queue m l)) w.mutex_queue) w.semaphore_queue w.event_queue w.charges
change_stays g k k' (owner m x from to h q l d c) b w =
    let s = moved_stays from to k in
    stays w refl refl refl (λ j. record { occupied = (s j).0; stack = (s j).1; owned = λ o _. b j o; limits = λ _. (s j).2 }) w.current_slot w.running (set_each (λ o y. o < 4 → y.waiters.len ≤ 8) _ k.mutexes m _ (λ l. queue_fits c (w.mutex_queue m l)) w.mutex_queue) w.semaphore_queue w.event_queue w.charges
change_stays g k k' (added p r free region) b w =
    let x = lowest_empty k in
    let t = new_task (next_id k) p r in
    let empty = first_empty k free in
    let more = count_one (is_occupied k) (λ i. (get_or (set k.tasks x t) i blank_slot).occupied) 16 x free empty (rw (get_or-set_same k.tasks x t blank_slot (omega (arith, free)))) (λ i n. rw (get_or-set_other k.tasks x i t blank_slot n)) in
    slot_stays _ _ k.retired_charge x t w (apart k 0 x w.idle empty) (apart k (current k) x w.running empty) (λ _. region) (λ _. lit≤ tt) (λ l. absurd (false≢true l)) (omega (arith, w.count, more)) (omega (arith, w.charges, sum_clear k.charges 16 x free))
change_stays g k k' (reaped x h idle running on) b w =
    let less = count_one (λ i. (get_or (set k.tasks x blank_slot) i blank_slot).occupied) (is_occupied k) 16 x h (rw (set_default blank_slot k.tasks x)) (and_left _ _ on) (λ i n. rw (get_or-set_other k.tasks x i blank_slot blank_slot n)) in
    slot_stays _ k.next_id _ x blank_slot w idle running (λ o. absurd (false≢true o)) (λ _. lit≤ tt) (λ l. absurd (false≢true l)) (omega (arith, w.count, less)) (omega (arith, w.charges, sum_clear k.charges 16 x h))
change_stays g k k' (begun x h o) b w = stays w refl refl refl (one_stays k (next_task k) _ (run_same (task_same {g = plain} same))) h o w.mutex_queue w.semaphore_queue w.event_queue w.charges
change_stays g k k' (turned x h o) b w = stays w refl refl refl (one_stays k (next_task k) _ (run_same (reload_same (slot k (next_task k))))) h o w.mutex_queue w.semaphore_queue w.event_queue w.charges
