-- Each present task's owned count is the number of mutexes that name it as owner: so on every fresh kernel, and kept by every change. It is at most four
-- then, so that every kernel from fresh is whole, after lock, try-lock and unlock too.
use Prim.Native.Nat.{ℕ, zero, suc, ◌+◌, ◌-◌, ◌≤◌, ◌<◌}
use native.Mathlib.Decide.{ℕ_discrete, dec_lt}
use native.Mathlib.Omega.{arith}
use mathlib.Core.Path.{◌≡◌, refl, sym, ap, subst, ◌∙◌}
use mathlib.Core.Bool.{Bool, true, false, false≢true}
use mathlib.Core.List.{List, []}
use lib.Dec.{eqb}
use lib.ListN.{length, get_or, set, length-set, replicate, get_or-eq_default}
use lib.Seq.{get_or-set_same, get_or-set_other}
use borrow.Author.Tests.{ltb-true, ltb-false, eqb-true, eq-eqb, ne_eqb}
use Rattle.base.specs.Choice.{if◌then◌otherwise◌}
use Rattle.base.specs.Below.{count_below}
use Rattle.base.proofs.Choices.{either, and_left, and_right}
use Rattle.base.proofs.Loops.{count_same, count_le, count_one, count_some, sum_none, lowest_is, lowest_at, set_each, tabulate_at, tabulate_length}
use Rattle.kernel.specs.Types.{Option, None, Some, TaskId, Running, TaskControl, WaitQueue, Mutex, Semaphore, Event, Kernel}
use Rattle.kernel.specs.Update.{with_owned, with_tasks, with_charges, with_task_count, with_next_id}
use Rattle.kernel.specs.Control.{names, in_state, blank_slot, new_task, entered}
use Rattle.kernel.specs.WaitQueue.{zero_id, place, position, contains, is_full, pushed, enqueued, place_without, without, is_empty, head, popped, removed}
use Rattle.kernel.specs.Kernel.{slot, at, current, current_task_id, holds_id, slot_of, is_present, at_id, mutex, with_mutex, new_mutex, new_semaphore, new_event, fresh_kernel}
use Rattle.kernel.specs.Scheduler.{next_task, lowest_empty, next_id, context_saved, reloaded}
use Rattle.kernel.specs.Scheduler
use Rattle.kernel.specs.Calls.{init_number, Kind, adding, reaping, starting, switching, ticking, owning, plain}
use Rattle.kernel.proofs.Changes.{TaskChange, same, state, asleep, ended, waiter, answered, passed, less, full, saved, QueueChange, still, joined, left, out, raised, lowered, moved, Hand, taken, freed, handed, Change, task, begins, clock, permits, flag, handoff, owner, added, reaped, begun, turned, owner_each, first_empty}
use Rattle.kernel.proofs.Whole.{Whole}
use Rattle.kernel.proofs.Accepted.{init_accepted}
use Rattle.kernel.proofs.Stays.{OwnedFits, Besides, change_stays}

-- ---- the invariant

abbrev bit : Bool → ℕ
bit true = 1
bit false = 0

abbrev no_mutex : Mutex
no_mutex = record { locked = false; owner = None; handoff_to = None; waiters = record { ids = []; len = 0 } }

-- how many mutexes name id a as owner
abbrev pub owned_by : Kernel → TaskId → ℕ
owned_by k a = count_below (λ m. names (mutex k m).owner a) 4

abbrev Known : ℕ → Option TaskId → Type 0
Known n None = Unit {0}
Known n (Some a) = a.0 < n

abbrev Occupied : Kernel → ℕ → Type 0
Occupied k i = (slot k i).occupied ≡ true

pub record Owned (k : Kernel) : Type 0 where
  pub slots : length k.tasks ≡ 16
  pub mutexes : length k.mutexes ≡ 4
  pub some : 0 < k.next_id
  pub running : Occupied k (current k)
  pub ids : (i : ℕ) → Occupied k i → (slot k i).id.0 < k.next_id
  pub apart : (i j : ℕ) → Occupied k i → Occupied k j → (slot k i).id.0 ≡ (slot k j).id.0 → i ≡ j
  pub owners : (m : ℕ) → Known k.next_id (mutex k m).owner
  pub queued : (m j : ℕ) → (place (mutex k m).waiters j).0 < k.next_id
  pub free : (m : ℕ) → (mutex k m).locked ≡ false → (mutex k m).owner ≡ None
  pub counts : (i : ℕ) → Occupied k i → (slot k i).owned_mutex_count ≡ owned_by k (slot k i).id

-- ---- tasks that stay

record Same (t u : TaskControl) : Type 0 where
  occupied : u.occupied ≡ t.occupied
  id : u.id ≡ t.id
  owned : u.owned_mutex_count ≡ t.owned_mutex_count

task_same : {g : Kind} {t u : TaskControl} → TaskChange g t u → Same t u
unfolding context_saved
task_same same = record { occupied = refl; id = refl; owned = refl }
task_same (state s n) = record { occupied = refl; id = refl; owned = refl }
task_same (asleep n) = record { occupied = refl; id = refl; owned = refl }
task_same ended = record { occupied = refl; id = refl; owned = refl }
task_same (waiter a) = record { occupied = refl; id = refl; owned = refl }
task_same (answered r) = record { occupied = refl; id = refl; owned = refl }
task_same passed = record { occupied = refl; id = refl; owned = refl }
task_same (less n h) = record { occupied = refl; id = refl; owned = refl }
task_same full = record { occupied = refl; id = refl; owned = refl }
task_same (saved {t = t} sp) = either (Same t) (in_state Running t) (λ _. record { occupied = refl; id = refl; owned = refl }) (λ _. record { occupied = refl; id = refl; owned = refl })

unmoved : (k : Kernel) (j : ℕ) → Same (slot k j) (slot k j)
unmoved k j = record { occupied = refl; id = refl; owned = refl }

-- the mutexes as before, and so each task that is there
stays : {k k' : Kernel} → Owned k → length k'.tasks ≡ length k.tasks → k'.next_id ≡ k.next_id → k'.mutexes ≡ k.mutexes → Occupied k' (current k') → ((j : ℕ) → Occupied k' j → Same (slot k j) (slot k' j)) → Owned k'
stays {k} {k'} w l n m r s = record {
  slots = l ∙ w.slots;
  mutexes = rw m w.mutexes;
  some = rw n w.some;
  running = r;
  ids = λ i o. rw ((s i o).id, n) (w.ids i (was i o));
  apart = λ i j o p e. w.apart i j (was i o) (was j p) (ap (λ (a : TaskId). a.0) (sym (s i o).id) ∙ e ∙ ap (λ (a : TaskId). a.0) (s j p).id);
  owners = rw (m, n) w.owners;
  queued = rw (m, n) w.queued;
  free = rw m w.free;
  counts = λ i o. rw ((s i o).owned, (s i o).id, m) (w.counts i (was i o));
}
  where
    was : (i : ℕ) → Occupied k' i → Occupied k i
    was i o = sym (s i o).occupied ∙ o

reload_same : (t : TaskControl) → Same t (reloaded t)
unfolding reloaded
reload_same t = either (Same t) _ (λ _. record { occupied = refl; id = refl; owned = refl }) (λ _. record { occupied = refl; id = refl; owned = refl })

-- ---- queues

without_known : (n : ℕ) (q : WaitQueue) (i : ℕ) → 0 < n → ((j : ℕ) → (place q j).0 < n) → (j : ℕ) → (place (without q i) j).0 < n
unfolding without place_without
without_known n q i z h j = go (dec_lt j 8)
  where
    ok : TaskId → Type 0
    ok a = a.0 < n

    go : Dec (j < 8) → ok (place (without q i) j)
    go (yes l) = rw (tabulate_at (place_without q i) zero_id 8 j l) (either ok _ (λ _. z) (λ _. either ok _ (λ _. h j) (λ _. h (j + 1))))
    go (no l) = rw (get_or-eq_default (without q i).ids zero_id {n = j} (omega (arith, tabulate_length (place_without q i) 8, l))) z

queue_known : {P : TaskId → Type 0} {a : TaskId} {q r : WaitQueue} (n : ℕ) → 0 < n → a.0 < n → QueueChange P a q r → ((j : ℕ) → (place q j).0 < n) → (j : ℕ) → (place r j).0 < n
unfolding enqueued pushed popped removed
queue_known n z l still h = h
queue_known {a = a} n z l (joined {q = q}) h = either ok (contains q a) (λ _. h) (λ _. either ok (is_full q) (λ _. h) (λ _. set_each (λ j (b : TaskId). b.0 < n) zero_id q.ids q.len a l h))
  where
    ok : WaitQueue → Type 0
    ok x = (j : ℕ) → (place x j).0 < n
queue_known n z l (out {q = q} b p) h = either (λ x. (j : ℕ) → (place x j).0 < n) (contains q b) (λ _. without_known n q (position q b) z h) (λ _. h)
queue_known n z l (left {r = r} p c) h = let g = queue_known n z l c h in either (λ x. (j : ℕ) → (place x j).0 < n) (is_empty r) (λ _. g) (λ _. without_known n r 0 z g)

-- ---- counting

count_move : (p q : ℕ → Bool) (n x : ℕ) → x < n → ((i : ℕ) → (i ≡ x → ⊥) → q i ≡ p i) → count_below q n + bit (p x) ≡ count_below p n + bit (q x)
count_move p q n x l o = go (p x) (q x) refl refl
  where
    every : p x ≡ q x → (i : ℕ) → Dec (i ≡ x) → q i ≡ p i
    every e i (yes r) = rw r (sym e)
    every e i (no r) = o i r

    go : (a b : Bool) → p x ≡ a → q x ≡ b → count_below q n + bit a ≡ count_below p n + bit b
    go true true e f = omega (arith, count_same q p n (λ i _. every (e ∙ sym f) i (ℕ_discrete i x)))
    go true false e f = omega (arith, count_one q p n x l f e (λ i r. sym (o i r)))
    go false true e f = omega (arith, count_one p q n x l e f o)
    go false false e f = omega (arith, count_same q p n (λ i _. every (e ∙ sym f) i (ℕ_discrete i x)))

bit_le : (p : ℕ → Bool) (n x : ℕ) → x < n → bit (p x) ≤ count_below p n
bit_le p n x l = go (p x) refl
  where
    go : (b : Bool) → p x ≡ b → bit b ≤ count_below p n
    go true e = count_some p n x l e
    go false e = omega arith

same_names : (o : Option TaskId) (c a : TaskId) → names o c ≡ true → names o a ≡ names (Some c) a
same_names None c a e = absurd (false≢true e)
same_names (Some b) c a e = ap (λ (n : ℕ). eqb n a.0) (eqb-true b.0 c.0 e)

-- ---- an owned count up or down

inside : (k : Kernel) → length k.tasks ≡ 16 → (i : ℕ) → Occupied k i → i < 16
inside k l i o = go (dec_lt i 16)
  where
    go : Dec (i < 16) → i < 16
    go (yes h) = h
    go (no h) = absurd (false≢true (sym (ap (λ (t : TaskControl). t.occupied) (get_or-eq_default k.tasks blank_slot {n = i} (omega (arith, l, h)))) ∙ o))

abbrev choose : Bool → (ℕ → ℕ) → ℕ → ℕ
choose true f n = f n
choose false f n = n

module _ (k : Kernel) (slots : length k.tasks ≡ 16) (apart : (i j : ℕ) → Occupied k i → Occupied k j → (slot k i).id.0 ≡ (slot k j).id.0 → i ≡ j) (a : TaskId) (f : ℕ → ℕ) (i : ℕ) (o : Occupied k i) where
  other : (eqb a.0 (slot k i).id.0 ≡ true → ⊥) → choose (eqb a.0 (slot k i).id.0) f (slot k i).owned_mutex_count ≡ (slot k i).owned_mutex_count
  other h = go (eqb a.0 (slot k i).id.0) h
    where
      go : (b : Bool) → (b ≡ true → ⊥) → choose b f (slot k i).owned_mutex_count ≡ (slot k i).owned_mutex_count
      go true n = absurd (n refl)
      go false n = refl

  at_owned : (slot (at_id a (λ t. with_owned (f t.owned_mutex_count) t) k) i).owned_mutex_count ≡ choose (names (Some a) (slot k i).id) f (slot k i).owned_mutex_count
  unfolding at_id slot_of
  at_owned = either (λ y. (slot y i).owned_mutex_count ≡ choose (eqb a.0 (slot k i).id.0) f (slot k i).owned_mutex_count) (is_present k a) present absent
    where
      g : TaskControl → TaskControl
      g t = with_owned (f t.owned_mutex_count) t

      present : is_present k a ≡ true → (slot (at (slot_of k a) g k) i).owned_mutex_count ≡ choose (eqb a.0 (slot k i).id.0) f (slot k i).owned_mutex_count
      present e =
          let x = slot_of k a in
          let l = ltb-true _ _ e in
          let on = lowest_is (λ j. holds_id a (slot k j)) 16 l in
          let is : (slot k x).id.0 ≡ a.0 = eqb-true _ _ (and_right (slot k x).occupied _ on) in
          elim (ℕ_discrete i x) [
            | yes q ↦ rw (q, get_or-set_same k.tasks x (g (slot k x)) blank_slot (omega (arith, l, slots)), eq-eqb a.0 (slot k x).id.0 (sym is)) refl
            | no n ↦ rw (get_or-set_other k.tasks x i (g (slot k x)) blank_slot n) (sym (other (λ q. n (apart i x o (and_left _ _ on) (sym (eqb-true _ _ q) ∙ sym is)))))
          ]

      absent : is_present k a ≡ false → (slot k i).owned_mutex_count ≡ choose (eqb a.0 (slot k i).id.0) f (slot k i).owned_mutex_count
      absent e = sym (other (λ q.
          let low = lowest_at (λ j. holds_id a (slot k j)) 16 i (rw (o, eq-eqb (slot k i).id.0 a.0 (sym (eqb-true _ _ q))) refl) in
          omega (arith, low, ltb-false (slot_of k a) 16 e, inside k slots i o)))

choose_up : (b : Bool) (n : ℕ) → choose b (λ x. x + 1) n ≡ n + bit b
choose_up true n = refl
choose_up false n = omega arith

choose_down : (b : Bool) (n : ℕ) → choose b (λ x. x - 1) n ≡ n - bit b
choose_down true n = refl
choose_down false n = omega arith

moved_same : (from to : Option TaskId) (k : Kernel) (j : ℕ) → ((slot (raised to (lowered from k)) j).occupied ≡ (slot k j).occupied) × ((slot (raised to (lowered from k)) j).id ≡ (slot k j).id)
moved_same from to k = owner_each (λ y. (j : ℕ) → ((slot y j).occupied ≡ (slot k j).occupied) × ((slot y j).id ≡ (slot k j).id))
    (λ y i n _ e. set_each (λ j t. (t.occupied ≡ (slot k j).occupied) × (t.id ≡ (slot k j).id)) blank_slot y.tasks i _ (e i) e) from to k (λ _. (refl, refl))

moved_size : (from to : Option TaskId) (k : Kernel) → length (moved from to k) ≡ length k.tasks
moved_size from to k = owner_each (λ y. length y.tasks ≡ length k.tasks) (λ y i n _ e. length-set y.tasks i _ ∙ e) from to k refl

-- the counts once mutex m goes to another owner
module _ (k : Kernel) (w : Owned k) (m : ℕ) (l : m < 4) (i : ℕ) (o : Occupied k i) where
  abbrev a : TaskId
  a = (slot k i).id

  -- x stands at m
  with_owner : (x : Mutex) → count_below (λ j. names (get_or (set k.mutexes m x) j no_mutex).owner a) 4 + bit (names (mutex k m).owner a) ≡ owned_by k a + bit (names x.owner a)
  with_owner x =
      let here = get_or-set_same k.mutexes m x no_mutex (omega (arith, l, w.mutexes)) in
      rw here at (count_move (λ j. names (mutex k j).owner a) (λ j. names (get_or (set k.mutexes m x) j no_mutex).owner a) 4 m l (λ j n. rw (get_or-set_other k.mutexes m j x no_mutex n)))

  hand_counts : {b : Bool} {from to : Option TaskId} → Hand k m b from to → (slot (raised to (lowered from k)) i).owned_mutex_count + bit (names (mutex k m).owner a) ≡ (slot k i).owned_mutex_count + bit (names to a)
  hand_counts (taken e) = omega (arith, at_owned k w.slots w.apart (current_task_id k) (λ x. x + 1) i o, choose_up (names (Some (current_task_id k)) a) (slot k i).owned_mutex_count, ap (λ (x : Option TaskId). bit (names x a)) (w.free m e))
  hand_counts (freed e) = omega (arith, at_owned k w.slots w.apart (current_task_id k) (λ x. x - 1) i o, choose_down (names (Some (current_task_id k)) a) (slot k i).owned_mutex_count, ap bit (same_names (mutex k m).owner (current_task_id k) a e), w.counts i o, bit_le (λ j. names (mutex k j).owner a) 4 m l)
  hand_counts (handed e) =
      let k₁ = lowered (Some (current_task_id k)) k in
      let s = moved_same (Some (current_task_id k)) None k in
      let next = head (mutex k m).waiters in
      let apart : (x y : ℕ) → Occupied k₁ x → Occupied k₁ y → (slot k₁ x).id.0 ≡ (slot k₁ y).id.0 → x ≡ y = λ x y p q r. w.apart x y (sym (s x).0 ∙ p) (sym (s y).0 ∙ q) (ap (λ (c : TaskId). c.0) (sym (s x).1) ∙ r ∙ ap (λ (c : TaskId). c.0) (s y).1) in
      let up = at_owned k₁ (moved_size (Some (current_task_id k)) None k ∙ w.slots) apart next (λ x. x + 1) i ((s i).0 ∙ o) in
      omega (
        arith,
        at_owned k w.slots w.apart (current_task_id k) (λ x. x - 1) i o,
        choose_down (names (Some (current_task_id k)) a) (slot k i).owned_mutex_count,
        ap bit (same_names (mutex k m).owner (current_task_id k) a e),
        w.counts i o,
        bit_le (λ j. names (mutex k j).owner a) 4 m l,
        up,
        choose_up (names (Some next) (slot k₁ i).id) (slot k₁ i).owned_mutex_count,
        ap (λ (c : TaskId). bit (names (Some next) c)) (s i).1,
      )

-- ---- each change

-- mutex m replaced, and the tasks' counts to match
mutex_stays : {k : Kernel} (m : ℕ) (x : Mutex) (l : List TaskControl) → Owned k → length l ≡ length k.tasks → ((j : ℕ) → ((get_or l j blank_slot).occupied ≡ (slot k j).occupied) × ((get_or l j blank_slot).id ≡ (slot k j).id))
    → Known k.next_id x.owner → ((j : ℕ) → (place x.waiters j).0 < k.next_id) → (x.locked ≡ false → x.owner ≡ None)
    → ((i : ℕ) → Occupied k i → (get_or l i blank_slot).owned_mutex_count ≡ count_below (λ j. names (get_or (set k.mutexes m x) j no_mutex).owner (slot k i).id) 4) → Owned (with_mutex m x (with_tasks l k))
mutex_stays {k} m x l w size s known queue free counts = record {
  slots = size ∙ w.slots;
  mutexes = length-set k.mutexes m x ∙ w.mutexes;
  some = w.some;
  running = (s (current k)).0 ∙ w.running;
  ids = λ i o. rw (s i).1 (w.ids i (was i o));
  apart = λ i j o p e. w.apart i j (was i o) (was j p) (ap (λ (a : TaskId). a.0) (sym (s i).1) ∙ e ∙ ap (λ (a : TaskId). a.0) (s j).1);
  owners = set_each (λ o y. Known k.next_id y.owner) no_mutex k.mutexes m x known w.owners;
  queued = set_each (λ o y. (j : ℕ) → (place y.waiters j).0 < k.next_id) no_mutex k.mutexes m x queue w.queued;
  free = set_each (λ o y. y.locked ≡ false → y.owner ≡ None) no_mutex k.mutexes m x free w.free;
  counts = λ i o. rw (s i).1 (counts i (was i o));
}
  where
    was : (i : ℕ) → (get_or l i blank_slot).occupied ≡ true → Occupied k i
    was i o = sym (s i).0 ∙ o

hand_known : {k : Kernel} {m : ℕ} {b : Bool} {from to : Option TaskId} → Owned k → Hand k m b from to → Known k.next_id to
hand_known {k} w (taken e) = w.ids (current k) w.running
hand_known w (freed e) = tt
hand_known {k} {m} w (handed e) = w.queued m 0

hand_free : {k : Kernel} {m : ℕ} {b : Bool} {from to : Option TaskId} → Hand k m b from to → b ≡ false → to ≡ None
hand_free (taken e) f = absurd (false≢true (sym f))
hand_free (freed e) f = refl
hand_free (handed e) f = absurd (false≢true (sym f))

nobody : (n : ℕ) (o : Option TaskId) → Known n o → names o (record { 0 = n }) ≡ false
nobody n None h = refl
nobody n (Some b) h = ne_eqb b.0 n (λ e. omega arith)

none_counted : (p : ℕ → Bool) (n : ℕ) → ((i : ℕ) → p i ≡ false) → count_below p n ≡ 0
unfolding count_below
none_counted p zero h = refl
none_counted p (suc n) h = either (λ x. x ≡ 0) (p n) (λ e. absurd (false≢true (sym (h n) ∙ e))) (λ _. none_counted p n h)

one_same : (k : Kernel) (i : ℕ) (u : TaskControl) → Same (slot k i) u → (j : ℕ) → Same (slot k j) (get_or (set k.tasks i u) j blank_slot)
one_same k i u s = set_each (λ j t. Same (slot k j) t) blank_slot k.tasks i u s (unmoved k)

later : (n : ℕ) (o : Option TaskId) → Known n o → Known (n + 1) o
later n None h = tt
later n (Some a) h = omega arith

add_owned : (k : Kernel) (x : ℕ) (t : TaskControl) → Owned k → (slot k x).occupied ≡ false → x < 16 → t.id.0 ≡ k.next_id → t.owned_mutex_count ≡ 0 → t.occupied ≡ true → (n : ℕ) (charges : List ℕ) → Owned (with_task_count n (with_next_id (k.next_id + 1) (with_charges charges (with_tasks (set k.tasks x t) k))))
add_owned k x t w e h id owned on n charges = record {
  slots = length-set k.tasks x t ∙ w.slots;
  mutexes = w.mutexes;
  some = omega arith;
  running = set_each (λ j u. Occupied k j → u.occupied ≡ true) blank_slot k.tasks x t (λ _. on) (λ j o. o) (current k) w.running;
  ids = set_each (λ j u. u.occupied ≡ true → u.id.0 < k.next_id + 1) blank_slot k.tasks x t (λ _. omega (arith, id)) (λ j o. omega (arith, w.ids j o));
  apart = λ i j o p q. apart i j (ℕ_discrete i x) (ℕ_discrete j x) o p q;
  owners = λ m. later k.next_id (mutex k m).owner (w.owners m);
  queued = λ m j. omega (arith, w.queued m j);
  free = w.free;
  counts = set_each (λ j u. u.occupied ≡ true → u.owned_mutex_count ≡ owned_by k u.id) blank_slot k.tasks x t (λ _. owned ∙ sym (none_counted _ 4 (λ m. subst (λ (z : ℕ). names (mutex k m).owner (record { 0 = z }) ≡ false) (sym id) (nobody k.next_id (mutex k m).owner (w.owners m))))) w.counts;
}
  where
    l : List TaskControl
    l = set k.tasks x t

    here : get_or l x blank_slot ≡ t
    here = get_or-set_same k.tasks x t blank_slot (omega (arith, h, w.slots))

    new : (i j : ℕ) → i ≡ x → (j ≡ x → ⊥) → (get_or l j blank_slot).occupied ≡ true → (get_or l i blank_slot).id.0 ≡ (get_or l j blank_slot).id.0 → ⊥
    new i j q r o z =
        let at_x = ap (λ (y : ℕ). (get_or l y blank_slot).id.0) q ∙ ap (λ (u : TaskControl). u.id.0) here in
        let elsewhere = get_or-set_other k.tasks x j t blank_slot r in
        omega (arith, at_x, id, z, ap (λ (u : TaskControl). u.id.0) elsewhere, w.ids j (sym (ap (λ (u : TaskControl). u.occupied) elsewhere) ∙ o))

    apart : (i j : ℕ) → Dec (i ≡ x) → Dec (j ≡ x) → (get_or l i blank_slot).occupied ≡ true → (get_or l j blank_slot).occupied ≡ true → (get_or l i blank_slot).id.0 ≡ (get_or l j blank_slot).id.0 → i ≡ j
    apart i j (yes q) (yes r) o p z = q ∙ sym r
    apart i j (yes q) (no r) o p z = absurd (new i j q r p z)
    apart i j (no q) (yes r) o p z = absurd (new j i r q o (sym z))
    apart i j (no q) (no r) o p z =
        let a = get_or-set_other k.tasks x i t blank_slot q in
        let b = get_or-set_other k.tasks x j t blank_slot r in
        w.apart i j (rw a at o) (rw b at p) (ap (λ (u : TaskControl). u.id.0) (sym a) ∙ z ∙ ap (λ (u : TaskControl). u.id.0) b)

-- f of the picked task made Running
run_stays : (k k' : Kernel) (f : TaskControl → TaskControl) → ((t : TaskControl) → Same t (f t)) → Occupied k (next_task k) → Owned k
    → k'.tasks ≡ set k.tasks (next_task k) (entered Running (f (slot k (next_task k)))) → current k' ≡ next_task k → k'.next_id ≡ k.next_id → k'.mutexes ≡ k.mutexes → Owned k'
run_stays k k' f fit o w tasks now next mutexes =
    let t = fit (slot k (next_task k)) in
    let s : (j : ℕ) → Same (slot k j) (slot k' j) = rw tasks (one_same k (next_task k) (entered Running (f (slot k (next_task k)))) (record { occupied = t.occupied; id = t.id; owned = t.owned })) in
    stays w (ap length tasks ∙ length-set k.tasks _ _) next mutexes (rw now ((s (next_task k)).occupied ∙ o)) (λ j _. s j)

change_owned : (g : Kind) (k k' : Kernel) → Change g k k' → Owned k → Owned k'
unfolding Scheduler.add
change_owned g k k' (task i u h c) w = let s = one_same k i u (task_same c) in stays w (length-set k.tasks i u) refl refl ((s (current k)).occupied ∙ w.running) (λ j _. s j)
change_owned g k k' (begins o n h b f p q) w = let s = one_same k (current k) _ (record { occupied = refl; id = refl; owned = refl }) in stays w (length-set k.tasks _ _) refl refl ((s (current k)).occupied ∙ w.running) (λ j _. s j)
change_owned g k k' (clock l a) w = stays w refl refl refl w.running (λ j _. unmoved k j)
change_owned g k k' (permits s n q h c) w = stays w refl refl refl w.running (λ j _. unmoved k j)
change_owned g k k' (flag v n q h c) w = stays w refl refl refl w.running (λ j _. unmoved k j)
change_owned g k k' (handoff m h q l c) w =
    mutex_stays m (record { locked = (mutex k m).locked; owner = (mutex k m).owner; handoff_to = h; waiters = q }) k.tasks w refl (λ _. (refl, refl)) (w.owners m) (queue_known _ w.some (w.ids (current k) w.running) c (w.queued m)) (w.free m)
    (λ i o. omega (arith, w.counts i o, with_owner k w m l i o (record { locked = (mutex k m).locked; owner = (mutex k m).owner; handoff_to = h; waiters = q })))
change_owned g k k' (owner m b from to h q l d c) w =
    mutex_stays m (record { locked = b; owner = to; handoff_to = h; waiters = q }) (moved from to k) w (moved_size from to k) (moved_same from to k) (hand_known w d) (queue_known _ w.some (w.ids (current k) w.running) c (w.queued m)) (hand_free d)
    (λ i o. omega (arith, w.counts i o, hand_counts k w m l i o d, with_owner k w m l i o (record { locked = b; owner = to; handoff_to = h; waiters = q })))
change_owned g k k' (added p r free region) w = add_owned k (lowest_empty k) (new_task (next_id k) p r) w (first_empty k free) free refl refl refl _ _
change_owned g k k' (reaped x h idle running on) w =
    stays w (length-set k.tasks x blank_slot) refl refl (rw (get_or-set_other k.tasks x (current k) blank_slot blank_slot running) w.running)
    (set_each (λ j u. u.occupied ≡ true → Same (slot k j) u) blank_slot k.tasks x blank_slot (λ o. absurd (false≢true o)) (λ j _. unmoved k j))
change_owned g k k' (begun x h o) w = run_stays k k' (λ t. t) (λ t. record { occupied = refl; id = refl; owned = refl }) o w refl refl refl refl
change_owned g k k' (turned x h o) w = run_stays k k' reloaded reload_same o w refl refl refl refl

-- ---- from fresh

-- a list of what is read past its end
pub all_default : {A : Type 0} (d : A) (n j : ℕ) → get_or (replicate n d) j d ≡ d
all_default d zero j = refl
all_default d (suc n) zero = refl
all_default d (suc n) (suc j) = all_default d n j

each_new : (P : Mutex → Type 0) → P no_mutex → P new_mutex → (n m : ℕ) → P (get_or (replicate n new_mutex) m no_mutex)
each_new P a b zero m = a
each_new P a b (suc n) zero = b
each_new P a b (suc n) (suc m) = each_new P a b n m

idle_only : (hz words i : ℕ) → Occupied (fresh_kernel hz words) i → i ≡ 0
unfolding fresh_kernel
idle_only hz words zero o = refl
idle_only hz words (suc i) o = absurd (false≢true (sym (ap (λ (t : TaskControl). t.occupied) (all_default blank_slot 15 i)) ∙ o))

fresh_owned : (hz words : ℕ) → Owned (fresh_kernel hz words)
unfolding fresh_kernel
fresh_owned hz words = record {
  slots = refl;
  mutexes = refl;
  some = omega arith;
  running = refl;
  ids = λ i o. rw (idle_only hz words i o) (omega arith);
  apart = λ i j o p e. idle_only hz words i o ∙ sym (idle_only hz words j p);
  owners = each_new (λ x. Known 1 x.owner) tt tt 4;
  queued = each_new (λ x. (j : ℕ) → (place x.waiters j).0 < 1) (λ j. omega arith) (λ j. rw (all_default zero_id 8 j) (omega arith)) 4;
  free = each_new (λ x. x.locked ≡ false → x.owner ≡ None) (λ _. refl) (λ _. refl) 4;
  counts = λ i o. rw (idle_only hz words i o) (sym (none_counted _ 4 (λ m. each_new (λ x. names x.owner zero_id ≡ false) refl refl 4 m)));
}

-- so the owned counts fit
owned_fits : (k : Kernel) → Owned k → OwnedFits k
owned_fits k w i o = rw (w.counts i o) (count_le _ 4)

besides : (g : Kind) (k k' : Kernel) → Owned k → Owned k' → Besides g k k'
besides adding k k' w v = w.slots
besides reaping k k' w v = tt
besides starting k k' w v = tt
besides switching k k' w v = tt
besides ticking k k' w v = tt
besides owning k k' w v = owned_fits k' v
besides plain k k' w v = tt

fresh_whole : (hz words : ℕ) → init_number hz words ≡ 0 → Whole (fresh_kernel hz words)
unfolding fresh_kernel count_below if◌then◌otherwise◌
fresh_whole hz words e = record {
  arena = (init_accepted hz words e).0;
  clock = omega (arith, (init_accepted hz words e).1);
  current_slot = omega arith;
  idle = refl;
  running = refl;
  region = λ i h o. rw (idle_only hz words i o) (record { aligned = refl; multiple = refl; long = omega arith; inside = omega (arith, (init_accepted hz words e).0.low) });
  owned = λ i h o. owned_fits (fresh_kernel hz words) (fresh_owned hz words) i o;
  limits = λ i h o. rw (idle_only hz words i o) (λ l. absurd (false≢true l));
  mutex_queue = λ o h. each_new (λ x. x.waiters.len ≤ 8) (omega arith) (omega arith) 4 o;
  semaphore_queue = λ o h. few (λ (x : Semaphore). x.waiters.len ≤ 8) _ new_semaphore (omega arith) (omega arith) 4 o;
  event_queue = λ o h. few (λ (x : Event). x.waiters.len ≤ 8) _ new_event (omega arith) (omega arith) 4 o;
  charges = omega (arith, sum_none (λ i. get_or (replicate 16 0) i 0) 16 (λ i _. all_default 0 16 i));
  count = refl;
  tasks = omega arith;
}
  where
    few : {A : Type 0} (P : A → Type 0) (d x : A) → P d → P x → (n i : ℕ) → P (get_or (replicate n x) i d)
    few P d x a b zero i = a
    few P d x a b (suc n) zero = b
    few P d x a b (suc n) (suc i) = few P d x a b n i

-- ---- both, of every kernel from fresh

pub record Sound (k : Kernel) : Type 0 where
  pub owned : Owned k
  pub is : Whole k

pub fresh_sound : (hz words : ℕ) → init_number hz words ≡ 0 → Sound (fresh_kernel hz words)
fresh_sound hz words e = record { owned = fresh_owned hz words; is = fresh_whole hz words e }

pub change_sound : (g : Kind) (k k' : Kernel) → Change g k k' → Sound k → Sound k'
change_sound g k k' c s = let v = change_owned g k k' c s.owned in record { owned = v; is = change_stays g k k' c (besides g k k' s.owned v) s.is }
