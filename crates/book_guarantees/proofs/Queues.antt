-- What the book says of queues: every change keeps that each id stands at most once in one. Then who stands in a queue from which an id was taken out.
use Prim.Native.Nat.{ℕ, zero, suc, ◌+◌, ◌-◌, ◌≤◌, ◌<◌}
use native.Mathlib.Decide.{dec_lt}
use native.Mathlib.Omega.{arith}
use mathlib.Core.Path.{◌≡◌, refl, sym, ap, subst, ◌∙◌}
use mathlib.Core.Bool.{Bool, true, false, false≢true}
use mathlib.Core.Logic.{◌⊎◌, inl, inr, ⊎_elim}
use lib.Dec.{ltb}
use lib.ListN.{length, get_or, set, replicate, length-set}
use lib.Seq.{get_or-set_same, get_or-set_other}
use borrow.Author.Tests.{ltb-true, lt-ltb, ltb-false, leb-false, lt-leb, eqb-true}
use Rattle.base.specs.Choice.{if◌then◌otherwise◌}
use Rattle.base.proofs.Choices.{not_yes, either, taken, left as left-arm, through, and_right, same_test}
use Rattle.base.proofs.Loops.{tabulate_length, tabulate_at, set_each, lowest_le, lowest_before, lowest_only}
use Rattle.kernel.specs.declared.control.TaskId.{TaskId}
use Rattle.kernel.specs.declared.wait_queue.WaitQueue.{WaitQueue}
use Rattle.kernel.specs.declared.mutex.Mutex.{Mutex}
use Rattle.kernel.specs.declared.semaphore.Semaphore.{Semaphore}
use Rattle.kernel.specs.declared.event.Event.{Event}
use Rattle.kernel.specs.declared.scheduler.Kernel.{Kernel}
use Rattle.kernel.specs.WaitQueue.{zero_id, empty_queue, place, waits_at, position, contains, is_full, pushed, enqueued, place_without, without, is_empty, popped, removed}
use Rattle.kernel.specs.Kernel.{mutex, semaphore, event, fresh_kernel}
use Rattle.kernel.specs.Scheduler
use Rattle.kernel.specs.Calls.{Kind, init_number, Reached}
use Rattle.kernel.proofs.Queue.{waits_in, waits_here, found_at, removed_keeps}
use Rattle.kernel.proofs.Changes.{QueueChange, still, joined, left, out, Change, task, begins, clock, permits, flag, handoff, owner, added, reaped, begun, turned}
use Rattle.kernel.proofs.Reached.{reached_by}
use Rattle.book_guarantees.specs.Queues.{Once, QueueGuarantee}
use Rattle.book_guarantees.proofs.Settled.{all_clear}

-- ---- a queue

pub record Fits (q : WaitQueue) : Type 0 where
  pub places : length q.ids ≡ 8
  pub len : q.len ≤ 8
  pub once : Once q

pub same_id_lem : (a b : TaskId) → a.0 ≡ b.0 → a ≡ b
same_id_lem a b e = ap (λ (n : ℕ). record { 0 = n }) e

in_queue : (q : WaitQueue) (a : TaskId) (j : ℕ) → q.len ≤ 8 → j < q.len → (place q j).0 ≡ a.0 → contains q a ≡ true
in_queue q a j l h e = waits_in q a j (omega arith) (waits_here q a j h e)

-- one that joins
pushed_once : (q : WaitQueue) (a : TaskId) → Fits q → q.len < 8 → contains q a ≡ false → Once (record { ids = set q.ids q.len a; len = q.len + 1 })
pushed_once q a f room n i j hi hj e = go (dec_lt i q.len) (dec_lt j q.len)
  where
    longer : WaitQueue
    longer = record { ids = set q.ids q.len a; len = q.len + 1 }

    before : (x : ℕ) → x < q.len → place longer x ≡ place q x
    before x h = get_or-set_other q.ids q.len x a zero_id (λ y. omega arith)

    last : (x : ℕ) → x ≡ q.len → place longer x ≡ a
    last x h = rw h (get_or-set_same q.ids q.len a zero_id (omega (arith, f.places)))

    apart : (x y : ℕ) → x < q.len → y ≡ q.len → place longer x ≡ place longer y → ⊥
    apart x y h g p = false≢true (sym n ∙ in_queue q a x f.len h (ap (λ (b : TaskId). b.0) (sym (before x h) ∙ (p ∙ last y g))))

    go : Dec (i < q.len) → Dec (j < q.len) → i ≡ j
    go (yes h) (yes g) = f.once i j h g (sym (before i h) ∙ (e ∙ before j g))
    go (yes h) (no g) = absurd (apart i j h (omega arith) e)
    go (no h) (yes g) = absurd (apart j i g (omega arith) (sym e))
    go (no h) (no g) = omega arith

enqueued_fits : (q : WaitQueue) (a : TaskId) → Fits q → Fits (enqueued q a)
unfolding enqueued pushed
enqueued_fits q a f =
    either Fits (contains q a) (λ _. f)
    (λ n. either Fits (is_full q) (λ _. f) (λ room. let h = leb-false 8 q.len room in record { places = length-set q.ids q.len a ∙ f.places; len = omega arith; once = pushed_once q a f h n }))

-- one that is taken out of place i: what then stands at place j
skip : ℕ → ℕ → ℕ
skip i j = if ltb j i then j otherwise j + 1

skips : (i j : ℕ) → ((j < i) × (skip i j ≡ j)) ⊎ ((i ≤ j) × (skip i j ≡ j + 1))
unfolding skip
skips i j = either (λ n. ((j < i) × (n ≡ j)) ⊎ ((i ≤ j) × (n ≡ j + 1))) (ltb j i) (λ e. inl (ltb-true _ _ e, refl)) (λ e. inr (ltb-false _ _ e, refl))

without_place : (q : WaitQueue) (i j : ℕ) → q.len ≤ 8 → j < q.len - 1 → place (without q i) j ≡ place q (skip i j)
unfolding without place_without skip
without_place q i j l h =
    tabulate_at (place_without q i) zero_id 8 j (omega arith)
    ∙ (sym (left-arm _ _ _ _ (lt-leb q.len (j + 1) (omega arith)) refl)
    ∙ sym (through (place q) (ltb j i) j (j + 1)))

without_fits : (q : WaitQueue) (i : ℕ) → Fits q → Fits (without q i)
unfolding without
without_fits q i f = record { places = tabulate_length (place_without q i) 8; len = omega (arith, f.len); once = once }
  where
    once : Once (without q i)
    once x y hx hy e = go (skips i x) (skips i y)
      where
        same : skip i x < q.len → skip i y < q.len → skip i x ≡ skip i y
        same h g = f.once (skip i x) (skip i y) h g (sym (without_place q i x f.len hx) ∙ (e ∙ without_place q i y f.len hy))

        go : ((x < i) × (skip i x ≡ x)) ⊎ ((i ≤ x) × (skip i x ≡ x + 1)) → ((y < i) × (skip i y ≡ y)) ⊎ ((i ≤ y) × (skip i y ≡ y + 1)) → x ≡ y
        go (inl u) (inl v) = omega (arith, u.1, v.1, same (omega (arith, u.1)) (omega (arith, v.1)))
        go (inl u) (inr v) = omega (arith, u.0, u.1, v.0, v.1, same (omega (arith, u.1)) (omega (arith, v.1)))
        go (inr u) (inl v) = omega (arith, u.0, u.1, v.0, v.1, same (omega (arith, u.1)) (omega (arith, v.1)))
        go (inr u) (inr v) = omega (arith, u.1, v.1, same (omega (arith, u.1)) (omega (arith, v.1)))

popped_fits : (q : WaitQueue) → Fits q → Fits (popped q)
unfolding popped
popped_fits q f = either Fits (is_empty q) (λ _. f) (λ _. without_fits q 0 f)

pub removed_fits : (q : WaitQueue) (a : TaskId) → Fits q → Fits (removed q a)
unfolding removed
removed_fits q a f = either Fits (contains q a) (λ _. without_fits q (position q a) f) (λ _. f)

queue_fits : {P : TaskId → Type 0} {a : TaskId} {q r : WaitQueue} → QueueChange P a q r → Fits q → Fits r
queue_fits still f = f
queue_fits {a = a} (joined {q = q}) f = enqueued_fits q a f
queue_fits (left {r = r} p c) f = popped_fits r (queue_fits c f)
queue_fits (out {q = q} b p) f = removed_fits q b f

-- ---- every queue of a kernel

pub record AllFit (k : Kernel) : Type 0 where
  pub mutexes : (m : ℕ) → m < 4 → Fits (mutex k m).waiters
  pub semaphores : (s : ℕ) → s < 4 → Fits (semaphore k s).waiters
  pub events : (e : ℕ) → e < 4 → Fits (event k e).waiters

same_fits : {k k' : Kernel} → k'.mutexes ≡ k.mutexes → k'.semaphores ≡ k.semaphores → k'.events ≡ k.events → AllFit k → AllFit k'
same_fits m s e f = record { mutexes = rw m f.mutexes; semaphores = rw s f.semaphores; events = rw e f.events }

pub change_fits : (g : Kind) (k k' : Kernel) → Change g k k' → AllFit k → AllFit k'
unfolding Scheduler.add
change_fits g k k' (task i u h c) f = same_fits refl refl refl f
change_fits g k k' (begins o n h b e p s) f = same_fits refl refl refl f
change_fits g k k' (clock l a) f = same_fits refl refl refl f
change_fits g k k' (permits s n q h c) f = record { mutexes = f.mutexes; semaphores = set_each (λ j (y : Semaphore). j < 4 → Fits y.waiters) _ k.semaphores s _ (λ l. queue_fits c (f.semaphores s l)) f.semaphores; events = f.events }
change_fits g k k' (flag v n q h c) f = record { mutexes = f.mutexes; semaphores = f.semaphores; events = set_each (λ j (y : Event). j < 4 → Fits y.waiters) _ k.events v _ (λ l. queue_fits c (f.events v l)) f.events }
change_fits g k k' (handoff m h q l c) f = record { mutexes = set_each (λ j (y : Mutex). j < 4 → Fits y.waiters) _ k.mutexes m _ (λ l. queue_fits c (f.mutexes m l)) f.mutexes; semaphores = f.semaphores; events = f.events }
change_fits g k k' (owner m x from to h q l d c) f = record { mutexes = set_each (λ j (y : Mutex). j < 4 → Fits y.waiters) _ k.mutexes m _ (λ l. queue_fits c (f.mutexes m l)) f.mutexes; semaphores = f.semaphores; events = f.events }
change_fits g k k' (added p r free region) f = same_fits refl refl refl f
change_fits g k k' (reaped x h idle running on) f = same_fits refl refl refl f
change_fits g k k' (begun x h o) f = same_fits refl refl refl f
change_fits g k k' (turned x h o) f = same_fits refl refl refl f

pub empty_fits : Fits empty_queue
empty_fits = record { places = refl; len = omega arith; once = λ i j h. absurd (omega arith) }

-- four objects alike
four : {A : Type 0} (P : A → Type 0) (d x : A) → P x → (j : ℕ) → j < 4 → P (get_or (replicate 4 x) j d)
four P d x p zero h = p
four P d x p (suc zero) h = p
four P d x p (suc (suc zero)) h = p
four P d x p (suc (suc (suc zero))) h = p
four P d x p (suc (suc (suc (suc j)))) h = absurd (omega arith)

pub fresh_fits : (hz words : ℕ) → init_number hz words ≡ 0 → AllFit (fresh_kernel hz words)
unfolding fresh_kernel
fresh_fits hz words e = record { mutexes = four (λ (x : Mutex). Fits x.waiters) _ _ empty_fits; semaphores = four (λ (x : Semaphore). Fits x.waiters) _ _ empty_fits; events = four (λ (x : Event). Fits x.waiters) _ _ empty_fits }

-- ---- from fresh

pub queues_fit : {k : Kernel} → Reached k → AllFit k
queues_fit = reached_by AllFit fresh_fits change_fits

pub queue_guarantee : QueueGuarantee
queue_guarantee k r = let f = queues_fit r in record { mutexes = λ m h. (f.mutexes m h).once; semaphores = λ s h. (f.semaphores s h).once; events = λ e h. (f.events e h).once; signaled = all_clear r }

-- ---- who stands in a queue from which an id was taken out, and in what order

removed_some : (q : WaitQueue) (a : TaskId) → contains q a ≡ true → without q (position q a) ≡ removed q a
unfolding removed
removed_some q a e = taken _ _ _ _ e refl

removed_none : (q : WaitQueue) (a : TaskId) → contains q a ≡ false → q ≡ removed q a
unfolding removed
removed_none q a e = left-arm _ _ _ _ e refl

position_le : (q : WaitQueue) (a : TaskId) → position q a ≤ 8
unfolding position
position_le q a = lowest_le (waits_at q a) 8

earlier : (q : WaitQueue) (a : TaskId) (j : ℕ) → j < position q a → waits_at q a j ≡ false
unfolding position
earlier q a j h = lowest_before (waits_at q a) 8 j h

first_at : (q : WaitQueue) (a : TaskId) (j : ℕ) → j < 8 → waits_at q a j ≡ true → ((m : ℕ) → m < j → waits_at q a m ≡ false) → position q a ≡ j
unfolding position
first_at q a j h e f = lowest_only (waits_at q a) 8 j h e f

shorter : (q : WaitQueue) (i j : ℕ) → j < q.len - 1 → j < (without q i).len
unfolding without
shorter q i j h = h

shorter_back : (q : WaitQueue) (i j : ℕ) → j < (without q i).len → j < q.len - 1
unfolding without
shorter_back q i j h = h

-- such an id stands there no more
pub removed_gone : (q : WaitQueue) (a : TaskId) → Fits q → contains (removed q a) a ≡ false
unfolding removed without
removed_gone q a f = either (λ (x : WaitQueue). contains x a ≡ false) (contains q a) (λ e. not_yes _ (λ y. again e (found_at _ a y))) (λ e. e)
  where
    p : ℕ
    p = position q a

    again : contains q a ≡ true → (position (without q p) a < 8) × (position (without q p) a < q.len - 1) × ((place (without q p) (position (without q p) a)).0 ≡ a.0) → ⊥
    again e g =
        let h = found_at q a e in
        let j = position (without q p) a in
        let is = same_id_lem _ _ (ap (λ (b : TaskId). b.0) (sym (without_place q p j f.len g.1)) ∙ (g.2 ∙ sym h.2)) in
        ⊎_elim
        (λ u. omega (arith, u.0, u.1, f.once (skip p j) p (omega (arith, u.1, g.1)) h.1 is))
        (λ u. omega (arith, u.0, u.1, f.once (skip p j) p (omega (arith, u.1, g.1)) h.1 is))
        (skips p j)

-- the place of another id that stands at p
back : (i p : ℕ) → (p ≡ i → ⊥) → (x : ℕ) × (skip i x ≡ p)
back i p n =
    elim (dec_lt p i) [
      | yes h ↦ (p, ⊎_elim (λ u. u.1) (λ u. absurd (omega (arith, u.0))) (skips i p))
      | no h ↦ (p - 1, ⊎_elim (λ u. absurd (omega (arith, u.0, n))) (λ u. omega (arith, u.1, n)) (skips i (p - 1)))
    ]

skip_less : (i x y : ℕ) → skip i x < skip i y → x < y
skip_less i x y h = ⊎_elim (λ u. ⊎_elim (λ v. omega (arith, u.1, v.1)) (λ v. omega (arith, u.0, v.0)) (skips i y)) (λ u. ⊎_elim (λ v. omega (arith, u.0, u.1, v.0, v.1)) (λ v. omega (arith, u.1, v.1)) (skips i y)) (skips i x)

skip_more : (i x y : ℕ) → x < y → skip i x < skip i y
skip_more i x y h = ⊎_elim (λ u. ⊎_elim (λ v. omega (arith, u.1, v.1)) (λ v. omega (arith, u.1, v.1)) (skips i y)) (λ u. ⊎_elim (λ v. omega (arith, u.0, v.0)) (λ v. omega (arith, u.1, v.1)) (skips i y)) (skips i x)

-- where it then stands first
without_position : (q : WaitQueue) (i : ℕ) (b : TaskId) → q.len ≤ 8 → i < q.len → ((place q i).0 ≡ b.0 → ⊥) → contains q b ≡ true → (position (without q i) b < q.len - 1) × (skip i (position (without q i) b) ≡ position q b)
without_position q i b l h n e = (rw is short, ap (skip i) is ∙ there)
  where
    p : ℕ
    p = position q b

    f : (p < 8) × (p < q.len) × ((place q p).0 ≡ b.0)
    f = found_at q b e

    r : (x : ℕ) × (skip i x ≡ p)
    r = back i p (λ g. n (rw (← g) f.2))

    x : ℕ
    x = r.0

    there : skip i x ≡ p
    there = r.1

    short : x < q.len - 1
    short = ⊎_elim (λ u. omega (arith, u.0)) (λ u. omega (arith, u.1, there, f.1)) (skips i x)

    stands : (place (without q i) x).0 ≡ b.0
    stands = ap (λ (c : TaskId). c.0) (without_place q i x l short) ∙ (ap (λ (j : ℕ). (place q j).0) there ∙ f.2)

    none_before : (j : ℕ) → j < x → waits_at (without q i) b j ≡ false
    none_before j g = not_yes _ (λ y. false≢true (sym (earlier q b (skip i j) (omega (arith, skip_more i j x g, there))) ∙ waits_here q b (skip i j) (omega (arith, skip_more i j x g, there, f.1)) (ap (λ (c : TaskId). c.0) (sym (without_place q i j l (omega (arith, short)))) ∙ eqb-true _ _ (and_right (ltb j (without q i).len) _ y))))

    is : position (without q i) b ≡ x
    is = first_at (without q i) b x (omega (arith, short)) (waits_here (without q i) b x (shorter q i x short) stands) none_before

-- nobody else comes in
without_in : (q : WaitQueue) (i : ℕ) (b : TaskId) → q.len ≤ 8 → contains (without q i) b ≡ true → contains q b ≡ true
without_in q i b l e =
    let g = found_at (without q i) b e in
    let j = position (without q i) b in
    let h : j < q.len - 1 = shorter_back q i j g.1 in
    in_queue q b (skip i j) l (⊎_elim (λ u. omega (arith, u.1)) (λ u. omega (arith, u.1)) (skips i j)) (ap (λ (c : TaskId). c.0) (sym (without_place q i j l h)) ∙ g.2)

pub removed_stays : (q : WaitQueue) (a b : TaskId) → Fits q → (a.0 ≡ b.0 → ⊥) → contains (removed q a) b ≡ contains q b
unfolding removed
removed_stays q a b f n = same_test _ _ (either (λ (r : WaitQueue). contains r b ≡ true → contains q b ≡ true) (contains q a) (λ _. without_in q (position q a) b f.len) (λ _ e. e)) (removed_keeps q a b n)

pub removed_order : (q : WaitQueue) (a b c : TaskId) → Fits q → (a.0 ≡ b.0 → ⊥) → (a.0 ≡ c.0 → ⊥) → position q b < position q c → position (removed q a) b < position (removed q a) c
removed_order q a b c f nb nc less = go (contains q a) refl (contains q c) refl
  where
    q' : WaitQueue
    q' = removed q a

    in_b : contains q b ≡ true
    in_b = lt-ltb (position q b) 8 (omega (arith, less, position_le q c))

    go : (x : Bool) → contains q a ≡ x → (y : Bool) → contains q c ≡ y → position q' b < position q' c
    go false e y g = subst (λ (r : WaitQueue). position r b < position r c) (removed_none q a e) less
    go true e true g =
        let h = found_at q a e in
        let u = without_position q (position q a) b f.len h.1 (λ d. nb (sym h.2 ∙ d)) in_b in
        let v = without_position q (position q a) c f.len h.1 (λ d. nc (sym h.2 ∙ d)) g in
        subst (λ (r : WaitQueue). position r b < position r c) (removed_some q a e) (skip_less (position q a) (position (without q (position q a)) b) (position (without q (position q a)) c) (omega (arith, u.1, v.1, less)))
    go true e false g =
        let h = found_at q a e in
        let u = without_position q (position q a) b f.len h.1 (λ d. nb (sym h.2 ∙ d)) in_b in
        let out : contains q' c ≡ false = removed_stays q a c f nc ∙ g in
        let far = ltb-false (position q' c) 8 out in
        let near = subst (λ (r : WaitQueue). position r b < q.len - 1) (removed_some q a e) u.0 in
        omega (arith, far, near, f.len)
