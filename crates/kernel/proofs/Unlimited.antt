-- An id that leaves a queue has no limit any more: none that a wake passes over, none that it wakes, and none that a tick takes out.
use Prim.Native.Nat.{ℕ, ◌<◌}
use native.Mathlib.Omega.{arith}
use native.Mathlib.Decide.{dec_lt}
use mathlib.Core.Path.{◌≡◌, refl, sym, subst, ◌∙◌}
use mathlib.Core.Bool.{Bool, true, false, false≢true}
use lib.ListN.{length, get_or-eq_default}
use lib.Seq.{get_or-set_same}
use borrow.Author.Tests.{ltb-true, ltb-false, leb-false, eq-eqb}
use Rattle.base.proofs.Choices.{not_yes, and_left, and_right, either, taken}
use Rattle.base.proofs.Loops.{lowest_is, lowest_before, set_each}
use Rattle.kernel.specs.Types.{TaskId, Ready, Blocked, TaskControl, Kernel}
use Rattle.kernel.specs.Control.{in_state, has_limit, entered, expired, blank_slot}
use Rattle.kernel.specs.Kernel.{slot, at, slot_of, holds_id, is_present}
use Rattle.kernel.specs.Scheduler.{wake, wakes, is_due, is_limit_due, woken}
use Rattle.kernel.proofs.Whole.{Whole}
use Rattle.kernel.proofs.Tasks.{wake_is}
use Rattle.kernel.proofs.Changes.{Unlimited, absent, present}

-- an occupied slot lies inside the table
pub inside : (k : Kernel) (i : ℕ) → (slot k i).occupied ≡ true → i < length k.tasks
inside k i o =
    elim (dec_lt i (length k.tasks)) [
      | yes h ↦ h
      | no h ↦ absurd (false≢true (rw (get_or-eq_default k.tasks blank_slot {n = i} (omega arith)) at o))
    ]

pub changed_here : (k : Kernel) (i : ℕ) (f : TaskControl → TaskControl) → (slot k i).occupied ≡ true → slot (at i f k) i ≡ f (slot k i)
changed_here k i f o = get_or-set_same k.tasks i _ blank_slot (inside k i o)

-- ---- a wake

-- one that a wake does not turn Ready is not Blocked, or not there
pub rests_unlimited : (k : Kernel) → Whole k → (b : TaskId) → wakes b k ≡ false → Unlimited k b
unfolding slot_of
rests_unlimited k w b r = go (is_present k b) refl
  where
    go : (p : Bool) → is_present k b ≡ p → Unlimited k b
    go false e = absent (λ i h. lowest_before (λ j. holds_id b (slot k j)) 16 i (omega (arith, ltb-false (slot_of k b) 16 e)))
    go true e =
        let h = ltb-true (slot_of k b) 16 e in
        let held = lowest_is (λ i. holds_id b (slot k i)) 16 h in
        let awake : in_state Blocked (slot k (slot_of k b)) ≡ false = rw e at r in
        present (slot_of k b) h held (not_yes _ (λ l. false≢true (sym awake ∙ (w.limits (slot_of k b) h (and_left _ _ held) l).0)))

made_ready : (k : Kernel) (i : ℕ) (b : TaskId) → Unlimited k b → Unlimited (at i (entered Ready) k) b
made_ready k i b (absent h) = absent (set_each (λ j u. j < 16 → holds_id b u ≡ false) blank_slot k.tasks i _ (h i) h)
made_ready k i b (present j l held n) =
    present j l
    (set_each (λ j u. holds_id b (slot k j) ≡ true → holds_id b u ≡ true) blank_slot k.tasks i _ (λ e. e) (λ _ e. e) j held)
    (set_each (λ j u. has_limit (slot k j) ≡ false → has_limit u ≡ false) blank_slot k.tasks i _ (λ _. refl) (λ _ e. e) j n)

-- the one that it turns Ready
pub woken_unlimited : (k : Kernel) (a : TaskId) → wakes a k ≡ true → Unlimited (wake a k) a
unfolding slot_of
woken_unlimited k a y =
    let h = ltb-true (slot_of k a) 16 (and_left _ _ y) in
    let held = lowest_is (λ i. holds_id a (slot k i)) 16 h in
    let here = changed_here k (slot_of k a) (entered Ready) (and_left _ _ held) in
    subst (λ (x : Kernel). Unlimited x a) (taken _ _ _ _ y refl ∙ wake_is a k) (present (slot_of k a) h (rw here held) (rw here))

pub woken_beside : (k : Kernel) (a b : TaskId) → wakes a k ≡ true → Unlimited k b → Unlimited (wake a k) b
woken_beside k a b y u = subst (λ (x : Kernel). Unlimited x b) (taken _ _ _ _ y refl ∙ wake_is a k) (made_ready k (slot_of k a) b u)

-- ---- a tick

woken_due : (now : ℕ) (t : TaskControl) → is_limit_due now t ≡ true → woken now t ≡ expired t
unfolding woken
woken_due now t p = sym (taken _ _ _ _ p refl)

pub due_occupied : (now : ℕ) (t : TaskControl) → is_limit_due now t ≡ true → (t.occupied ≡ true) × (has_limit t ≡ true)
unfolding is_limit_due
due_occupied now t p = let q = and_left _ _ p in (and_left _ _ q, and_right t.occupied _ q)

-- the one whose limit ends
pub due_unlimited : (now i : ℕ) (k : Kernel) → i < 16 → is_limit_due now (slot k i) ≡ true → Unlimited (at i (woken now) k) (slot k i).id
due_unlimited now i k h p =
    let o = (due_occupied now (slot k i) p).0 in
    let here = changed_here k i (woken now) o ∙ woken_due now (slot k i) p in
    present i h (rw (here, o, eq-eqb (slot k i).id.0 (slot k i).id.0 refl)) (rw here)

-- a limit that a tick leaves lies ahead
pub woken_ahead : (now : ℕ) (t : TaskControl) → (woken now t).occupied ≡ true → has_limit (woken now t) ≡ true → now < (woken now t).limit_tick
unfolding woken is_limit_due
woken_ahead now t =
    either (λ (u : TaskControl). u.occupied ≡ true → has_limit u ≡ true → now < u.limit_tick) (is_limit_due now t) (λ _ _ l. absurd (false≢true l))
    (λ d. either (λ (u : TaskControl). u.occupied ≡ true → has_limit u ≡ true → now < u.limit_tick) (is_due now t) (λ _ _ l. absurd (false≢true l)) (λ _ o l. leb-false _ _ (rw (o, l) at d)))
