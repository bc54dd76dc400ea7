-- Heads dropped one by one: a queue whose head is passed over, one whose head is woken, and one where nobody waits; and the answer of a release or a signal.
use Prim.Native.Nat.{ℕ, suc, ◌+◌, ◌-◌, ◌<◌}
use native.Mathlib.Omega.{arith}
use mathlib.Core.Path.{◌≡◌, refl, sym, ap, ◌∙◌}
use mathlib.Core.Bool.{true, false}
use lib.Dec.{ltb}
use borrow.Author.Tests.{lt-ltb}
use Rattle.std.specs.Prelude.{Option, None, Some}
use Rattle.std.specs.Option.{unwrap_or, is_some, IfSome}
use Rattle.base.specs.Choice.{if◌then◌otherwise◌}
use Rattle.base.proofs.Choices.{through}
use Rattle.kernel.specs.declared.control.TaskState.TheVariants.{Ready}
use Rattle.kernel.specs.declared.wait_queue.WaitQueue.{WaitQueue}
use Rattle.kernel.specs.declared.scheduler.Kernel.{Kernel}
use Rattle.kernel.specs.declared.scheduler.Value.TheVariants.{YesNo}
use Rattle.kernel.specs.declared.scheduler.Answer.{Answer}
use Rattle.kernel.specs.Control.{entered}
use Rattle.kernel.specs.WaitQueue.{head, popped}
use Rattle.kernel.specs.Kernel.{at, slot_of}
use Rattle.kernel.specs.Scheduler.{wake, wakes, Waking, drop_heads, wake_one}
use Rattle.kernel.specs.Calls.{accepted}
use Rattle.kernel.proofs.Queue.{popped_length}
use Rattle.leaf_table.proofs.Laws.{slot_tells, slot_wakes}
use Rattle.leaf_wake.specs.declared.internal.Woken.{Woken}
use Rattle.leaf_wake.specs.Woken.{WakesOne}

-- ---- a queue that is not empty

more : (n : ℕ) → (n ≡ 0 → ⊥) → n ≡ suc (n - 1)
more n h = omega arith

-- turn i of n, as many being left as wait
pub waits : (m i n : ℕ) → m + i ≡ n → i < n → m ≡ 0 → ⊥
waits m i n e h z = omega arith

pub fewer : (q p : WaitQueue) (i n : ℕ) → (q.len ≡ 0 → ⊥) → p ≡ popped q → q.len + i ≡ n → p.len + (i + 1) ≡ n
fewer q p i n h e f = rw e (omega (arith, popped_length q h))

-- ---- whether there is a slot, which is one of the sixteen

pub below_some : (s : Option ℕ) → IfSome s (λ i. i < 16) → ltb (unwrap_or s 16) 16 ≡ is_some s
below_some None b = refl
below_some (Some i) b = lt-ltb i 16 b

-- ---- q₀ wakes whom q wakes

pub passed : (q₀ q p : WaitQueue) (k : Kernel) (s : Option ℕ) → (q.len ≡ 0 → ⊥) → p ≡ popped q → unwrap_or s 16 ≡ (if wakes (head q) k then slot_of k (head q) otherwise 16) → IfSome s (λ i. i < 16) → is_some s ≡ false → wake_one q k ≡ wake_one q₀ k → wake_one p k ≡ wake_one q₀ k
unfolding drop_heads if◌then◌otherwise◌
passed q₀ q p k s h e g b l i =
    let f : wakes (head q) k ≡ false = sym (slot_tells k (head q) _ g) ∙ below_some s b ∙ l in
    sym (ap (λ (n : ℕ). drop_heads n q k) (more _ h) ∙ rw (f, e, popped_length q h)) ∙ i

says : (q₀ : WaitQueue) (k : Kernel) (p : WaitQueue) (s : Option ℕ) (w : Waking) → w ≡ wake_one q₀ k → p ≡ w.waiters → IfSome s (λ i. i < 16) → (if ltb (unwrap_or s 16) 16 then at (unwrap_or s 16) (entered Ready) k otherwise k) ≡ w.kernel → is_some s ≡ w.woke → WakesOne (record { waiters = p; slot = s }) q₀ k
says q₀ k p s w i e b f g = record { waiters = e ∙ ap (λ (x : Waking). x.waiters) i; below = b; kernel = f ∙ ap (λ (x : Waking). x.kernel) i; woke = g ∙ ap (λ (x : Waking). x.woke) i }

pub found : (q₀ q p : WaitQueue) (k : Kernel) (s : Option ℕ) → (q.len ≡ 0 → ⊥) → p ≡ popped q → unwrap_or s 16 ≡ (if wakes (head q) k then slot_of k (head q) otherwise 16) → IfSome s (λ i. i < 16) → is_some s ≡ true → wake_one q k ≡ wake_one q₀ k → WakesOne (record { waiters = p; slot = s }) q₀ k
unfolding drop_heads if◌then◌otherwise◌
found q₀ q p k s h e g b l i =
    let f : wakes (head q) k ≡ true = sym (slot_tells k (head q) _ g) ∙ below_some s b ∙ l in
    let woken : wake_one q k ≡ record { waiters = popped q; kernel = wake (head q) k; woke = true } = ap (λ (n : ℕ). drop_heads n q k) (more _ h) ∙ rw f in
    says q₀ k p s _ (sym woken ∙ i) e b (slot_wakes k (head q) _ g) l

pub nobody : (q₀ q : WaitQueue) (k : Kernel) → q.len ≡ 0 → wake_one q k ≡ wake_one q₀ k → WakesOne (record { waiters = q; slot = None }) q₀ k
unfolding drop_heads if◌then◌otherwise◌
nobody q₀ q k e i = says q₀ k q None _ (sym (ap (λ (n : ℕ). drop_heads n q k) e) ∙ i) refl tt refl refl

-- ---- the answer of a release or a signal: what is put into the object stands beside the tasks

pub answered : (put : Kernel → Kernel) (q : WaitQueue) (k : Kernel) (w : Woken) (r : Answer) → at (unwrap_or w.slot 16) (entered Ready) (put k) ≡ put (at (unwrap_or w.slot 16) (entered Ready) k) → WakesOne w q k
    → r ≡ accepted (YesNo (ltb (unwrap_or w.slot 16) 16)) (if ltb (unwrap_or w.slot 16) 16 then at (unwrap_or w.slot 16) (entered Ready) (put k) otherwise put k) → r ≡ accepted (YesNo (wake_one q k).woke) (put (wake_one q k).kernel)
answered put q k w r beside is e =
    let i = unwrap_or w.slot 16 in
    rw (← is.woke, ← is.kernel, ← below_some w.slot is.below, through put (ltb i 16) (at i (entered Ready) k) k, ← beside) e
