-- An add and a reap clear the charge of one slot, and a reap moves it: read off their effects.
use Prim.Native.Nat.{ℕ, ◌+◌}
use native.Mathlib.Omega.{arith}
use mathlib.Core.Path.{◌≡◌, refl}
use lib.ListN.{set}
use lib.Seq.{get_or-set_other}
use borrow.Author.Tests.{ltb-true, ltb-false}
use lib.Dec.{ltb}
use Rattle.base.proofs.Choices.{either}
use Rattle.base.proofs.Loops.{set_default}
use Rattle.kernel.specs.declared.scheduler.Kernel.{Kernel}
use Rattle.kernel.specs.declared.scheduler.Answer.{Answer}
use Rattle.kernel.specs.Kernel.{charge, slot_of}
use Rattle.kernel.specs.Scheduler.{lowest_empty, reapable_slot}
use Rattle.kernel.specs.Scheduler
use Rattle.kernel.specs.Calls.{Call, add, reap, reap_one, step, effect}
use Rattle.book_guarantees.specs.Charges.{Cleared, MoveGuarantee}
use Rattle.book_guarantees.proofs.Wakings.{accepts, of_step}

-- a kernel whose charges are those of k but for a 0
cleared : (k k' : Kernel) (i more : ℕ) → k'.charges ≡ set k.charges i 0 → k'.retired_charge ≡ k.retired_charge + more → Cleared k k' i more
cleared k k' i more c r = record { zero = rw c (set_default 0 k.charges i); retired = r; others = λ j n. rw c (get_or-set_other k.charges i j 0 0 n) }

did : (k : Kernel) (c : Call) (i more : ℕ) → (step k c).number ≡ 0 → Cleared k (effect k c) i more → Cleared k (step k c).kernel i more
did k c i more z = of_step (λ (a : Answer). Cleared k a.kernel i more) k c (accepts k c z)

pub move_guarantee : MoveGuarantee
unfolding effect Scheduler.add Scheduler.reap_one
move_guarantee k = record {
  add_clears = λ arena p r z. did k (add arena p r) (lowest_empty k) 0 z (cleared k (Scheduler.add p r k) (lowest_empty k) 0 refl (omega arith));
  reap_moves = λ a z. did k (reap a) (slot_of k a) _ z (cleared k (Scheduler.emptied (slot_of k a) k) (slot_of k a) _ refl refl);
  reap_one_moves = λ z h. did k reap_one (reapable_slot k) _ z
      (either (λ (x : Kernel). Cleared k x (reapable_slot k) (charge k (reapable_slot k))) (ltb (reapable_slot k) 16) (λ _. cleared k (Scheduler.emptied (reapable_slot k) k) (reapable_slot k) _ refl refl) (λ n. absurd (omega (arith, ltb-false (reapable_slot k) 16 n))));
  reap_one_none = λ z h. of_step (λ (a : Answer). a.kernel ≡ k) k reap_one (accepts k reap_one z)
      (either (λ (x : Kernel). x ≡ k) (ltb (reapable_slot k) 16) (λ l. absurd (omega (arith, h, ltb-true (reapable_slot k) 16 l))) (λ _. refl));
}
