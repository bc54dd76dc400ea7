-- Ranks put for the own numbers, slot by slot; a pick by the numbers is then the pick by rank.
use Prim.Native.Nat.{ℕ, ◌+◌, ◌≤◌, ◌<◌}
use native.Mathlib.Omega.{arith}
use mathlib.Core.Path.{◌≡◌, refl, sym, ap, ◌∙◌}
use mathlib.Core.Bool.{true}
use mathlib.Core.List.{List}
use lib.ListN.{length, get_or, set, length-set}
use Rattle.base.proofs.Loops.{set_more, set_each}
use Rattle.kernel.specs.declared.control.TaskControl.{TaskControl}
use Rattle.kernel.specs.declared.control.TaskState.TheVariants.{Ready}
use Rattle.kernel.specs.declared.scheduler.Kernel.{Kernel}
use Rattle.kernel.specs.Control.{holds_task, blank_slot}
use Rattle.kernel.specs.Kernel.{current}
use Rattle.kernel.specs.Rank.{priority_of, rank, no_queues}
use Rattle.kernel.specs.Scheduler.{pick, is_ready, next_task}
use Rattle.kernel.proofs.Pick.{pick_same}
use Rattle.kernel.proofs.Rank.{rank_own}
use Rattle.leaf_rank.specs.Inherited.{Each}
use Rattle.pick.specs.Ranked.{Ranked}

pub ranked_none : (k : Kernel) → length k.tasks ≡ 16 → Ranked k k 0
ranked_none k e = record { slots = e; same_current = refl; ready = λ i. refl; number = λ i h. absurd (omega arith) }

-- slot i of k' becomes t
pub ranked_more : (k k' k'' : Kernel) (ranks : List ℕ) (i : ℕ) (t : TaskControl) → Each 16 (rank k) ranks → Ranked k k' i → i < 16 → k''.tasks ≡ set k'.tasks i t → current k'' ≡ current k'
    → holds_task Ready t ≡ is_ready k' i → t.priority.0 ≡ get_or ranks i 0 → Ranked k k'' (i + 1)
ranked_more k k' k'' ranks i t e r h tasks now ready number = record {
  slots = ap length tasks ∙ length-set k'.tasks i t ∙ r.slots;
  same_current = now ∙ r.same_current;
  ready = λ j. rw tasks (set_each (λ x u. holds_task Ready u ≡ is_ready k' x) blank_slot k'.tasks i t ready (λ _. refl) j) ∙ r.ready j;
  number = rw tasks (set_more (λ x u. u.priority.0 ≡ rank k x) blank_slot k'.tasks i t (omega (arith, r.slots)) r.number (number ∙ e.each i h));
}

pub ranked_done : (k k' : Kernel) (n : ℕ) → n ≤ 16 → Ranked k k' n → 16 ≤ n → Ranked k k' 16
ranked_done k k' n b r h = let e : n ≡ 16 = omega arith in rw e at r

pub ranked_pick : (k k' : Kernel) → Ranked k k' 16 → pick (is_ready k') (priority_of k') (current k') ≡ next_task k
ranked_pick k k' r = rw r.same_current (pick_same (is_ready k') (is_ready k) (priority_of k') (rank k) (λ i _. r.ready i) (λ i h _. r.number i h) (current k))

-- and without ranks where no mutex has a queue
pub number_pick : (k : Kernel) → no_queues k ≡ true → pick (is_ready k) (priority_of k) (current k) ≡ next_task k
number_pick k e = pick_same (is_ready k) (is_ready k) (priority_of k) (rank k) (λ _ _. refl) (λ i _ _. sym (rank_own k e i)) (current k)
