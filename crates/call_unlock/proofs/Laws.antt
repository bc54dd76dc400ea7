-- Current's own id is found in a whole kernel; and one task that owns less leaves the bound on what each owns.
use Prim.Native.Nat.{ℕ, ◌≤◌, ◌<◌}
use native.Mathlib.Omega.{arith}
use mathlib.Core.Path.{◌≡◌, refl}
use mathlib.Core.Bool.{true}
use borrow.Author.Tests.{eq-eqb}
use Rattle.base.proofs.Loops.{lowest_at}
use Rattle.kernel.specs.declared.control.TaskId.{TaskId}
use Rattle.kernel.specs.declared.scheduler.Kernel.{Kernel}
use Rattle.kernel.specs.Kernel.{slot, current, current_task, current_task_id, slot_of, holds_id}
use Rattle.kernel.specs.Scheduler.{owned_down}
use Rattle.kernel.proofs.Whole.{Whole}
use Rattle.kernel.proofs.Tasks.{found_occupied, at_id_each}

pub current_found : (k : Kernel) → Whole k → slot_of k (current_task_id k) < 16
unfolding slot_of
current_found k w =
    let e : holds_id (current_task_id k) (current_task k) ≡ true = rw (w.running, eq-eqb (current_task_id k).0 (current_task_id k).0 refl) in
    omega (arith, lowest_at (λ i. holds_id (current_task_id k) (slot k i)) 16 (current k) e, w.current_slot)

-- what every task owns once one owns less, so what the task of any id owns
pub down_owned : (k : Kernel) (a b : TaskId) → ((i : ℕ) → i < 16 → (slot k i).occupied ≡ true → (slot k i).owned_mutex_count ≤ 4) → slot_of (owned_down a k) b < 16 → (slot (owned_down a k) (slot_of (owned_down a k) b)).owned_mutex_count ≤ 4
down_owned k a b p h = at_id_each (λ t. t.occupied ≡ true → t.owned_mutex_count ≤ 4) k a _ (λ t q o. omega (arith, q o)) p _ h (found_occupied (owned_down a k) b h)
