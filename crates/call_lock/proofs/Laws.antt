-- Current's task owns at most four mutexes in a whole kernel.
use Prim.Native.Nat.{◌≤◌, ◌<◌}
use Rattle.kernel.specs.declared.scheduler.Kernel.{Kernel}
use Rattle.kernel.specs.Kernel.{slot, current_task_id, slot_of}
use Rattle.kernel.proofs.Whole.{Whole}
use Rattle.kernel.proofs.Tasks.{found_occupied}

pub current_owned : (k : Kernel) → Whole k → slot_of k (current_task_id k) < 16 → (slot k (slot_of k (current_task_id k))).owned_mutex_count ≤ 4
current_owned k w h = w.owned _ h (found_occupied k (current_task_id k) h)
