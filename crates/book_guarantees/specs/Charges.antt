-- What the book says of charges (02, W-206): after every list of calls from fresh, those of occupied slots and the retired sum add up to the ticks accepted
-- after the start, and an empty slot has none.
use Rattle.std.specs.Prelude.{◌≡◌, false, List, ◌≢◌, ℕ, ◌+◌, ◌<◌}
use Rattle.base.specs.Choice.{if◌then◌otherwise◌}
use Rattle.base.specs.Below.{sum_below}
use Rattle.kernel.specs.declared.control.TaskId.{TaskId}
use Rattle.kernel.specs.declared.control.Priority.{Priority}
use Rattle.kernel.specs.declared.control.StackRegion.{StackRegion}
use Rattle.kernel.specs.declared.scheduler.Kernel.{Kernel}
use Rattle.kernel.specs.Kernel.{slot, slot_of, charge, is_occupied}
use Rattle.kernel.specs.Scheduler.{lowest_empty, reapable_slot}
use Rattle.kernel.specs.Calls.{add, reap, reap_one, step, init, init_number}
use Rattle.book_guarantees.specs.Lists.{Entry, Returned, end, ticks_after_start}

-- "the charges of occupied slots", added up
abbrev pub occupied_charges : Kernel → ℕ
occupied_charges k = sum_below (λ i. if is_occupied k i then charge k i otherwise 0) 16

-- of kernel k, where so many ticks were accepted after the start
pub record Charges (k : Kernel) (ticks : ℕ) : Type 0 where
  pub add_up : occupied_charges k + k.retired_charge ≡ ticks
  pub empty : (i : ℕ) → (slot k i).occupied ≡ false → charge k i ≡ 0

-- "For every list from fresh, the charges of occupied slots and the retired sum add up to the ticks accepted after the start."
abbrev pub ChargeGuarantee : Type 0
ChargeGuarantee =
    (hz words : ℕ) → init_number hz words ≡ 0
    → (list : List Entry) → Returned (init hz words).kernel list
    → Charges (end (init hz words).kernel list) (ticks_after_start list)

-- ---- add and reap

-- slot i's charge is 0 in k', so much has gone into the retired sum, and every other charge is as in k
pub record Cleared (k k' : Kernel) (i more : ℕ) : Type 0 where
  pub zero : charge k' i ≡ 0
  pub retired : k'.retired_charge ≡ k.retired_charge + more
  pub others : (j : ℕ) → j ≢ i → charge k' j ≡ charge k j

-- "A slot's charge starts at 0 when a task is added. Reaping moves it into one retired sum": of every kernel
pub record Moves (k : Kernel) : Type 0 where
  pub add_clears : (arena : List ℕ) (p : Priority) (r : StackRegion) → (step k (add arena p r)).number ≡ 0
      → Cleared k (step k (add arena p r)).kernel (lowest_empty k) 0
  pub reap_moves : (a : TaskId) → (step k (reap a)).number ≡ 0
      → Cleared k (step k (reap a)).kernel (slot_of k a) (charge k (slot_of k a))
  pub reap_one_moves : (step k reap_one).number ≡ 0 → reapable_slot k < 16
      → Cleared k (step k reap_one).kernel (reapable_slot k) (charge k (reapable_slot k))
  pub reap_one_none : (step k reap_one).number ≡ 0 → reapable_slot k ≡ 16 → (step k reap_one).kernel ≡ k

abbrev pub MoveGuarantee : Type 0
MoveGuarantee = (k : Kernel) → Moves k
