-- Charges (02, W-206) in kernels that no list from fresh gets to: what the definitions make of kernels given here, and what was worked out by hand.
use Rattle.std.specs.Prelude.{ℕ, ◌-◌, ◌^◌, ◌≡◌, refl, true, false, List, [], ◌∷◌, ◌++◌, length, replicate}
use Rattle.base.specs.Choice.{if◌then◌otherwise◌, every}
use Rattle.base.specs.Below.{all_below, any_below, count_below, sum_below, lowest_below}
use Rattle.kernel.specs.declared.control.TaskState.TheVariants.{Terminated}
use Rattle.kernel.specs.declared.scheduler.Kernel.{Kernel}
use Rattle.kernel.specs.Update.{with_charges, with_retired_charge, with_tick_count, with_task_count, with_next_id}
use Rattle.kernel.specs.Control.{holds_task, new_task, region_fits, regions_overlap, entered}
use Rattle.kernel.specs.Kernel.{at, charge, slot_of, arena_fits, whole, fresh_kernel}
use Rattle.kernel.specs.Scheduler.{reapable_slot, lowest_empty, overlaps_present}
use Rattle.kernel.specs.Scheduler
use Rattle.kernel.specs.Calls.{Call, add, reap, reap_one, number, value, effect, step}

-- ---- the kernels

-- fresh but for tick_count, the charges of the first slots and the retired sum
unfoldable pub charged : ℕ → List ℕ → ℕ → Kernel
charged now charges retired = with_tick_count now (with_charges (charges ++ replicate (16 - length charges) 0) (with_retired_charge retired (fresh_kernel 1000 2112)))

-- task 1, Terminated, in slot 1
pub ended : Kernel → Kernel
ended k = with_task_count 2 (with_next_id 2 (at 1 (λ _. entered Terminated (new_task (record { 0 = 1 }) (record { 0 = 128 }) (record { start = 8192; size = 16 }))) k))

-- ---- what is seen of them: the number that a call is answered, and after it the charges of slots 0 and 1 and the retired sum

pub seen : Call → Kernel → List ℕ
seen c k = let a = step k c in a.number ∷ charge a.kernel 0 ∷ charge a.kernel 1 ∷ a.kernel.retired_charge ∷ []

-- ---- the cases

-- 1 + 2 + 3 + 4 are 10; one more is too many; so is a retired sum alone
-- 2^63 twice, and 2^64 - 1 with 6, would be 0 and 5 in 64 bits
-- all that 64 bits hold, and one more
pub whole_by_the_sum :
    whole (charged 10 (1 ∷ 2 ∷ 3 ∷ []) 4) ∷ whole (charged 10 (1 ∷ 2 ∷ 3 ∷ []) 5) ∷ whole (charged 10 [] 11)
    ∷ whole (charged (2 ^ 64 - 1) (2 ^ 63 ∷ 2 ^ 63 ∷ []) 0) ∷ whole (charged 5 ((2 ^ 64 - 1) ∷ 6 ∷ []) 0)
    ∷ whole (charged (2 ^ 64 - 1) [] (2 ^ 64 - 1)) ∷ whole (charged (2 ^ 64 - 1) (1 ∷ []) (2 ^ 64 - 1)) ∷ []
    ≡ true ∷ false ∷ false ∷ false ∷ false ∷ true ∷ false ∷ []
unfolding charged if◌then◌otherwise◌ every all_below any_below count_below sum_below lowest_below region_fits arena_fits whole fresh_kernel
whole_by_the_sum = refl

-- reading 41: an empty slot with a charge loses it at add, and the sum falls
-- a reap, and a reap one, move 7 to a sum that is 2^64 - 1 then
pub moved :
    seen (add (replicate 2112 0) (record { 0 = 128 }) (record { start = 8192; size = 16 })) (charged 10 (1 ∷ 3 ∷ []) 5)
    ∷ seen (reap (record { 0 = 1 })) (ended (charged (2 ^ 64 - 1) (0 ∷ 7 ∷ []) (2 ^ 64 - 8)))
    ∷ seen reap_one (ended (charged (2 ^ 64 - 1) (0 ∷ 7 ∷ []) (2 ^ 64 - 8))) ∷ []
    ≡ (0 ∷ 1 ∷ 0 ∷ 5 ∷ []) ∷ (0 ∷ 0 ∷ 0 ∷ (2 ^ 64 - 1) ∷ []) ∷ (0 ∷ 0 ∷ 0 ∷ (2 ^ 64 - 1) ∷ []) ∷ []
unfolding charged ended seen if◌then◌otherwise◌ every all_below any_below count_below sum_below lowest_below holds_task region_fits regions_overlap arena_fits whole fresh_kernel slot_of reapable_slot Scheduler.reap_one lowest_empty overlaps_present Scheduler.add number value effect step
moved = refl
