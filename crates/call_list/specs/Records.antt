-- The records that `list_up_to` lends, and the number of a list call by how many are lent.
use Rattle.std.specs.Prelude.{ℕ, ◌≡◌, List, length}
use Rattle.kernel.specs.declared.control.TaskInfo.{TaskInfo}
use Rattle.kernel.specs.declared.control.TaskState.TheVariants.{Ready}
use Rattle.kernel.specs.declared.scheduler.Kernel.{Kernel}
use Rattle.kernel.specs.Calls.{list, number}

-- all zero
abbrev pub blank_info : TaskInfo
blank_info = record { id = record { 0 = 0 }; state = Ready; priority = record { 0 = 0 }; stack_used = 0; stack_total = 0 }

-- whatever records are lent, `room` of them
abbrev pub NumberFor : Kernel → List ℕ → ℕ → ℕ → Type 0
NumberFor k arena room n = (records : List TaskInfo) → length records ≡ room → n ≡ number k (list arena records)
