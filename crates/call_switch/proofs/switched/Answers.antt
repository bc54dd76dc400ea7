-- By the contracts of `context_saved`, `picked`, `reloaded` and `entered`, put together once for any kernel.
use Rattle.std.proofs.Common.{◌≡◌, ℕ, set, ap, ◌∙◌}
use Rattle.kernel.specs.declared.control.SlotIndex.{SlotIndex}
use Rattle.kernel.specs.declared.control.TaskControl.{TaskControl}
use Rattle.kernel.specs.declared.control.TaskState.TheVariants.{Running}
use Rattle.kernel.specs.declared.scheduler.Kernel.{Kernel}
use Rattle.kernel.specs.declared.scheduler.Value.TheVariants.{Turn}
use Rattle.kernel.specs.Update.{with_tasks, with_current}
use Rattle.kernel.specs.Control.{entered}
use Rattle.kernel.specs.Kernel.{slot, current, current_task}
use Rattle.kernel.specs.Scheduler
use Rattle.kernel.specs.Scheduler.{next_task, context_saved, reloaded, save_context}
use Rattle.kernel.specs.Calls.{accepted, picked}
use Rattle.call_switch.proofs.switched.Goals as goal

slot_is : (s : SlotIndex) (n : ℕ) → s.0 ≡ n → s ≡ record { 0 = n }
slot_is s n e = ap index e
  where
    index : ℕ → SlotIndex
    index m = record { 0 = m }

-- what was current saved, and then what was picked made Running
abbrev with_saved : Kernel → TaskControl → Kernel
with_saved k saved = with_tasks (set k.tasks (current k) saved) k

turned : (k : Kernel) (sp : ℕ) (saved full next : TaskControl) (s : SlotIndex)
    → saved ≡ context_saved sp (current_task k) → s.0 ≡ next_task (with_saved k saved)
    → full ≡ reloaded (slot (with_saved k saved) s.0) → next ≡ entered Running full
    → accepted (Turn s (slot (with_saved k saved) s.0).sp) (with_current s.0 (with_tasks (set (with_saved k saved).tasks s.0 next) k))
    ≡ accepted (picked (save_context sp k)) (Scheduler.switch sp k)
unfolding Scheduler.switch
turned k sp saved full next s a b c d = rw (d, c, slot_is s _ b, a)

pub returns : goal.returns
returns c =
    c.accepted.ensures ∙ turned _ _ _ _ _ _ c.context_saved.ensures c.picked-slot.ensures.0 c.reloaded.ensures c.entered.ensures
