-- The line that `tables` prints for a kernel: the whole table in decimal.
use Rattle.std.specs.Prelude.{ℕ, Bool, true, List, [], ◌∷◌, ◌++◌, decimal}
use Rattle.std.specs.Fmt.{signed_decimal}
use Rattle.base.specs.Choice.{if◌then◌otherwise◌}
use Rattle.kernel.specs.declared.control.LimitObject.{LimitObject}
use Rattle.kernel.specs.declared.control.LimitObject.TheVariants.{NoLimit, AtSemaphore, AtEvent}
use Rattle.kernel.specs.declared.control.TaskControl.{TaskControl}
use Rattle.kernel.specs.declared.scheduler.Kernel.{Kernel}
use Rattle.kernel.specs.Control.{state_number}
use Rattle.kernel.specs.Kernel.{slot, charge, current}
use Rattle.kernel.specs.Rank.{rank}
use Rattle.line_objects.specs.ObjectsLine.{joined, comma, flag, id_field, bar, all_objects}

-- ---- pieces

-- a comma and the number
abbrev pub field : ℕ → List ℕ
field n = comma ++ decimal n

-- ---- slots

-- slot, id, state, priority, wake_tick, time_slice, remaining_slice, owned, waiter, start, size, sp, result
unfoldable pub slot_text : ℕ → TaskControl → List ℕ
slot_text i t =
    decimal i ++ field t.id.0 ++ field (state_number t.state) ++ field t.priority.0
    ++ field t.wake_tick ++ field t.time_slice ++ field t.remaining_slice ++ field t.owned_mutex_count
    ++ id_field t.waiter ++ field t.stack.start ++ field t.stack.size ++ field t.sp
    ++ comma ++ signed_decimal t.result

-- a text of each occupied slot, joined by `;`
abbrev pub occupied_text : (ℕ → TaskControl → List ℕ) → Kernel → List ℕ
occupied_text text k = joined 59 (λ i. (slot k i).occupied) (λ i. text i (slot k i)) 16

-- ---- the rest of the scheduler

-- tick_count, started, current, task_count, next_id
unfoldable pub scheduler_text : Kernel → List ℕ
scheduler_text k = decimal k.tick_count ++ comma ++ flag k.started ++ field (current k) ++ field k.task_count ++ field k.next_id

-- ---- charges

unfoldable pub charges_text : Kernel → List ℕ
charges_text k = joined 44 (λ i. true) (λ i. decimal (charge k i)) 16

-- ---- limits

-- kind, `s` or `e`, object and limit, each after a comma; without a limit `-` for each
unfoldable pub kept_text : LimitObject → ℕ → List ℕ
kept_text NoLimit tick = 44 ∷ 45 ∷ 44 ∷ 45 ∷ 44 ∷ 45 ∷ []
kept_text (AtSemaphore s) tick = (44 ∷ 115 ∷ []) ++ field s ++ field tick
kept_text (AtEvent e) tick = (44 ∷ 101 ∷ []) ++ field e ++ field tick

-- slot, kind, object, limit, ended
unfoldable pub limit_text : ℕ → TaskControl → List ℕ
limit_text i t = decimal i ++ kept_text t.limit_object t.limit_tick ++ comma ++ flag t.limit_passed

-- ---- ranks

-- `-` for an empty slot
unfoldable pub rank_text : Bool → ℕ → List ℕ
rank_text occupied number = if occupied then decimal number otherwise 45 ∷ []

unfoldable pub ranks_text : Kernel → List ℕ
ranks_text k = joined 44 (λ i. true) (λ i. rank_text (slot k i).occupied (rank k i)) 16

-- ---- the line; its last segment is the retired sum

unfoldable pub table_line : Kernel → List ℕ
table_line k =
    occupied_text slot_text k ++ bar ++ scheduler_text k ++ bar ++ all_objects k ++ bar ++ charges_text k
    ++ bar ++ occupied_text limit_text k ++ bar ++ ranks_text k ++ bar ++ decimal k.retired_charge ++ (10 ∷ [])
