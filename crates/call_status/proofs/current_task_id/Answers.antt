-- What the check says is what the call says, and a kernel that passed is whole, so current is a slot.
use Rattle.kernel.specs.Calls
use Rattle.kernel.specs.Calls.{number}
use Rattle.kernel.proofs.Step.{step_refused}
use Rattle.leaf_table.proofs.Laws.{passed_started}
use Rattle.call_status.proofs.current_task_id.Goals as goal

pub returns-in-Err : goal.returns-in-Err
unfolding number
returns-in-Err c = step_refused _ Calls.current_id _ _ _ c.check_started.ensures c.in-Err.is c.refused_by.ensures

pub current_id-requires : goal.current_id-requires
current_id-requires c = (passed_started _ c.in_default.ensures).current_slot
