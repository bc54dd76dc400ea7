-- What the check says is what the call says, and where it refuses nothing the kernel is whole, so current is a slot.
use Rattle.std.proofs.Common.{sym}
use Rattle.kernel.specs.Calls
use Rattle.kernel.proofs.Accepted.{accepted_is}
use Rattle.kernel.proofs.Step.{step_refused}
use Rattle.call_status.proofs.internal.set_current_task_status.Goals as goal

pub set_status-requires : goal.set_status-requires
set_status-requires c = (accepted_is _ (Calls.status _) (sym c.in-Ok.ensures.number)).current_slot

pub returns-in-Err : goal.returns-in-Err
returns-in-Err c = step_refused _ (Calls.status _) _ _ _ c.check_status.ensures.number c.in-Err.is c.refused_by.ensures
