-- Where nothing refuses the call the kernel is whole, so current is a slot.
use Rattle.std.proofs.Common.{sym}
use Rattle.kernel.specs.Calls.{exit}
use Rattle.kernel.proofs.Accepted.{accepted_is}
use Rattle.kernel.proofs.Step.{step_refused}
use Rattle.call_exit.proofs.internal.exit_current_task.Goals as goal

pub returns-in-Err : goal.returns-in-Err
returns-in-Err c = step_refused _ exit _ _ _ c.check_exit.ensures c.in-Err.is c.refused_by.ensures

pub exited-requires : goal.exited-requires
exited-requires c = (accepted_is _ exit (sym c.in_default.ensures)).current_slot
