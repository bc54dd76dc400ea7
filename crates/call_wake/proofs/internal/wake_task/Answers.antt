-- What the check says is what the call says.
use Rattle.kernel.specs.Calls.{wake, number}
use Rattle.kernel.proofs.Step.{step_refused}
use Rattle.call_wake.proofs.internal.wake_task.Goals as goal

pub returns-in-Err : goal.returns-in-Err
unfolding number
returns-in-Err c = step_refused _ (wake c.args.id) _ _ _ c.check.ensures c.in-Err.is c.refused_by.ensures
