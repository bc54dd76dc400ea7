-- Refused.
use Rattle.kernel.specs.Calls
use Rattle.kernel.proofs.Step.{step_refused}
use Rattle.call_timer.proofs.ticks_to_ms.Goals as goal

pub returns-in-Err : goal.returns-in-Err
returns-in-Err c = step_refused _ (Calls.ticks_to_ms _) _ _ _ c.check_ms.ensures.number c.in-Err.is c.refused_by.ensures
