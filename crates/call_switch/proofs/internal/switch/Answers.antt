-- Refused; and what passed the checks is whole.
use Rattle.kernel.specs.Calls
use Rattle.kernel.proofs.Accepted.{accepted_is}
use Rattle.kernel.proofs.Refusal.{accepted_number}
use Rattle.kernel.proofs.Step.{step_refused}
use Rattle.call_switch.proofs.internal.switch.Goals as goal

pub returns-in-Err : goal.returns-in-Err
returns-in-Err c = step_refused _ (Calls.switch _ _) _ _ _ c.check_switch.ensures c.in-Err.is c.refused_by.ensures

pub switched-requires : goal.switched-requires
switched-requires c = (accepted_is _ (Calls.switch _ _) (accepted_number _ _ _ c.check_switch.ensures c.in_default.is)).current_slot
