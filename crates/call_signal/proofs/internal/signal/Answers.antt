-- Refused, and accepted.
use Rattle.kernel.specs.Calls.{signal, number}
use Rattle.kernel.proofs.Step.{step_refused, step_accepted}
use Rattle.leaf_table.proofs.Laws.{passed_object}
use Rattle.call_signal.proofs.internal.signal.Goals as goal

pub returns-in-Err : goal.returns-in-Err
unfolding number
returns-in-Err c = step_refused _ (signal _) _ _ _ c.check_object.ensures c.in-Err.is c.refused_by.ensures

pub signalled-requires : goal.signalled-requires
signalled-requires c = (passed_object _ _ c.in_default.ensures).1

pub returns : goal.returns
unfolding number
returns c = step_accepted _ (signal _) _ _ _ c.check_object.ensures c.in_default.is c.signalled.ensures
