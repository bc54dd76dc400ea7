-- Refused, and accepted.
use Rattle.kernel.specs.Calls.{try_acquire, number, value}
use Rattle.kernel.proofs.Step.{step_refused, step_accepted}
use Rattle.leaf_table.proofs.Laws.{passed_object}
use Rattle.call_acquire.proofs.internal.try_acquire.Goals as goal

pub returns-in-Err : goal.returns-in-Err
unfolding number
returns-in-Err c = step_refused _ (try_acquire _) _ _ _ c.check_object.ensures c.in-Err.is c.refused_by.ensures

pub has_permit-got-requires : goal.has_permit-got-requires
has_permit-got-requires c = (passed_object _ _ c.in_default.ensures).1

pub tried-requires : goal.tried-requires
tried-requires c = (passed_object _ _ c.in_default.ensures).1

pub returns : goal.returns
unfolding number value
returns c =
    step_accepted _ (try_acquire _) _ _ _ c.check_object.ensures c.in_default.is
    (rw (c.accepted.ensures, c.tried.ensures, c.has_permit-got.ensures))
