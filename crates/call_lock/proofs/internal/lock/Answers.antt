-- Refused, and what an accepted call tells.
use Rattle.std.proofs.Common.{refl}
use Rattle.kernel.specs.Calls.{lock}
use Rattle.kernel.proofs.Refusal.{accepted_number}
use Rattle.kernel.proofs.Step.{step_refused}
use Rattle.kernel.proofs.Accepted.{accepted_is, accepted_object}
use Rattle.call_lock.proofs.Laws.{current_owned}
use Rattle.call_lock.proofs.internal.lock.Goals as goal

pub returns-in-Err : goal.returns-in-Err
returns-in-Err c = step_refused _ (lock _) _ _ _ c.check_lock.ensures c.in-Err.is c.refused_by.ensures

pub lock_got-requires : goal.lock_got-requires
lock_got-requires c =
    let e = accepted_number _ _ _ c.check_lock.ensures c.in_default.is in
    ((accepted_is _ (lock _) e).current_slot, accepted_object _ (lock _) _ _ e refl)

pub locked-requires : goal.locked-requires
locked-requires c =
    let e = accepted_number _ _ _ c.check_lock.ensures c.in_default.is in
    let w = accepted_is _ (lock _) e in
    (w.current_slot, accepted_object _ (lock _) _ _ e refl, current_owned _ w)
