-- Refused, and what an accepted call tells.
use Rattle.std.proofs.Common.{rules, refl}
use Rattle.kernel.specs.Calls.{unlock}
use Rattle.kernel.proofs.Refusal.{accepted_number}
use Rattle.kernel.proofs.Step.{step_refused}
use Rattle.kernel.proofs.Accepted.{accepted_is, accepted_object}
use Rattle.call_unlock.proofs.internal.unlock.Goals as goal

pub returns-in-Err : goal.returns-in-Err
returns-in-Err c = step_refused _ (unlock _) _ _ _ c.check_unlock.ensures c.in-Err.is c.refused_by.ensures

pub offset_bounds-k-m : goal.offset_bounds-k-m
offset_bounds-k-m c =
    let h = accepted_object _ (unlock _) c.args.m _ (accepted_number _ _ _ c.check_unlock.ensures c.in_default.is) refl in
    search rules

pub bounds-k-m : goal.bounds-k-m
bounds-k-m c = accepted_object _ (unlock _) _ _ (accepted_number _ _ _ c.check_unlock.ensures c.in_default.is) refl

pub unlocked-requires : goal.unlocked-requires
unlocked-requires c =
    let e = accepted_number _ _ _ c.check_unlock.ensures c.in_default.is in
    let w = accepted_is _ (unlock _) e in
    (w.current_slot, accepted_object _ (unlock _) _ _ e refl, w.owned)
