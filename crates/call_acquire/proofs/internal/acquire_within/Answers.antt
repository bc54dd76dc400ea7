-- Refused, and accepted.
use Rattle.std.proofs.Common.{refl, sym}
use Rattle.kernel.specs.Calls.{acquire_within, value}
use Rattle.kernel.proofs.Accepted.{accepted_is, accepted_object}
use Rattle.kernel.proofs.Step.{step_refused, step_accepted}
use Rattle.call_acquire.proofs.internal.acquire_within.Goals as goal

pub returns-in-Err : goal.returns-in-Err
returns-in-Err c = step_refused _ (acquire_within _ _) _ _ _ c.check_acquire_within.ensures c.in-Err.is c.refused_by.ensures

pub has_permit-got-requires : goal.has_permit-got-requires
has_permit-got-requires c = accepted_object _ (acquire_within _ _) _ _ (sym c.in_default.ensures) refl

pub acquired_within-requires : goal.acquired_within-requires
acquired_within-requires c =
    let e = sym c.in_default.ensures in
    ((accepted_is _ (acquire_within _ _) e).current_slot, accepted_object _ (acquire_within _ _) _ _ e refl)

pub returns : goal.returns
unfolding value
returns c =
    step_accepted _ (acquire_within _ _) _ _ _ c.check_acquire_within.ensures c.in_default.is
    (rw (c.accepted.ensures, c.acquired_within.ensures, c.has_permit-got.ensures))
