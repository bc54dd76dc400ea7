-- Refused, and accepted.
use Rattle.std.proofs.Common.{refl, sym}
use Rattle.kernel.specs.Calls.{release}
use Rattle.kernel.proofs.Accepted.{accepted_object}
use Rattle.kernel.proofs.Step.{step_refused, step_accepted}
use Rattle.call_release.proofs.Laws.{release_count}
use Rattle.call_release.proofs.internal.release.Goals as goal

pub returns-in-Err : goal.returns-in-Err
returns-in-Err c = step_refused _ (release _) _ _ _ c.check_release.ensures c.in-Err.is c.refused_by.ensures

pub released-requires : goal.released-requires
released-requires c =
    let e = sym c.in-Ok.ensures in
    (accepted_object _ (release _) _ _ e refl, release_count _ _ e)

pub returns-in-Ok : goal.returns-in-Ok
returns-in-Ok c = step_accepted _ (release _) _ _ _ c.check_release.ensures c.in-Ok.is c.released.ensures
