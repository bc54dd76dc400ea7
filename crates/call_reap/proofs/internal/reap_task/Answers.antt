-- What the check says is what the call says, and where it refuses nothing the kernel is whole, so the task can be reaped.
use Rattle.std.proofs.Common.{sym}
use Rattle.kernel.specs.Calls.{reap}
use Rattle.kernel.proofs.Accepted.{accepted_whole}
use Rattle.kernel.proofs.Step.{step_refused}
use Rattle.call_reap.proofs.Laws.{can_reap}
use Rattle.call_reap.proofs.internal.reap_task.Goals as goal

pub reaped-requires : goal.reaped-requires
reaped-requires c =
    let h = can_reap _ (accepted_whole _ (reap _) (sym c.in-Ok.ensures.number)) in
    (c.in-Ok.ensures.below, h.0, h.1)

pub returns-in-Err : goal.returns-in-Err
returns-in-Err c = step_refused _ (reap c.args.id) _ _ _ c.check_reap.ensures.number c.in-Err.is c.refused_by.ensures
