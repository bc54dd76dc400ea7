-- What the check says is what the call says, and where it refuses nothing the kernel is whole, so current is a slot, and the target was found.
use Rattle.std.proofs.Common.{sym}
use Rattle.kernel.specs.Calls.{wait}
use Rattle.kernel.proofs.Accepted.{accepted_is, wait_found}
use Rattle.kernel.proofs.Step.{step_refused}
use Rattle.call_wait.proofs.internal.wait_task.Goals as goal

pub waited-requires : goal.waited-requires
waited-requires c =
    let e = sym c.in-Ok.ensures.number in
    ((accepted_is _ (wait _) e).current_slot, c.in-Ok.ensures.slot, wait_found _ _ e)

pub returns-in-Err : goal.returns-in-Err
returns-in-Err c = step_refused _ (wait c.args.id) _ _ _ c.check_wait.ensures.number c.in-Err.is c.refused_by.ensures
