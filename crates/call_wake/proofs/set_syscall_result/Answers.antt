-- What the check says is what the call says; where it refuses nothing the task is there.
use Rattle.std.proofs.Common.{rules}
use borrow.Author.Tests.{lt-ltb}
use Rattle.base.specs.Choice.{if◌then◌otherwise◌}
use Rattle.kernel.specs.Kernel.{at_id}
use Rattle.kernel.specs.Calls
use Rattle.kernel.specs.Calls.{value, effect}
use Rattle.kernel.proofs.Step.{step_refused, step_accepted}
use Rattle.call_wake.proofs.set_syscall_result.Goals as goal

pub returns-in-Err : goal.returns-in-Err
returns-in-Err c = step_refused _ (Calls.result c.args.id c.args.value) _ _ _ (c.check_result.ensures.number c.args.value) c.in-Err.is c.refused_by.ensures

pub returns-in-Ok : goal.returns-in-Ok
unfolding value effect at_id if◌then◌otherwise◌
returns-in-Ok c =
    step_accepted _ (Calls.result c.args.id c.args.value) _ _ _ (c.check_result.ensures.number c.args.value) c.in-Ok.is
    (rw (← c.in-Ok.ensures.slot, lt-ltb _ 16 c.in-Ok.ensures.below) (search rules))
