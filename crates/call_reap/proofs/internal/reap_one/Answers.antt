-- What the check says is what the call says; a kernel that passed is whole, so the slot that was found can be reaped.
use Rattle.std.proofs.Common.{sym}
use borrow.Author.Tests.{lt-ltb}
use Rattle.base.specs.Choice.{if◌then◌otherwise◌}
use Rattle.kernel.specs.Scheduler
use Rattle.kernel.specs.Calls.{reap_one, number, value, effect}
use Rattle.kernel.proofs.Accepted.{accepted_whole}
use Rattle.kernel.proofs.Step.{step_refused, step_accepted}
use Rattle.call_reap.proofs.Laws.{can_reap}
use Rattle.call_reap.proofs.internal.reap_one.Goals as goal

pub returns-in-Err : goal.returns-in-Err
unfolding number
returns-in-Err c = step_refused _ reap_one _ _ _ c.check.ensures c.in-Err.is c.refused_by.ensures

pub reaped-requires : goal.reaped-requires
unfolding number
reaped-requires c =
    let h = can_reap _ (accepted_whole _ reap_one (sym c.in_default.ensures)) in
    (c.in-Some.ensures.below, h.0, h.1)

pub returns-in-None : goal.returns-in-None
unfolding number value effect Scheduler.reap_one if◌then◌otherwise◌
returns-in-None c = step_accepted _ reap_one _ _ _ c.check.ensures c.in_default.is (rw (← c.in-None.ensures.place) c.accepted.ensures)

pub returns-in-Some : goal.returns-in-Some
unfolding number value effect Scheduler.reap_one if◌then◌otherwise◌
returns-in-Some c =
    step_accepted _ reap_one _ _ _ c.check.ensures c.in_default.is
    (rw (← c.in-Some.ensures.place, lt-ltb _ 16 c.in-Some.ensures.below) c.reaped.ensures)
