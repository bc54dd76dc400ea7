-- Refused, and accepted.
use Rattle.std.proofs.Common.{rules, refl, sym}
use Rattle.kernel.specs.Calls.{event_wait, value}
use Rattle.kernel.proofs.Accepted.{accepted_is, accepted_object}
use Rattle.kernel.proofs.Step.{step_refused, step_accepted}
use Rattle.call_event_wait.proofs.internal.wait.Goals as goal

pub returns-in-Err : goal.returns-in-Err
returns-in-Err c = step_refused _ (event_wait _) _ _ _ c.check_wait.ensures c.in-Err.is c.refused_by.ensures

pub offset_bounds-k-e : goal.offset_bounds-k-e
offset_bounds-k-e c =
    let h = accepted_object _ (event_wait _) c.args.e _ (sym c.in_default.ensures) refl in
    search rules

pub bounds-k-e : goal.bounds-k-e
bounds-k-e c = accepted_object _ (event_wait _) _ _ (sym c.in_default.ensures) refl

pub waited-requires : goal.waited-requires
waited-requires c =
    let e = sym c.in_default.ensures in
    ((accepted_is _ (event_wait _) e).current_slot, accepted_object _ (event_wait _) _ _ e refl)

pub returns : goal.returns
unfolding value
returns c =
    step_accepted _ (event_wait _) _ _ _ c.check_wait.ensures c.in_default.is
    (rw (c.accepted.ensures, c.waited.ensures))
