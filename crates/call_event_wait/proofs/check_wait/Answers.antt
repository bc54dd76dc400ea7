-- The checks that it shares, then its own.
use Rattle.std.proofs.Common.{refl, drop}
use Rattle.kernel.specs.Calls.{event_wait, checks, number}
use Rattle.kernel.proofs.Checks.{failed_early, passed_early}
use Rattle.leaf_table.proofs.Laws.{object_checks, passed_started_object}
use Rattle.call_event_wait.proofs.check_wait.Goals as goal

pub returns-in_err-check_started_object : goal.returns-in_err-check_started_object
unfolding number
returns-in_err-check_started_object c =
    let a = c.args in
    failed_early (object_checks a.k.now a.e) (drop 2 (checks a.k.now (event_wait a.e))) _ _
    c.from_residual.ensures.1 c.in_err-check_started_object.ensures

pub check_queue-requires : goal.check_queue-requires
check_queue-requires c = let p = passed_started_object _ _ c.in_ok-check_started_object.ensures in (p.0.current_slot, p.1)

pub returns : goal.returns
unfolding number
returns c =
    let a = c.args in
    passed_early (object_checks a.k.now a.e) (drop 2 (checks a.k.now (event_wait a.e))) _ refl
    c.in_ok-check_started_object.ensures c.check_queue.ensures
