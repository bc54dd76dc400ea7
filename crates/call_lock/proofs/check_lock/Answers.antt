-- The checks that it shares, then its own.
use Rattle.std.proofs.Common.{refl, drop}
use Rattle.kernel.specs.Calls.{lock, checks, number}
use Rattle.kernel.proofs.Checks.{failed_early, passed_early}
use Rattle.leaf_table.proofs.Laws.{object_checks, passed_started_object}
use Rattle.call_lock.proofs.check_lock.Goals as goal

pub returns-in_err-check_started_object : goal.returns-in_err-check_started_object
unfolding number
returns-in_err-check_started_object c =
    let a = c.args in
    failed_early (object_checks a.k.now a.m) (drop 2 (checks a.k.now (lock a.m))) _ _ c.from_residual.ensures.1 c.in_err-check_started_object.ensures

pub check_owner-requires : goal.check_owner-requires
check_owner-requires c =
    let p = passed_started_object c.args.k.now c.args.m c.in_ok-check_started_object.ensures in
    (p.0.current_slot, p.1)

pub returns : goal.returns
unfolding number
returns c =
    let a = c.args in
    passed_early (object_checks a.k.now a.m) (drop 2 (checks a.k.now (lock a.m))) _ refl c.in_ok-check_started_object.ensures c.check_owner.ensures
