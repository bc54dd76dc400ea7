-- Started first, in a kernel that is whole, so that current is a slot; then the task that is waited for.
use Rattle.std.proofs.Common.{drop, refl}
use Rattle.kernel.specs.Calls.{wait, checks, number}
use Rattle.kernel.proofs.Checks.{failed_early, passed_early}
use Rattle.leaf_table.proofs.Laws.{started_checks, passed_started}
use Rattle.call_wait.proofs.check_wait.Goals as goal

pub returns-in_err-check_started-clause-number : goal.returns-in_err-check_started-clause-number
unfolding number
returns-in_err-check_started-clause-number c =
    failed_early (started_checks c.args.k.now) (drop 1 (checks c.args.k.now (wait c.args.id))) _ _ c.from_residual.ensures.1 c.in_err-check_started.ensures

pub check_target-requires : goal.check_target-requires
check_target-requires c = (passed_started _ c.in_ok-check_started.ensures).current_slot

pub returns-clause-number : goal.returns-clause-number
unfolding number
returns-clause-number c =
    passed_early (started_checks c.args.k.now) (drop 1 (checks c.args.k.now (wait c.args.id))) _ refl c.in_ok-check_started.ensures c.check_target.ensures.number
