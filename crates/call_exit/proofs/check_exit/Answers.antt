-- Started first, in a kernel that is whole, so that current is a slot; then what may keep current from its exit.
use Rattle.std.proofs.Common.{drop, refl}
use Rattle.kernel.specs.Calls.{exit, checks, number}
use Rattle.kernel.proofs.Checks.{failed_early, passed_early}
use Rattle.leaf_table.proofs.Laws.{started_checks, passed_started}
use Rattle.call_exit.proofs.check_exit.Goals as goal

pub returns-in_err-check_started : goal.returns-in_err-check_started
unfolding number
returns-in_err-check_started c = failed_early (started_checks c.args.k.now) (drop 1 (checks c.args.k.now exit)) _ _ c.from_residual.ensures.1 c.in_err-check_started.ensures

pub check_current-requires : goal.check_current-requires
check_current-requires c = (passed_started _ c.in_ok-check_started.ensures).current_slot

pub returns : goal.returns
unfolding number
returns c = passed_early (started_checks c.args.k.now) (drop 1 (checks c.args.k.now exit)) _ refl c.in_ok-check_started.ensures c.check_current.ensures
