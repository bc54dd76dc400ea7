-- Started first, then the state.
use Rattle.std.proofs.Common.{[], ◌∷◌, ◌||◌, refl, eqb, leb}
use Rattle.kernel.specs.Calls.{number, ◌when◌}
use Rattle.kernel.proofs.Checks.{failed_early, passed_early}
use Rattle.leaf_table.proofs.Laws.{started_checks}
use Rattle.call_status.proofs.Laws.{unfit}
use Rattle.call_status.proofs.check_status.Goals as goal

pub returns-in_err-check_started-clause-number : goal.returns-in_err-check_started-clause-number
unfolding number
returns-in_err-check_started-clause-number c =
    failed_early (started_checks c.args.k.now) ((7 when eqb c.args.state 1 || leb 5 c.args.state) ∷ []) _ _ c.from_residual.ensures.1 c.in_err-check_started.ensures

pub returns-clause-number : goal.returns-clause-number
unfolding number
returns-clause-number c =
    passed_early (started_checks c.args.k.now) ((7 when eqb c.args.state 1 || leb 5 c.args.state) ∷ []) _ refl c.in_ok-check_started.ensures
    (unfit c.state_to_set.result _ _ _ c.state_to_set.ensures.fit c.ok_or.ensures.value)
