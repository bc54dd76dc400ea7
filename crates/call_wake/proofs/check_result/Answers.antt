-- Whole first, then whether the id is known.
use Rattle.std.proofs.Common.{[], ◌∷◌, refl}
use Rattle.kernel.specs.Calls
use Rattle.kernel.specs.Calls.{not_whole, checks, number}
use Rattle.kernel.proofs.Checks.{failed_early, passed_early}
use Rattle.leaf_table.proofs.Laws.{looked_up}
use Rattle.call_wake.proofs.check_result.Goals as goal

pub returns-in_err-check-clause-number : goal.returns-in_err-check-clause-number
unfolding number
returns-in_err-check-clause-number c r =
    failed_early (not_whole c.args.k.now ∷ []) (checks c.args.k.now (Calls.result c.args.id r)) _ _ c.from_residual.ensures.1 c.in_err-check.ensures

pub returns-clause-number : goal.returns-clause-number
unfolding number
returns-clause-number c r =
    passed_early (not_whole c.args.k.now ∷ []) (checks c.args.k.now (Calls.result c.args.id r)) _ refl c.in_ok-check.ensures
    (looked_up _ c.args.id c.slot_of.result _ c.slot_of.ensures.place c.slot_of.ensures.below c.ok_or.ensures.value)
