-- An unknown id, where it is not current's own.
use Rattle.std.proofs.Common.{[], ◌∷◌, Err, drop, not, rules}
use Rattle.base.proofs.Choices.{left, tests}
use Rattle.kernel.specs.Kernel.{is_present}
use Rattle.kernel.specs.Calls.{wait, checks, ◌when◌}
use Rattle.kernel.proofs.Checks.{failed_early}
use Rattle.leaf_table.proofs.Laws.{looked_up}
use Rattle.call_wait.proofs.check_target.Goals as goal

pub returns-in_err-i-clause-number : goal.returns-in_err-i-clause-number
returns-in_err-i-clause-number c =
    left _ _ _ _ (search (tests, rules))
    (failed_early ((8 when not (is_present c.args.k.now c.args.id)) ∷ []) (drop 3 (checks c.args.k.now (wait c.args.id))) _ _ c.from_residual.ensures.1
    (looked_up _ c.args.id c.slot_of.result (Err c.in_err-i.field-0.0) c.slot_of.ensures.place c.slot_of.ensures.below c.in_err-i.ensures.value))
