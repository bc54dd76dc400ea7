-- Whole first; then an unknown id, a task that is not to be reaped, and one that is.
use Rattle.std.proofs.Common.{[], ◌∷◌, Err, not, drop, refl, rules}
use Rattle.base.proofs.Choices.{taken, left, tests}
use Rattle.kernel.specs.Kernel.{is_present}
use Rattle.kernel.specs.Calls.{reap, not_whole, number, checks, ◌when◌}
use Rattle.kernel.proofs.Checks.{failed_early, passed_early}
use Rattle.leaf_table.proofs.Laws.{looked_up}
use Rattle.call_reap.proofs.check_reap.Goals as goal

pub returns-in_err-check-clause-number : goal.returns-in_err-check-clause-number
unfolding number
returns-in_err-check-clause-number c =
    failed_early (not_whole c.args.k.now ∷ []) (checks c.args.k.now (reap c.args.id)) _ _ c.from_residual.ensures.1 c.in_err-check.ensures

pub returns-in_err-i-clause-number : goal.returns-in_err-i-clause-number
unfolding number
returns-in_err-i-clause-number c =
    passed_early (not_whole c.args.k.now ∷ []) (checks c.args.k.now (reap c.args.id)) _ refl c.in_ok-check.ensures
    (failed_early ((8 when not (is_present c.args.k.now c.args.id)) ∷ []) (drop 1 (checks c.args.k.now (reap c.args.id))) _ _ c.from_residual-in_err-i.ensures.1
    (looked_up _ c.args.id c.slot_of.result (Err c.in_err-i.field-0.0) c.slot_of.ensures.place c.slot_of.ensures.below c.in_err-i.ensures.value))

pub returns-then-i-k-clause-number : goal.returns-then-i-k-clause-number
unfolding number
returns-then-i-k-clause-number c =
    passed_early (not_whole c.args.k.now ∷ []) (checks c.args.k.now (reap c.args.id)) _ refl c.in_ok-check.ensures
    (search (taken, left, tests, rules))

pub returns-clause-number : goal.returns-clause-number
unfolding number
returns-clause-number c =
    passed_early (not_whole c.args.k.now ∷ []) (checks c.args.k.now (reap c.args.id)) _ refl c.in_ok-check.ensures
    (search (taken, left, tests, rules))
