-- Not whole, the last tick, and accepted.
use Rattle.std.proofs.Common.{[], ◌∷◌, refl, sym, arith}
use borrow.Author.Tests.{ne_eqb}
use Rattle.base.proofs.Choices.{left, not_clear}
use Rattle.kernel.specs.Calls
use Rattle.kernel.specs.Calls.{number, not_whole, checks}
use Rattle.kernel.proofs.Refusal.{nonzero_refusal}
use Rattle.kernel.proofs.Checks.{passed, refused_early, passed_early}
use Rattle.kernel.proofs.Step.{step_refused, step_accepted}
use Rattle.call_tick.proofs.Laws.{at_last_tick}
use Rattle.call_tick.proofs.internal.update_tick.Goals as goal

pub returns-in-Err : goal.returns-in-Err
unfolding number
returns-in-Err c =
    step_refused _ Calls.tick c.check.result _ _
    (refused_early (not_whole c.args.k ∷ []) (checks c.args.k Calls.tick) _ c.check.ensures (rw c.in-Err.is (nonzero_refusal _)))
    c.in-Err.is c.refused_by.ensures

pub returns-then-k : goal.returns-then-k
returns-then-k c = at_last_tick _ _ c.in_default.ensures c.if-k.true c.refused_by-then-k.ensures

pub ticked-requires : goal.ticked-requires
ticked-requires c =
    (not_clear _ (passed (not_whole c.args.k ∷ []) 0 refl (sym c.in_default.ensures)), omega arith)

pub returns : goal.returns
unfolding number
returns c =
    step_accepted _ Calls.tick c.check.result _ _
    (passed_early (not_whole c.args.k ∷ []) (checks c.args.k Calls.tick) _ refl c.in_default.ensures (rw c.in_default.is (left _ _ _ _ (ne_eqb _ _ c.if-k.false) refl)))
    c.in_default.is c.ticked.ensures
