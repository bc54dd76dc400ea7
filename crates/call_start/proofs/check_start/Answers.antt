-- Whole first, then whether it was started.
use Rattle.std.proofs.Common.{[], ◌∷◌, refl}
use Rattle.base.proofs.Choices.{taken, left}
use Rattle.kernel.specs.Calls
use Rattle.kernel.specs.Calls.{number, not_whole, checks}
use Rattle.kernel.proofs.Checks.{failed_early, passed_early}
use Rattle.call_start.proofs.check_start.Goals as goal

pub returns-in_err-check : goal.returns-in_err-check
unfolding number
returns-in_err-check c = failed_early (not_whole c.args.k.now ∷ []) (checks c.args.k.now Calls.start) _ _ c.from_residual.ensures.1 c.in_err-check.ensures

pub returns-then-k : goal.returns-then-k
unfolding number
returns-then-k c = passed_early (not_whole c.args.k.now ∷ []) (checks c.args.k.now Calls.start) _ refl c.in_ok-check.ensures (taken _ _ _ _ c.if-k.true refl)

pub returns : goal.returns
unfolding number
returns c = passed_early (not_whole c.args.k.now ∷ []) (checks c.args.k.now Calls.start) _ refl c.in_ok-check.ensures (left _ _ _ _ c.if-k.false refl)
