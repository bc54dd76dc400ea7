-- Whole first, then whether it is started.
use Rattle.std.proofs.Common.{[], ◌∷◌, refl}
use Rattle.base.proofs.Choices.{taken, left}
use Rattle.kernel.specs.Calls.{not_whole, not_started}
use Rattle.kernel.proofs.Checks.{failed_early, passed_early}
use Rattle.leaf_table.proofs.internal.check_started.Goals as goal

pub returns-in_err-check : goal.returns-in_err-check
returns-in_err-check c = failed_early (not_whole c.args.k.now ∷ []) (not_started c.args.k.now ∷ []) _ _ c.from_residual.ensures.1 c.in_err-check.ensures

pub returns-then-not-k : goal.returns-then-not-k
returns-then-not-k c = passed_early (not_whole c.args.k.now ∷ []) (not_started c.args.k.now ∷ []) _ refl c.in_ok-check.ensures (taken _ _ _ _ (rw c.if-not-k.true refl) refl)

pub returns : goal.returns
returns c = passed_early (not_whole c.args.k.now ∷ []) (not_started c.args.k.now ∷ []) _ refl c.in_ok-check.ensures (left _ _ _ _ (rw c.if-not-k.false refl) refl)
