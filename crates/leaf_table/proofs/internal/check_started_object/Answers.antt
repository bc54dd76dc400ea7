-- The checks of the object first, then whether the kernel is started.
use Rattle.std.proofs.Common.{[], ◌∷◌, refl}
use Rattle.base.proofs.Choices.{taken, left}
use Rattle.kernel.specs.Calls.{not_started}
use Rattle.kernel.proofs.Checks.{failed_early, passed_early}
use Rattle.leaf_table.proofs.Laws.{early_object_checks}
use Rattle.leaf_table.proofs.internal.check_started_object.Goals as goal

pub returns-in_err-check_object : goal.returns-in_err-check_object
returns-in_err-check_object c = failed_early (early_object_checks c.args.k.now c.args.o) (not_started c.args.k.now ∷ []) _ _ c.from_residual.ensures.1 c.in_err-check_object.ensures

pub returns-then-not-k : goal.returns-then-not-k
returns-then-not-k c = passed_early (early_object_checks c.args.k.now c.args.o) (not_started c.args.k.now ∷ []) _ refl c.in_ok-check_object.ensures (taken _ _ _ _ (rw c.if-not-k.true refl) refl)

pub returns : goal.returns
returns c = passed_early (early_object_checks c.args.k.now c.args.o) (not_started c.args.k.now ∷ []) _ refl c.in_ok-check_object.ensures (left _ _ _ _ (rw c.if-not-k.false refl) refl)
