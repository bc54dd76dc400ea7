-- Whole first, then the object's number.
use Rattle.std.proofs.Common.{[], ◌∷◌, refl, arith}
use borrow.Author.Tests.{lt-ltb, le-ltb}
use Rattle.base.proofs.Choices.{taken, left}
use Rattle.kernel.specs.Calls.{not_whole, no_object}
use Rattle.kernel.proofs.Checks.{failed_early, passed_early}
use Rattle.leaf_table.proofs.internal.check_object.Goals as goal

pub returns-in_err-check : goal.returns-in_err-check
returns-in_err-check c = failed_early (not_whole c.args.k.now ∷ []) (no_object c.args.o ∷ []) _ _ c.from_residual.ensures.1 c.in_err-check.ensures

pub returns-then-o-ge-OBJECTS : goal.returns-then-o-ge-OBJECTS
returns-then-o-ge-OBJECTS c = passed_early (not_whole c.args.k.now ∷ []) (no_object c.args.o ∷ []) _ refl c.in_ok-check.ensures (taken _ _ _ _ (lt-ltb 3 _ c.if-o-ge-OBJECTS.true) refl)

pub returns : goal.returns
returns c = passed_early (not_whole c.args.k.now ∷ []) (no_object c.args.o ∷ []) _ refl c.in_ok-check.ensures (left _ _ _ _ (le-ltb 3 _ (omega arith)) refl)
