-- Wholeness and the arena first, then the checks of its own.
use Rattle.std.proofs.Common.{[], ◌∷◌, refl}
use borrow.Author.Tests.{eq-eqb, ne_eqb}
use Rattle.base.proofs.Choices.{taken, left}
use Rattle.kernel.specs.Calls.{add, not_whole, checks, number}
use Rattle.kernel.proofs.Checks.{failed_early, passed_early}
use Rattle.call_add.proofs.check_add.Goals as goal

pub returns-in_err-check-clause-number : goal.returns-in_err-check-clause-number
unfolding number
returns-in_err-check-clause-number c =
    let k = c.args.k.now in
    λ arena p l. failed_early (not_whole k ∷ []) (checks k (add arena p c.args.region)) _ _ c.from_residual.ensures.1 c.in_err-check.ensures

pub returns-then-words-k-clause-number : goal.returns-then-words-k-clause-number
unfolding number
returns-then-words-k-clause-number c =
    let k = c.args.k.now in
    λ arena p l. passed_early (not_whole k ∷ []) (checks k (add arena p c.args.region)) _ refl c.in_ok-check.ensures (taken _ _ _ _ (rw (l, ne_eqb _ _ c.if-words-k.true) refl) refl)

pub returns-clause-number : goal.returns-clause-number
unfolding number
returns-clause-number c =
    let k = c.args.k.now in
    λ arena p l. passed_early (not_whole k ∷ []) (checks k (add arena p c.args.region)) _ refl c.in_ok-check.ensures (left _ _ _ _ (rw (l, eq-eqb _ _ c.if-words-k.false) refl) (c.check_room.ensures.number arena p))
