-- The checks in their order, whatever records are lent.
use Rattle.std.proofs.Common.{[], ◌∷◌, refl}
use borrow.Author.Tests.{eq-eqb, ne_eqb, lt-ltb, le-ltb}
use Rattle.base.proofs.Choices.{taken, left}
use Rattle.kernel.specs.Calls
use Rattle.kernel.specs.Calls.{number, not_whole, checks}
use Rattle.kernel.proofs.Checks.{failed_early, passed_early}
use Rattle.call_list.proofs.check_list.Goals as goal

pub returns-in_err-check : goal.returns-in_err-check
unfolding number
returns-in_err-check c = λ records l.
    failed_early (not_whole c.args.k.now ∷ []) (checks c.args.k.now (Calls.list c.args.arena.now records)) _ _
    c.from_residual.ensures.1 c.in_err-check.ensures

pub returns-then-arena-k : goal.returns-then-arena-k
unfolding number
returns-then-arena-k c = λ records l.
    passed_early (not_whole c.args.k.now ∷ []) (checks c.args.k.now (Calls.list c.args.arena.now records)) _ refl c.in_ok-check.ensures
    (taken _ _ _ _ (rw (ne_eqb _ _ c.if-arena-k.true) refl) refl)

pub returns-then-room-k : goal.returns-then-room-k
unfolding number
returns-then-room-k c = λ records l.
    passed_early (not_whole c.args.k.now ∷ []) (checks c.args.k.now (Calls.list c.args.arena.now records)) _ refl c.in_ok-check.ensures
    (left _ _ _ _ (rw (eq-eqb _ _ c.if-arena-k.false) refl) (taken _ _ _ _ (rw l (lt-ltb _ _ c.if-room-k.true)) refl))

pub returns : goal.returns
unfolding number
returns c = λ records l.
    passed_early (not_whole c.args.k.now ∷ []) (checks c.args.k.now (Calls.list c.args.arena.now records)) _ refl c.in_ok-check.ensures
    (left _ _ _ _ (rw (eq-eqb _ _ c.if-arena-k.false) refl) (left _ _ _ _ (rw l (le-ltb _ _ c.if-room-k.false)) refl))
