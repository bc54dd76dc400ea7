-- By each test; current's slot is the one that was found.
use Rattle.std.proofs.Common.{refl}
use borrow.Author.Tests.{eq-eqb, ne_eqb}
use Rattle.base.proofs.Choices.{taken, left, tests}
use Rattle.call_unlock.proofs.check_owner.Goals as goal

pub returns-then-k-i-eq0 : goal.returns-then-k-i-eq0
returns-then-k-i-eq0 c =
    left _ _ _ _ (search tests)
    (taken _ _ _ _ (rw (← c.current_id.ensures, ← c.slot_of.ensures.place, c.unwrap-i.ensures) (eq-eqb _ _ c.if-k-i-eq0.true)) refl)

pub returns : goal.returns
returns c =
    left _ _ _ _ (search tests)
    (left _ _ _ _ (rw (← c.current_id.ensures, ← c.slot_of.ensures.place, c.unwrap-i.ensures) (ne_eqb _ _ c.if-k-i-eq0.false)) refl)
