-- An unknown id, a task that is Blocked, and one that is not.
use Rattle.std.proofs.Common.{refl, arith}
use Rattle.base.proofs.Choices.{taken, left}
use Rattle.kernel.proofs.Tasks.{wakes_absent, wakes_found}
use Rattle.leaf_table.proofs.internal.blocked_slot.Goals as goal

pub returns-in_err-i-clause-place : goal.returns-in_err-i-clause-place
returns-in_err-i-clause-place c = left _ _ _ _ (wakes_absent _ _ 16 c.in_err-i.ensures.place (omega arith)) (rw c.from_residual.ensures refl)

pub returns-then-is_blocked-clause-place : goal.returns-then-is_blocked-clause-place
returns-then-is_blocked-clause-place c =
    let s = c.in_ok-i.ensures.place in
    taken _ _ _ _ (wakes_found _ _ _ _ _ s c.in_ok-i.ensures.below c.is_blocked.ensures c.if-is_blocked.true) s

pub returns-else-is_blocked-clause-place : goal.returns-else-is_blocked-clause-place
returns-else-is_blocked-clause-place c =
    left _ _ _ _ (wakes_found _ _ _ _ _ c.in_ok-i.ensures.place c.in_ok-i.ensures.below c.is_blocked.ensures c.if-is_blocked.false) refl
