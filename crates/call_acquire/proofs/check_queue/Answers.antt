-- What the code asks is what the check says.
use Rattle.std.proofs.Common.{refl}
use Rattle.base.proofs.Choices.{taken, left}
use Rattle.call_acquire.proofs.check_queue.Goals as goal

pub returns-then-has_permit-no_room : goal.returns-then-has_permit-no_room
returns-then-has_permit-no_room c =
    taken _ _ _ _ (rw (← c.has_permit.ensures, ← c.current_id-id.ensures, ← c.no_room.ensures) c.if-has_permit-no_room.true) refl

pub returns : goal.returns
returns c =
    left _ _ _ _ (rw (← c.has_permit.ensures, ← c.current_id-id.ensures, ← c.no_room.ensures) c.if-has_permit-no_room.false) refl
