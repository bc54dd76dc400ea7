-- What the code asks is what the check says.
use Rattle.std.proofs.Common.{refl}
use Rattle.base.proofs.Choices.{taken, left}
use Rattle.call_event_wait.proofs.check_queue.Goals as goal

pub returns-then-k-e : goal.returns-then-k-e
returns-then-k-e c = taken _ _ _ _ (rw (← c.current_id-id.ensures, ← c.no_room.ensures) c.if-k-e.true) refl

pub returns : goal.returns
returns c = left _ _ _ _ (rw (← c.current_id-id.ensures, ← c.no_room.ensures) c.if-k-e.false) refl
