-- Each number by itself.
use Rattle.std.proofs.Common.{refl}
use Rattle.base.specs.Choice.{if◌then◌otherwise◌}
use Rattle.kernel.specs.Control.{state_of}
use Rattle.call_status.proofs.state_to_set.Goals as goal

pub returns-in-0-clause-state : goal.returns-in-0-clause-state
unfolding state_of if◌then◌otherwise◌
returns-in-0-clause-state c = rw c.in-0.is refl

pub returns-in-2-clause-state : goal.returns-in-2-clause-state
unfolding state_of if◌then◌otherwise◌
returns-in-2-clause-state c = rw c.in-2.is refl

pub returns-in-3-clause-state : goal.returns-in-3-clause-state
unfolding state_of if◌then◌otherwise◌
returns-in-3-clause-state c = rw c.in-3.is refl

pub returns-in-4-clause-state : goal.returns-in-4-clause-state
unfolding state_of if◌then◌otherwise◌
returns-in-4-clause-state c = rw c.in-4.is refl
