-- By the contract of `key`.
use Rattle.kernel.specs.Control.{holds_task}
use Rattle.pick.proofs.internal.task_key.Goals as goal

pub returns : goal.returns
unfolding holds_task
returns c = rw (← c.is_ready.ensures) c.key.ensures
