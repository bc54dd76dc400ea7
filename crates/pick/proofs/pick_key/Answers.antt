-- No key below 256, and the first slot of the least key.
use Rattle.std.proofs.Common.{◌∙◌}
use Rattle.kernel.proofs.Pick.{pick_none}
use Rattle.pick.proofs.Keys.{none_ready, first_is}
use Rattle.pick.proofs.pick_key.Goals as goal

pub returns-then-best-ge-NOT_READY : goal.returns-then-best-ge-NOT_READY
returns-then-best-ge-NOT_READY c = pick_none _ _ _ (none_ready _ _ c.least-best.ensures c.if-best-ge-NOT_READY.true)

pub returns : goal.returns
returns c = c.first_from.ensures ∙ first_is _ _ c.least-best.ensures c.if-best-ge-NOT_READY.false _
