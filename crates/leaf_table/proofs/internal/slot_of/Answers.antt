-- What std's search says, by the slots' numbers.
use Rattle.std.proofs.Common.{rules}
use Rattle.base.proofs.Lists.{position_lowest}
use Rattle.kernel.specs.Control.{blank_slot}
use Rattle.kernel.specs.Kernel.{slot_of, holds_id}
use Rattle.leaf_table.proofs.internal.slot_of.Goals as goal

pub returns-clause-place : goal.returns-clause-place
unfolding slot_of
returns-clause-place c = rw c.holder.ensures (position_lowest (holds_id c.args.id) c.args.k.now.tasks blank_slot 16 (search rules))
