-- What std's search says, by the slots' numbers.
use Rattle.std.proofs.Common.{not, rules}
use Rattle.base.proofs.Lists.{position_lowest}
use Rattle.kernel.specs.Control.{blank_slot}
use Rattle.kernel.specs.Scheduler.{lowest_empty}
use Rattle.call_add.proofs.free_slot.Goals as goal

pub returns-clause-place : goal.returns-clause-place
unfolding lowest_empty
returns-clause-place c = rw c.first_empty.ensures (position_lowest (λ t. not t.occupied) c.args.k.now.tasks blank_slot 16 (search rules))
