-- What std's test says, by the slots' numbers.
use Rattle.std.proofs.Common.{◌&&◌, rules}
use Rattle.kernel.specs.Control.{blank_slot, regions_overlap}
use Rattle.kernel.specs.Scheduler.{overlaps_present}
use Rattle.base.proofs.Lists.{any_each_below}
use Rattle.call_add.proofs.overlaps_present.Goals as goal

pub returns : goal.returns
unfolding overlaps_present
returns c = rw c.overlaps.ensures (any_each_below (λ t. t.occupied && regions_overlap c.args.region t.stack) c.args.k.now.tasks blank_slot 16 (search rules))
