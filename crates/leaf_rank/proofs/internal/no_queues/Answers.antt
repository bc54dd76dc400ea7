-- std's test of the list, by the numbers of the mutexes.
use Rattle.std.proofs.Common.{◌∙◌, rules}
use Rattle.base.proofs.Lists.{all_each_below}
use Rattle.base.proofs.Loops.{unmapped}
use Rattle.kernel.specs.Rank.{no_queues}
use Rattle.leaf_rank.proofs.internal.no_queues.Goals as goal

pub returns : goal.returns
unfolding no_queues
returns c = c.all_empty.ensures ∙ all_each_below _ c.args.k.mutexes _ 4 (search (unmapped, rules))
