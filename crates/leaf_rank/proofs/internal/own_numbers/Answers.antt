-- Each slot's number.
use Rattle.std.proofs.Common.{rules}
use Rattle.kernel.specs.Rank.{priority_of}
use Rattle.leaf_rank.proofs.Made.{all_made}
use Rattle.leaf_rank.proofs.internal.own_numbers.Goals as goal

pub returns : goal.returns
returns c = all_made _ _ 0 (priority_of c.args.k.now) (λ i y q k. search rules) _ 16 c.from_fn.ensures.items
