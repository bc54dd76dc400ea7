-- Each mutex's owner is looked up.
use Rattle.std.proofs.Common.{None, rules}
use Rattle.kernel.specs.Kernel.{mutex}
use Rattle.kernel.specs.Rank.{owner_slot}
use Rattle.leaf_rank.specs.Inherited.{some_slot}
use Rattle.leaf_rank.proofs.Made.{all_made}
use Rattle.leaf_rank.proofs.internal.owner_slots.Goals as goal

pub returns : goal.returns
returns c = all_made _ _ None (λ m. some_slot (owner_slot c.args.k.now (mutex c.args.k.now m).owner)) (λ i y q h. search rules) _ 4 c.from_fn.ensures.items
