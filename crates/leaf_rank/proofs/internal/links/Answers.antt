-- Each slot's link, with the owners' slots worked out before.
use Rattle.std.proofs.Common.{None, rules}
use Rattle.base.proofs.Loops.{unmapped}
use Rattle.kernel.specs.Rank.{link}
use Rattle.leaf_rank.specs.Inherited.{some_slot}
use Rattle.leaf_rank.proofs.Laws.{link_is}
use Rattle.leaf_rank.proofs.Made.{all_made}
use Rattle.leaf_rank.proofs.internal.links.Goals as goal

pub returns : goal.returns
returns c =
    let k = c.args.k.now in
    all_made _ _ None (λ j. some_slot (link k j)) (λ i y q h. let is = link_is k i _ (search (unmapped, rules)) c.owner_slots-owners.ensures in search rules) _ 16 c.from_fn.ensures.items
