-- The own numbers, each passed on along its chain.
use Rattle.leaf_rank.proofs.Laws.{links_slots, ranks_are}
use Rattle.leaf_rank.proofs.internal.ranks.Goals as goal

pub inherited-requires : goal.inherited-requires
inherited-requires c = links_slots _ _ c.links.ensures

pub returns : goal.returns
returns c = ranks_are _ _ _ _ c.links.ensures c.own_numbers-own.ensures c.inherited.ensures
