-- Each turn passes on the number of one slot.
use Rattle.std.proofs.Common.{rules}
use Rattle.leaf_rank.proofs.Laws.{inherited_none, inherited_more, inherited_done}
use Rattle.leaf_rank.proofs.internal.inherited.Goals as goal

pub loop-j-init : goal.loop-j-init
loop-j-init c = inherited_none _ _ (search rules)

pub inherit_from-requires : goal.inherit_from-requires
inherit_from-requires c = (c.loop-j-test.true, c.requires, c.loop-j.invariant.long)

pub loop-j-preserved : goal.loop-j-preserved
loop-j-preserved c = inherited_more _ _ _ _ _ c.loop-j.invariant c.inherit_from.ensures

pub returns : goal.returns
returns c = inherited_done _ _ _ _ c.loop-j.auto.j-end c.loop-j.invariant c.loop-j-test.false
