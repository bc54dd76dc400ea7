-- Each turn puts the rank of one slot for its number.
use Rattle.std.proofs.Common.{zero-le, refl, arith}
use Rattle.base.proofs.Loops.{unmapped}
use Rattle.kernel.specs.Control.{holds_task}
use Rattle.pick.proofs.Ranked.{ranked_none, ranked_more, ranked_done}
use Rattle.pick.proofs.internal.ranked.Goals as goal

pub loop-i-init : goal.loop-i-init
loop-i-init c = record { within = zero-le; ranked = ranked_none _ (search unmapped) }

pub loop-i-preserved : goal.loop-i-preserved
unfolding holds_task
loop-i-preserved c = record {
  within = omega arith;
  ranked = ranked_more _ _ _ _ _ _ c.ranks-ranks.ensures c.loop-i.invariant.ranked c.loop-i-test.true refl refl refl refl;
}

pub returns : goal.returns
returns c =
    let l = c.loop-i.invariant in
    ranked_done _ _ _ l.within l.ranked c.loop-i-test.false
