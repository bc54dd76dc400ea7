-- Each turn takes the smaller of the key and the smallest so far.
use Rattle.std.proofs.Common.{◌≡◌, arith}
use Rattle.pick.proofs.Keys.{least_none, least_more}
use Rattle.pick.proofs.least.Goals as goal

pub loop-i-init : goal.loop-i-init
loop-i-init c = record { within = omega arith; least = least_none _ }

pub loop-i-preserved : goal.loop-i-preserved
loop-i-preserved c = record {
  within = omega arith;
  least = rw c.min-best.ensures (least_more _ _ _ c.loop-i.invariant.least);
}

pub returns : goal.returns
returns c =
    let e : c.loop-i.i ≡ 16 = omega arith in
    rw e at c.loop-i.invariant.least
