-- A charge that is more than what is left makes the sum more than tick_count.
use Rattle.std.proofs.Common.{◌+◌, sym, arith}
use borrow.Author.Tests.{le-leb, lt-leb}
use Rattle.base.proofs.Loops.{sum_start, sum_more, sum_le}
use Rattle.kernel.specs.Kernel.{charge, charge_sum}
use Rattle.leaf_whole.proofs.internal.uncharged.Goals as goal

pub loop-charge-init : goal.loop-charge-init
loop-charge-init c = omega (arith, sum_start (charge c.args.k.now), c.in_ok-left.ensures.0, c.in_ok-left.ensures.1)

pub returns-in_err-left-2 : goal.returns-in_err-left-2
returns-in_err-left-2 c =
    let k = c.args.k.now in
    let i = c.loop-charge.charge-index in
    rw c.from_residual-in_err-left-2.ensures
    (sym (lt-leb (charge_sum k) k.tick_count (omega (arith, c.in_err-left-2.ensures, sum_more (charge k) i, sum_le (charge k) (i + 1) 16 (omega arith)))))

pub loop-charge-preserved : goal.loop-charge-preserved
loop-charge-preserved c = omega (arith, c.in_ok-left-2.ensures.0, c.in_ok-left-2.ensures.1, sum_more (charge c.args.k.now) c.loop-charge.charge-index)

pub returns : goal.returns
returns c =
    let k = c.args.k.now in
    sym (le-leb (charge_sum k) k.tick_count (omega (arith, sum_le (charge k) 16 c.loop-charge.charge-index c.loop-charge-test.false)))
