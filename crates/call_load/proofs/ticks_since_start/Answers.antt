-- Whole says that all charges and the retired sum fit below tick_count.
use Rattle.std.proofs.Common.{◌+◌, ◌^◌, ◌≤◌, ◌<◌, arith, rules}
use Rattle.base.proofs.Loops.{sum_more, sum_le}
use Rattle.kernel.specs.Kernel.{charge}
use Rattle.kernel.proofs.Whole.{is_whole}
use Rattle.call_load.proofs.ticks_since_start.Goals as goal

pub overflow_add-sum : goal.overflow_add-sum
overflow_add-sum c =
    let k = c.args.k in
    let i = c.loop-charge.charge-index in
    let more : i + 1 ≤ 16 = omega arith in
    let clock : k.tick_count < 2 ^ 64 = search rules in
    let so_far = sum_le (charge k) (i + 1) 16 more in
    record { fits = omega (arith, sum_more (charge k) i, so_far, (is_whole k c.requires).charges) }
