-- A charge and the retired one do not wrap, since all charges together fit below tick_count.
use Rattle.std.proofs.Common.{◌<◌, ◌^◌, arith, rules}
use Rattle.base.proofs.Loops.{sum_at}
use Rattle.kernel.specs.Kernel.{charge}
use Rattle.call_reap.proofs.emptied.Goals as goal

pub overflow_add-k : goal.overflow_add-k
overflow_add-k c =
    let clock : c.args.k.tick_count < 2 ^ 64 = search rules in
    record { fits = omega (arith, sum_at (charge c.args.k) 16 c.args.i c.requires.0) }
