-- What is left of tick_count, and what was taken off it, add up to tick_count.
use Rattle.std.proofs.Common.{◌≡◌, ◌+◌}
use Rattle.base.specs.Below.{sum_below}
use Rattle.kernel.specs.Kernel.{charge}
use Rattle.leaf_whole.proofs.internal.uncharged.Given as goal

abbrev pub invariant-loop-charge : goal.invariant-loop-charge
invariant-loop-charge l =
    l.left + (sum_below (charge l.fn.k) l.charge-index + l.fn.k.retired_charge) ≡ l.fn.k.tick_count
