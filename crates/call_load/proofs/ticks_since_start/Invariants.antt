-- The sum so far.
use Rattle.std.proofs.Common.{◌≡◌, ◌+◌}
use Rattle.base.specs.Below.{sum_below}
use Rattle.kernel.specs.Kernel.{charge}
use Rattle.call_load.proofs.ticks_since_start.Given as goal

abbrev pub invariant-loop-charge : goal.invariant-loop-charge
invariant-loop-charge l = l.sum ≡ sum_below (charge l.fn.k) l.charge-index + l.fn.k.retired_charge
