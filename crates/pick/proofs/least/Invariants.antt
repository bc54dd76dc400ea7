-- The smallest of the keys passed.
use Rattle.std.proofs.Common.{◌≤◌}
use Rattle.pick.specs.Keys.{IsLeast}
use Rattle.pick.proofs.least.Given as goal

abbrev pub invariant-loop-i : goal.invariant-loop-i
invariant-loop-i l = record { within : l.i ≤ 16; least : IsLeast l.keys l.i l.best }
