-- One slot after another gets its rank.
use Rattle.std.proofs.Common.{◌≤◌}
use Rattle.pick.specs.Ranked.{Ranked}
use Rattle.pick.proofs.internal.ranked.Given as goal

abbrev pub invariant-loop-i : goal.invariant-loop-i
invariant-loop-i l = record { within : l.i ≤ 16; ranked : Ranked l.initial.out l.out l.i }
