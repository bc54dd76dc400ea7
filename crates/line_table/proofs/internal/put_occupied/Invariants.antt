-- Of the sixteen slots, the first i are put, and `any` says whether one of them is occupied.
use Rattle.std.proofs.Common.{◌+◌}
use Rattle.base.specs.Below.{any_below}
use Rattle.base.proofs.Loops.{Upto}
use Rattle.kernel.specs.Kernel.{slot}
use Rattle.line_objects.proofs.Joined.{Joining}
use Rattle.line_table.proofs.internal.put_occupied.Given as goal

abbrev pub invariant-loop-i : goal.invariant-loop-i
invariant-loop-i g l = record {
  joining : Joining 59 (λ j. (slot l.k j).occupied) (λ j. g.S.Shown.text j (slot l.k j)) (1 + g.S.Shown.most) 16 l.initial.out l.out l.i;
  upto : Upto (any_below (λ j. (slot l.k j).occupied)) 16 l.any l.i;
}
