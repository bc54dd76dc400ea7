-- Of the items, the first i are put, each after the byte unless it is the first.
use Rattle.std.proofs.Common.{true, ◌+◌, [], map, length, get_or}
use Rattle.line_objects.proofs.Joined.{Joining}
use Rattle.line_objects.proofs.internal.put_each.Given as goal

abbrev pub invariant-loop-i : goal.invariant-loop-i
invariant-loop-i g l = Joining l.byte (λ _. true) (λ j. get_or (map g.T.Printed.text l.items) j []) (1 + g.T.Printed.most) (length l.items) l.initial.out l.out l.i
