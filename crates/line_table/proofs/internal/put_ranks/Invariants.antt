-- Of the sixteen ranks, the first i are put, each after a comma unless it is the first.
use Rattle.std.proofs.Common.{true}
use Rattle.kernel.specs.Kernel.{slot}
use Rattle.kernel.specs.Rank.{rank}
use Rattle.line_objects.proofs.Joined.{Joining}
use Rattle.line_table.specs.TableLine.{rank_text}
use Rattle.line_table.proofs.internal.put_ranks.Given as goal

abbrev pub invariant-loop-i : goal.invariant-loop-i
invariant-loop-i l = Joining 44 (λ _. true) (λ j. rank_text (slot l.k j).occupied (rank l.k j)) 21 16 l.initial.out l.out l.i
