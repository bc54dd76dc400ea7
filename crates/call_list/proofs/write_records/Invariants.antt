-- The first slots are walked, and so many records written.
use Rattle.std.proofs.Common.{◌≤◌}
use Rattle.call_list.proofs.Laws.{Written}
use Rattle.call_list.proofs.write_records.Given as goal

abbrev pub invariant-loop-t : goal.invariant-loop-t
invariant-loop-t l = (l.t-index ≤ 16) × Written l.fn.k l.fn.arena l.initial.records l.t-index l.n l.records
