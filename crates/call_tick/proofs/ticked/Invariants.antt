-- The loop walks the slots in place: the first i are walked, and `woke` says whether one of them was woken.
use Rattle.call_tick.proofs.Laws.{Walking}
use Rattle.call_tick.proofs.ticked.Given as goal

abbrev pub invariant-loop-i : goal.invariant-loop-i
invariant-loop-i l = Walking l.now l.initial.k l.k l.woke l.i
