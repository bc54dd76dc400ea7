-- A search from current + 1 on.
use Rattle.pick.proofs.Keys.{Searched}
use Rattle.pick.proofs.first_from.Given as goal

abbrev pub invariant-loop-n : goal.invariant-loop-n
invariant-loop-n l = Searched l.keys l.current l.best l.n
