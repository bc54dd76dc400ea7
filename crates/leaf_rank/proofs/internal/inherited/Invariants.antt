-- After j turns the numbers of the first j slots were passed on.
use Rattle.leaf_rank.specs.Inherited.{Inherited}
use Rattle.leaf_rank.proofs.internal.inherited.Given as goal

abbrev pub invariant-loop-j : goal.invariant-loop-j
invariant-loop-j l = Inherited l.fn.links l.fn.own l.ranks l.j
