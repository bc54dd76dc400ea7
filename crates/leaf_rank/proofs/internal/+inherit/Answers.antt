-- Each return is a case of the walk.
use Rattle.std.proofs.Common.{◌∙◌}
use Rattle.leaf_rank.proofs.Laws.{walk_none, walk_out, walk_met, walk_more}
use Rattle.leaf_rank.proofs.internal.+inherit.Goals as goal

pub returns-then-left-eq0 : goal.returns-then-left-eq0
returns-then-left-eq0 t c = record {
  long = c.requires.3;
  each = λ i h. walk_none _ _ _ _ _ _ i c.if-left-eq0.true;
}

pub returns-in_default : goal.returns-in_default
returns-in_default t c = record {
  long = c.requires.3;
  each = λ i h. walk_out _ _ _ _ _ _ i c.in_default.not-Some;
}

pub returns-then-met-to : goal.returns-then-met-to
returns-then-met-to t c = record {
  long = c.requires.3;
  each = λ i h. walk_met _ _ _ _ _ _ i _ c.in-Some.is c.if-met-to.true;
}

pub returns : goal.returns
returns t c = record {
  long = c.inherit.ensures.long;
  each = λ i h.
      c.inherit.ensures.each i h
      ∙ walk_more _ _ _ _ _ _ i _ _ c.requires.1 c.in-Some.is c.min.ensures c.requires.2 c.requires.3 c.if-left-eq0.false
      c.if-met-to.false;
}
