-- Nothing without a link, otherwise the walk, with slot j met.
use Rattle.leaf_rank.proofs.Laws.{no_walk, walk_from}
use Rattle.leaf_rank.proofs.internal.inherit_from.Goals as goal

pub returns-then-is_none : goal.returns-then-is_none
returns-then-is_none c = record {
  long = c.requires.2;
  each = λ i h. no_walk _ _ _ _ i c.if-is_none.ensures;
}

pub returns : goal.returns
returns c = record {
  long = c.inherit.ensures.long;
  each = λ i h. walk_from _ _ _ _ i _ c.requires.0 (c.inherit.ensures.each i h);
}
