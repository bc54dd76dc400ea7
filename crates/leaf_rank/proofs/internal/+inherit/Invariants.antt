-- It calls itself with one link less, so its measure is the number of links left.
use Rattle.leaf_rank.proofs.internal.+inherit.Given as goal

abbrev pub decreases-inherit : goal.decreases-inherit
decreases-inherit l = l.left
