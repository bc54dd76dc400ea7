-- No owner, or what the look-up says of the slot, as one equation.
use Rattle.base.specs.Choice.{if◌then◌otherwise◌}
use Rattle.leaf_rank.proofs.Laws.{some_is}
use Rattle.leaf_rank.proofs.internal.owner_slot.Goals as goal

pub returns-in_err-owner : goal.returns-in_err-owner
unfolding if◌then◌otherwise◌
returns-in_err-owner c = rw (c.in_err-owner.was, c.from_residual.ensures)

pub returns : goal.returns
returns c = rw c.in_ok-owner.was (some_is _ _ c.slot_of.ensures.place c.slot_of.ensures.below)
