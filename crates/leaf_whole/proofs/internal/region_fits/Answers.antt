-- Its tests, joined from the left, are the definition's list.
use Rattle.std.proofs.Common.{[], ◌∷◌}
use Rattle.base.proofs.Choices.{joined_every}
use Rattle.kernel.specs.Control.{region_fits}
use Rattle.leaf_whole.proofs.internal.region_fits.Goals as goal

pub returns : goal.returns
unfolding region_fits
returns c = rw (c.from.ensures, c.from-2.ensures, c.from-3.ensures, c.from-4.ensures) (joined_every _ (_ ∷ _ ∷ _ ∷ []))
