-- The pick by the numbers, the ranks being put for them.
use Rattle.std.proofs.Common.{◌∙◌}
use Rattle.pick.proofs.Ranked.{ranked_pick}
use Rattle.pick.proofs.internal.next_task.Goals as goal

pub returns : goal.returns
returns c = (c.next_by_number.ensures.0 ∙ ranked_pick _ _ c.ranked.ensures, c.next_by_number.ensures.1)
