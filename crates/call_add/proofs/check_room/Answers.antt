-- The slot first, then the region and the id.
use Rattle.std.proofs.Common.{[], ◌∷◌, ap, ◌∙◌, drop, leb}
use Rattle.kernel.specs.Scheduler.{lowest_empty}
use Rattle.kernel.specs.Calls.{add, ◌when◌, checks}
use Rattle.kernel.specs.Refusal.{number_of}
use Rattle.kernel.proofs.Checks.{failed_early}
use Rattle.call_add.proofs.Laws.{slot_number}
use Rattle.call_add.proofs.check_room.Goals as goal

pub returns-in_err-i-clause-number : goal.returns-in_err-i-clause-number
returns-in_err-i-clause-number c =
    let k = c.args.k.now in
    let f = c.free_slot.ensures in
    λ arena p. failed_early ((4 when leb 16 (lowest_empty k)) ∷ []) (drop 2 (checks k (add arena p c.args.region))) _ _ c.from_residual.ensures.1 (ap number_of c.in_err-i.ensures.value ∙ slot_number _ _ f.place f.below)
