-- Where no mutex has a queue, the pick by number is the pick by rank.
use Rattle.std.proofs.Common.{sym, ◌∙◌}
use Rattle.pick.proofs.Ranked.{number_pick}
use Rattle.call_switch.proofs.picked.Goals as goal

pub returns-then-no_queues : goal.returns-then-no_queues
returns-then-no_queues c =
    let p = c.next_by_number.ensures in
    (p.0 ∙ number_pick _ (sym c.if-no_queues.ensures), p.1)
