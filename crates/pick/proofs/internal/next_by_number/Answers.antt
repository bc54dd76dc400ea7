-- The pick by the keys of the slots.
use Rattle.std.proofs.Common.{◌≡◌, ◌∙◌}
use Rattle.kernel.specs.Kernel.{current}
use Rattle.kernel.specs.Rank.{priority_of}
use Rattle.kernel.specs.Scheduler.{pick, is_ready}
use Rattle.kernel.proofs.Pick.{pick_lt}
use Rattle.pick.proofs.Keys.{keys_pick}
use Rattle.pick.proofs.internal.next_by_number.Goals as goal

pub returns : goal.returns
returns c =
    let k = c.args.k in
    let picked : c.pick_key.result ≡ pick (is_ready k) (priority_of k) (current k)
    = c.pick_key.ensures ∙ keys_pick _ _ c.task_keys-keys.result c.task_keys-keys.ensures _ in
    (picked, rw picked (pick_lt _ _ _))
