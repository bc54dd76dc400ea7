-- Each call makes the key of one slot.
use Rattle.std.proofs.Common.{rules}
use Rattle.kernel.specs.Rank.{priority_of}
use Rattle.kernel.specs.Scheduler.{is_ready}
use Rattle.pick.specs.Keys.{IsKey}
use Rattle.pick.proofs.Keys.{made}
use Rattle.pick.proofs.internal.task_keys.Goals as goal

pub returns : goal.returns
returns c = made _ _ (λ i y. IsKey (is_ready c.args.k i) (priority_of c.args.k i) y) (λ i y q k. search rules) _ 16 c.from_fn.ensures.items
