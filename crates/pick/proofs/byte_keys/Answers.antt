-- Each call makes the key of one slot.
use Rattle.std.proofs.Common.{rules, eqb, get_or}
use Rattle.pick.specs.Keys.{IsKey}
use Rattle.pick.proofs.Keys.{made}
use Rattle.pick.proofs.byte_keys.Goals as goal

pub returns : goal.returns
returns c = made _ _ (λ i y. IsKey (eqb (get_or c.args.states.now i 0) 0) (get_or c.args.priorities.now i 0) y) (λ i y q k. search rules) _ 16 c.from_fn.ensures.items
