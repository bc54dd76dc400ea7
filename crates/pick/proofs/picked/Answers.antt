-- The pick by the keys of the bytes, where nothing was refused.
use Rattle.std.proofs.Common.{◌<◌, ◌∙◌, arith}
use Rattle.std.proofs.lemmas.Bool.{eq-eqb, le-ltb}
use Rattle.base.specs.Choice.{if◌then◌otherwise◌}
use Rattle.kernel.specs.Calls.{pick_bytes}
use Rattle.kernel.proofs.Pick.{pick_lt}
use Rattle.pick.proofs.Keys.{keys_pick}
use Rattle.pick.proofs.picked.Goals as goal

pub overflow_cast-result : goal.overflow_cast-result
overflow_cast-result c =
    let h : c.pick_key.result < 16 = rw c.pick_key.ensures (pick_lt _ _ _) in
    omega arith

pub returns : goal.returns
unfolding pick_bytes if◌then◌otherwise◌
returns c =
    rw (eq-eqb _ _ c.if-states-ne-MAX_TASKS.false, eq-eqb _ _ c.if-priorities-ne-MAX_TASKS.false, ← c.if-any_unknown.ensures, le-ltb 15 c.args.current (omega arith))
    (c.pick_key.ensures ∙ keys_pick _ _ c.byte_keys-keys.result c.byte_keys-keys.ensures _)
