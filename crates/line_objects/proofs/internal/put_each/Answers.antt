-- One more item behind those so far.
use Rattle.std.proofs.Common.{ap, sym, ◌∙◌, arith}
use native.Mathlib.Nat.{le_refl}
use lib.ListN.{length-map}
use Rattle.line_text.proofs.Writing.{put_as}
use Rattle.line_objects.proofs.Joined.{joining_start, joining_room, joining_each, joining_done, text_at}
use Rattle.line_objects.proofs.internal.put_each.Goals as goal

pub loop-i-init : goal.loop-i-init
loop-i-init g c = joining_start c.requires

pub put_between-requires : goal.put_between-requires
put_between-requires g c = omega (arith, joining_room _ c.loop-i.invariant c.loop-i-test.true)

pub put-requires : goal.put-requires
put-requires g c =
    omega (arith, joining_room _ c.loop-i.invariant c.loop-i-test.true, c.put_between.ensures.short, c.put_between.ensures.same_length)

pub loop-i-preserved : goal.loop-i-preserved
loop-i-preserved g c =
    let same = ap g.T.Printed.text c.index-items-i.is ∙ sym (text_at g.T.Printed.text c.args.items.now _ _ c.loop-i-test.true) in
    joining_each _ c.loop-i.invariant c.loop-i-test.true c.put_between.ensures (put_as c.put.ensures same (le_refl _)) (le_refl _)

pub returns : goal.returns
returns g c = rw (length-map c.args.items.now g.T.Printed.text) (joining_done _ c.loop-i.invariant (omega arith))
