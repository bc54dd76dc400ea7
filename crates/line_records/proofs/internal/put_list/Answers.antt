-- One more record behind those so far.
use Rattle.std.proofs.Common.{arith}
use Rattle.line_text.proofs.Writing.{put_two}
use Rattle.line_objects.proofs.Joined.{joining_start, joining_room, joining_each, joining_done}
use Rattle.line_records.specs.RecordsText.{records_text}
use Rattle.line_records.proofs.internal.put_list.Goals as goal

pub loop-i-init : goal.loop-i-init
loop-i-init c = joining_start (omega (arith, c.requires.0, c.requires.1, c.put.ensures.short, c.put.ensures.same_length))

pub put_between-requires : goal.put_between-requires
put_between-requires c = omega (arith, joining_room _ c.loop-i.invariant c.loop-i-test.true)

pub put_info-requires : goal.put_info-requires
put_info-requires c =
    omega (arith, joining_room _ c.loop-i.invariant c.loop-i-test.true, c.put_between.ensures.short, c.put_between.ensures.same_length)

pub loop-i-preserved : goal.loop-i-preserved
loop-i-preserved c = joining_each _ c.loop-i.invariant c.loop-i-test.true c.put_between.ensures c.put_info.ensures (omega arith)

pub returns : goal.returns
unfolding records_text
returns c = put_two c.put.ensures (joining_done _ c.loop-i.invariant (omega arith)) (omega (arith, c.requires.1))
