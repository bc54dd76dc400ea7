-- One more of the sixteen behind those so far; what is put is the rank, as `ranks` ensures.
use Rattle.std.proofs.Common.{ap, arith}
use Rattle.line_text.proofs.Writing.{put_as}
use Rattle.line_objects.proofs.Joined.{joining_start, joining_room, joining_each, joining_done}
use Rattle.line_table.specs.TableLine.{rank_text, ranks_text}
use Rattle.line_table.proofs.internal.put_ranks.Goals as goal

pub loop-i-init : goal.loop-i-init
loop-i-init c = joining_start (omega arith)

pub put_between-requires : goal.put_between-requires
put_between-requires c = omega (arith, joining_room _ c.loop-i.invariant c.loop-i-test.true)

pub put_rank-requires : goal.put_rank-requires
put_rank-requires c =
    omega (arith, joining_room _ c.loop-i.invariant c.loop-i-test.true, c.put_between.ensures.short, c.put_between.ensures.same_length)

pub loop-i-preserved : goal.loop-i-preserved
loop-i-preserved c =
    let rank = ap (rank_text _) (c.ranks-ranks.ensures.each _ c.loop-i-test.true) in
    joining_each _ c.loop-i.invariant c.loop-i-test.true c.put_between.ensures (put_as {most = 20} c.put_rank.ensures rank (omega arith)) (omega arith)

pub returns : goal.returns
unfolding ranks_text
returns c = joining_done _ c.loop-i.invariant (omega arith)
