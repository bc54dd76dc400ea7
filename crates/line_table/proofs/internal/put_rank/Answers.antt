-- The number, or `-`.
use Rattle.std.proofs.Common.{refl, arith}
use Rattle.base.proofs.Choices.{taken, left}
use Rattle.line_text.proofs.Writing.{put_as}
use Rattle.line_table.specs.TableLine.{rank_text}
use Rattle.line_table.proofs.internal.put_rank.Goals as goal

pub returns-then-occupied : goal.returns-then-occupied
unfolding rank_text
returns-then-occupied c = put_as c.put_decimal.ensures (taken _ _ _ _ c.if-occupied.true refl) (omega arith)

pub returns-else-occupied : goal.returns-else-occupied
unfolding rank_text
returns-else-occupied c = put_as c.put.ensures (left _ _ _ _ c.if-occupied.false refl) (omega arith)
