-- The byte of the branch that was taken.
use Rattle.std.proofs.Common.{refl, arith}
use Rattle.base.specs.Choice.{if◌then◌otherwise◌}
use Rattle.line_text.proofs.Writing.{put_as}
use Rattle.line_objects.proofs.internal.put_flag.Goals as goal

pub returns-then-yes : goal.returns-then-yes
unfolding if◌then◌otherwise◌
returns-then-yes c = put_as c.put.ensures (rw c.if-yes.true refl) (omega arith)

pub returns-else-yes : goal.returns-else-yes
unfolding if◌then◌otherwise◌
returns-else-yes c = put_as c.put-else-yes.ensures (rw c.if-yes.false refl) (omega arith)
