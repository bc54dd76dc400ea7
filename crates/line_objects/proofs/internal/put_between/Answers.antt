-- The byte where there is a text before, and nothing where there is none.
use Rattle.std.proofs.Common.{refl, arith}
use Rattle.base.proofs.Choices.{taken, left}
use Rattle.line_text.proofs.Writing.{nothing_put, put_as}
use Rattle.line_objects.proofs.internal.put_between.Goals as goal

pub returns-then-any : goal.returns-then-any
returns-then-any c = put_as c.put.ensures (taken _ _ _ _ c.if-any.true refl) (omega arith)

pub returns-else-any : goal.returns-else-any
returns-else-any c = put_as (nothing_put {most = 0} _) (left _ _ _ _ c.if-any.false refl) (omega arith)
