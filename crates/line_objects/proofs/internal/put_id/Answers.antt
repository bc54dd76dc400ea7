-- In each arm the variant is known.
use Rattle.std.proofs.Common.{refl, arith}
use Rattle.line_text.proofs.Writing.{put_as}
use Rattle.line_objects.specs.ObjectsLine.{id_text}
use Rattle.line_objects.proofs.internal.put_id.Goals as goal

pub returns-in-None : goal.returns-in-None
unfolding id_text
returns-in-None c = put_as c.put.ensures (rw c.in-None.is refl) (omega arith)

pub returns-in-Some : goal.returns-in-Some
unfolding id_text
returns-in-Some c = put_as c.put_decimal.ensures (rw c.in-Some.is refl) (omega arith)
