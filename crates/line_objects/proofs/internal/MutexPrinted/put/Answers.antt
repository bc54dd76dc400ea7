-- The flag, the two ids, the queue.
use Rattle.std.proofs.Common.{arith}
use Rattle.line_text.proofs.Writing.{◌⨾◌, put_within}
use Rattle.line_objects.specs.ObjectsLine.{mutex_text}
use Rattle.line_objects.proofs.internal.MutexPrinted.put.Goals as goal

pub returns : goal.returns
unfolding mutex_text
returns c = put_within (c.put_flag.ensures ⨾ c.put_id_field.ensures ⨾ c.put_id_field-2.ensures ⨾ c.put_waiters.ensures) (omega arith)
