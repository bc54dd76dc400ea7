-- The count, then the queue.
use Rattle.std.proofs.Common.{arith}
use Rattle.line_text.proofs.Writing.{◌⨾◌, put_within}
use Rattle.line_objects.specs.ObjectsLine.{semaphore_text}
use Rattle.line_objects.proofs.internal.SemaphorePrinted.put.Goals as goal

pub returns : goal.returns
unfolding semaphore_text
returns c = put_within (c.put_decimal.ensures ⨾ c.put_waiters.ensures) (omega arith)
