-- The flag, then the queue.
use Rattle.std.proofs.Common.{arith}
use Rattle.line_text.proofs.Writing.{◌⨾◌, put_within}
use Rattle.line_objects.specs.ObjectsLine.{event_text}
use Rattle.line_objects.proofs.internal.EventPrinted.put.Goals as goal

pub returns : goal.returns
unfolding event_text
returns c = put_within (c.put_flag.ensures ⨾ c.put_waiters.ensures) (omega arith)
