-- The comma, the queue, the semicolon.
use Rattle.std.proofs.Common.{arith}
use Rattle.line_text.proofs.Writing.{◌⨾◌, put_within}
use Rattle.line_objects.proofs.internal.put_waiters.Goals as goal

pub returns : goal.returns
returns c = put_within (c.put.ensures ⨾ c.put_queue.ensures ⨾ c.put-2.ensures) (omega arith)
