-- Its three numbers, one after the other.
use Rattle.std.proofs.Common.{arith}
use Rattle.line_text.proofs.Writing.{◌⨾◌, put_within}
use Rattle.line_answer.proofs.internal.put_answer.Goals as goal

pub returns : goal.returns
returns c = put_within (c.put_hex.ensures ⨾ c.put_hex-2.ensures ⨾ c.put_hex-3.ensures) (omega arith)
