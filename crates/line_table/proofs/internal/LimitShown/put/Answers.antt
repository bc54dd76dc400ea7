-- Its fields, one after the other.
use Rattle.std.proofs.Common.{arith}
use Rattle.line_text.proofs.Writing.{◌⨾◌, put_within}
use Rattle.line_table.specs.TableLine.{limit_text}
use Rattle.line_table.proofs.internal.LimitShown.put.Goals as goal

pub returns : goal.returns
unfolding limit_text
returns c = put_within (c.put_decimal.ensures ⨾ c.put_kept.ensures ⨾ c.put.ensures ⨾ c.put_flag.ensures) (omega arith)
