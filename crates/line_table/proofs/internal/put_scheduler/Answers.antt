-- Its five fields, one after the other.
use Rattle.std.proofs.Common.{arith}
use Rattle.line_text.proofs.Writing.{◌⨾◌, put_within}
use Rattle.line_table.specs.TableLine.{scheduler_text}
use Rattle.line_table.proofs.internal.put_scheduler.Goals as goal

pub returns : goal.returns
unfolding scheduler_text
returns c =
    put_within (c.put_decimal.ensures ⨾ c.put.ensures ⨾ c.put_flag.ensures ⨾ c.put_field.ensures ⨾ c.put_field-2.ensures ⨾ c.put_field-3.ensures) (omega arith)
