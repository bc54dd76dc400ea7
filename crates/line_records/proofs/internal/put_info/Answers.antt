-- Its fields, one after the other.
use Rattle.std.proofs.Common.{arith}
use Rattle.line_text.proofs.Writing.{◌⨾◌, put_within}
use Rattle.line_records.specs.RecordsText.{info_text}
use Rattle.line_records.proofs.internal.put_info.Goals as goal

pub returns : goal.returns
unfolding info_text
returns c =
    let state = rw c.number.ensures at c.put_field.ensures in
    put_within (c.put_decimal.ensures ⨾ state ⨾ c.put_field-2.ensures ⨾ c.put_field-3.ensures ⨾ c.put_field-4.ensures) (omega arith)
