-- Its thirteen fields, one after the other; what is read back of the result is the result.
use Rattle.std.proofs.Common.{w32, arith, rules}
use mir.Val.{SFits}
use Rattle.std.proofs.Math.Facts.{to_z-of_z}
use Rattle.line_text.proofs.Writing.{◌⨾◌, put_within}
use Rattle.line_table.specs.TableLine.{slot_text}
use Rattle.line_table.proofs.internal.FieldsShown.put.Goals as goal

pub returns : goal.returns
unfolding slot_text
returns c =
    let fits : SFits w32 c.args.t.now.result = search rules in
    let result = rw (to_z-of_z fits) at c.put_signed.ensures in
    let state = rw c.number.ensures at c.put_field-2.ensures in
    let numbers = c.put_decimal.ensures ⨾ c.put_field.ensures ⨾ state ⨾ c.put_field-3.ensures in
    let times = numbers ⨾ c.put_field-4.ensures ⨾ c.put_field-5.ensures ⨾ c.put_field-6.ensures ⨾ c.put_field-7.ensures in
    let stack = times ⨾ c.put_id_field.ensures ⨾ c.put_field-8.ensures ⨾ c.put_field-9.ensures ⨾ c.put_field-10.ensures in
    put_within (stack ⨾ c.put.ensures ⨾ result) (omega arith)
