-- The digits and a line feed; with the table, what is added between them and the table after them.
use Rattle.std.proofs.Common.{ℕ, ap, arith}
use native.Mathlib.Nat.{le_refl}
use Rattle.line_answer.specs.AnswerLine.{answer_text}
use Rattle.line_text.proofs.Writing.{◌⨾◌, put_as}
use Rattle.line_session.proofs.Playing.{answer_room, with_table, answer_alone, answer_and_table}
use Rattle.line_session.proofs.internal.put_reply.Goals as goal

pub put_answer-requires : goal.put_answer-requires
put_answer-requires c = omega (arith, answer_room c.args.tables)

pub put_text-requires : goal.put_text-requires
put_text-requires c =
    omega (arith, with_table c.args.tables c.if-tables.true, c.put_answer.ensures.short, c.put_answer.ensures.same_length)

pub put-requires : goal.put-requires
put-requires c =
    let before = c.put_answer.ensures ⨾ c.put_text.ensures in
    omega (arith, with_table c.args.tables c.if-tables.true, c.requires.1, before.short, before.same_length)

pub put_table-requires : goal.put_table-requires
put_table-requires c =
    let line = c.put_answer.ensures ⨾ c.put_text.ensures ⨾ c.put.ensures in
    omega (arith, with_table c.args.tables c.if-tables.true, c.requires.1, line.short, line.same_length)

pub put-requires-else-tables : goal.put-requires-else-tables
put-requires-else-tables c = omega (arith, answer_room c.args.tables, c.put_answer.ensures.short, c.put_answer.ensures.same_length)

pub returns-then-tables : goal.returns-then-tables
returns-then-tables c =
    let a = c.args in
    let number = ap (λ (v : ℕ). answer_text a.a.number v a.a.kernel.current.0) c.value_number-number.ensures in
    let line = put_as c.put_answer.ensures number (le_refl _) ⨾ c.put_text.ensures ⨾ c.put.ensures in
    put_as (line ⨾ c.put_table.ensures) (answer_and_table _ a.a a.added.now c.if-tables.true) (omega (arith, with_table a.tables c.if-tables.true))

pub returns-else-tables : goal.returns-else-tables
returns-else-tables c =
    let a = c.args in
    let number = ap (λ (v : ℕ). answer_text a.a.number v a.a.kernel.current.0) c.value_number-number.ensures in
    put_as (put_as c.put_answer.ensures number (le_refl _) ⨾ c.put-else-tables.ensures) (answer_alone _ a.a a.added.now c.if-tables.false) (answer_room a.tables)
