-- What the accepted call has written is added, a refused one adds nothing.
use Rattle.std.proofs.Common.{◌≡◌, sym, ap, ◌∙◌, length, length-take, arith, rules}
use native.Mathlib.Nat.{le_refl}
use Rattle.kernel.proofs.Accepted.{accepted_is}
use Rattle.line_text.proofs.Writing.{put_as, nothing_put}
use Rattle.line_records.specs.RecordsText.{list_text}
use Rattle.line_records.proofs.First.{first_alone}
use Rattle.line_dispatch.proofs.Listing.{same_answer, answered_number, same_records, nothing_added}
use Rattle.line_dispatch.proofs.internal.list.Goals as goal

pub shared_ref_as_front-records : goal.shared_ref_as_front-records
shared_ref_as_front-records c =
    let a = c.args in
    (accepted_is a.k _ (sym (answered_number a.k a.arena.now a.room _ c.list_up_to-listed.ensures.0) ∙ c.if-answer-eq0.true)).tasks

pub put_list-requires : goal.put_list-requires
put_list-requires c =
    let a = c.args in
    let number = answered_number a.k a.arena.now a.room _ c.list_up_to-listed.ensures.0 in
    let few = (accepted_is a.k _ (sym number ∙ c.if-answer-eq0.true)).tasks in
    (c.requires, omega (arith, few, length-take a.k.task_count c.list_up_to-listed.result.records))

pub returns-then-answer-eq0 : goal.returns-then-answer-eq0
returns-then-answer-eq0 c =
    let a = c.args in
    let listed = c.list_up_to-listed.ensures in
    let number = answered_number a.k a.arena.now a.room _ listed.0 in
    let tasks = (accepted_is a.k _ (sym number ∙ c.if-answer-eq0.true)).tasks in
    let sixteen : length c.list_up_to-listed.result.records ≡ 16 = search rules in
    let first = first_alone a.k.task_count c.list_up_to-listed.result.records (omega (arith, tasks, sixteen)) in
    let records = same_records a.k a.arena.now a.room _ (sym number ∙ c.if-answer-eq0.true) in (
      listed.0 ∙ same_answer a.k a.arena.now a.room,
      put_as c.put_list.ensures (first ∙ ap (list_text a.k.task_count) listed.1 ∙ records) (le_refl _),
    )

pub returns-else-answer-eq0 : goal.returns-else-answer-eq0
returns-else-answer-eq0 c =
    let a = c.args in
    let listed = c.list_up_to-listed.ensures in
    let number = answered_number a.k a.arena.now a.room _ listed.0 in
    let nothing = nothing_added a.k a.arena.now a.room (λ z. c.if-answer-eq0.false (number ∙ z)) in
    (listed.0 ∙ same_answer a.k a.arena.now a.room, put_as (nothing_put {most = 0} _) nothing (omega arith))
