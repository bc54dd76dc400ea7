-- The bracket, the ids that wait, the bracket.
use Rattle.std.proofs.Common.{◌*◌, ap, ◌∙◌, ◌≡◌, ◌≤◌, length, take, length-take, decimal, arith, rules}
use Rattle.kernel.specs.declared.control.TaskId.{TaskId}
use Rattle.line_text.proofs.Writing.{◌⨾◌, put_within, put_as}
use Rattle.line_objects.specs.ObjectsLine.{joined, queue_text}
use Rattle.line_objects.proofs.Joined.{joined_taken, joined_first}
use Rattle.line_objects.proofs.internal.put_queue.Goals as goal

pub put-requires-2 : goal.put-requires-2
put-requires-2 c =
    let eight : length c.args.q.ids ≡ 8 = search rules in
    let many = length-take c.min.result c.args.q.ids in
    omega (arith, c.requires, c.put.ensures.short, c.put.ensures.same_length, c.put_each.ensures.short, c.put_each.ensures.same_length, many)

pub returns : goal.returns
unfolding queue_text
returns c =
    let ids = c.args.q.ids in
    let eight : length ids ≡ 8 = search rules in
    let few : 21 * length (take c.min.result ids) ≤ 168 = omega (arith, length-take c.min.result ids) in
    let first : c.min.result ≤ length ids = omega (arith, c.min.ensures) in
    let text = joined_taken 32 (λ (a : TaskId). decimal a.0) ids _ c.min.result first ∙ ap (joined 32 _ _) c.min.ensures ∙ joined_first 32 _ c.args.q.len 8 in
    put_within (c.put.ensures ⨾ put_as c.put_each.ensures text few ⨾ c.put-2.ensures) (omega arith)
