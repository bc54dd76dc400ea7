-- The segments, with a bar between them, and a line feed.
use Rattle.std.proofs.Common.{◌≡◌, length, decimal, arith, rules}
use Rattle.line_text.specs.Text.{Puts}
use Rattle.line_text.proofs.Writing.{◌⨾◌, put_within, put_as}
use Rattle.line_objects.proofs.Joined.{joined_items}
use Rattle.line_table.specs.TableLine.{charges_text, table_line}
use Rattle.line_table.proofs.internal.put_table.Goals as goal

pub returns : goal.returns
unfolding charges_text table_line
returns c =
    let k = c.args.k in
    let sixteen : length k.charges ≡ 16 = search rules in
    let charges : Puts 336 _ (charges_text k) _ = put_as c.put_each.ensures (joined_items 44 decimal k.charges 0 16 sixteen) (omega arith) in
    let first = c.put_occupied.ensures ⨾ c.put_text.ensures ⨾ c.put_scheduler.ensures ⨾ c.put_text-2.ensures ⨾ c.put_objects.ensures in
    let second = first ⨾ c.put_text-3.ensures ⨾ charges ⨾ c.put_text-4.ensures ⨾ c.put_occupied-2.ensures in
    put_within (second ⨾ c.put_text-5.ensures ⨾ c.put_ranks.ensures ⨾ c.put_text-6.ensures ⨾ c.put_decimal.ensures ⨾ c.put.ensures) (omega arith)
