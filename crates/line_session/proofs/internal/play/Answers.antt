-- Nothing is played at first; a turn ends the line, or lengthens it by a byte that has room or by one that has none.
use Rattle.std.proofs.Common.{◌≡◌, ◌<◌, refl, ap, ◌∙◌, length, arith}
use Rattle.line_text.specs.declared.Text.{Text}
use Rattle.line_session.specs.Session.{reply_room}
use Rattle.line_session.proofs.Playing.{line, nothing_played, played_more, played_line, same_line, short_line, long_line, room_used, written_as}
use Rattle.line_session.proofs.internal.play.Goals as goal
use Rattle.line_session.proofs.internal.play.Goals.{then-b-eq10, else-b-eq10+then-len-lt-ROOM, else-b-eq10+else-len-lt-ROOM}

written : {t u : Text} → t ≡ u → t.out.now ≡ u.out.now
written e = ap (λ (x : Text). x.out.now) e

place : {t u : Text} → t ≡ u → t.at ≡ u.at
place e = ap (λ (x : Text). x.at) e

slice : {t u : Text} → t ≡ u → t.out.ghost_name ≡ u.out.ghost_name
slice e = ap (λ (x : Text). x.out.ghost_name) e

pub loop-i-init : goal.loop-i-init
loop-i-init c = record { used = omega arith; plays = nothing_played _ _ _ _; reached = c.requires.1; same_slice = refl; same_length = refl }

pub loop-i-preserved : goal.loop-i-preserved
loop-i-preserved c =
    let l = c.loop-i in
    let input = c.args.input.now in
    let each = reply_room c.args.tables in
    let before = l.invariant in
    let more : l.i < length input = omega arith in
    elim c.if-b-eq10.branch [
      | then-b-eq10 w ↦
          let ended = w.end_line-kernel.ensures in
          let text = written_as (written w.text-is) (place w.text-is) ended.value.2.writes in
          record {
            used = room_used each l.i l.text.at _ before.used (omega (arith, place w.text-is, ended.value.2.short));
            plays =
                played_line input l.i more w.if-b-eq10.true before.plays
                (w.kernel-is ∙ ended.value.0) (same_line w.bytes-is w.len-is) (w.arena-is ∙ ended.value.1) text;
            reached = rw w.kernel-is ended.reached;
            same_slice = slice w.text-is ∙ ended.value.2.same_slice ∙ before.same_slice;
            same_length = ap length (written w.text-is) ∙ ended.value.2.same_length ∙ before.same_length;
          }
      | else-b-eq10+then-len-lt-ROOM w ↦
          let longer = same_line w.bytes-is w.len-is ∙ short_line (line l.bytes l.len) _ w.if-len-lt-ROOM.true in
          record {
            used = room_used each l.i l.text.at _ before.used (omega (arith, place w.text-is));
            plays =
                played_more input l.i more w.if-b-eq10.false before.plays
                w.kernel-is longer w.arena-is (written w.text-is) (place w.text-is);
            reached = rw w.kernel-is before.reached;
            same_slice = slice w.text-is ∙ before.same_slice;
            same_length = ap length (written w.text-is) ∙ before.same_length;
          }
      | else-b-eq10+else-len-lt-ROOM w ↦
          let longer = same_line w.bytes-is w.len-is ∙ long_line (line l.bytes l.len) _ w.if-len-lt-ROOM.false in
          record {
            used = room_used each l.i l.text.at _ before.used (omega (arith, place w.text-is));
            plays =
                played_more input l.i more w.if-b-eq10.false before.plays
                w.kernel-is longer w.arena-is (written w.text-is) (place w.text-is);
            reached = rw w.kernel-is before.reached;
            same_slice = slice w.text-is ∙ before.same_slice;
            same_length = ap length (written w.text-is) ∙ before.same_length;
          }
    ]
