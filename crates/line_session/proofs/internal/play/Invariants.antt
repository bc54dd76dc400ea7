-- After each turn of the loop, what the bytes so far make of session, arena and output.
use Rattle.std.proofs.Common.{◌≡◌, ◌*◌, ◌≤◌, length, take}
use Rattle.kernel.specs.Calls.{Reached}
use Rattle.line_session.specs.Session.{Plays, reply_room}
use Rattle.line_session.proofs.Playing.{of, line}
use Rattle.line_session.proofs.internal.play.Given as goal

abbrev pub invariant-loop-i : goal.invariant-loop-i
invariant-loop-i l =
    record {
      used : l.text.at ≤ reply_room l.tables * l.i;
      plays :
          Plays l.tables (of l.initial.kernel (line l.initial.bytes l.initial.len) 0).session l.initial.arena
          (take l.i l.input) l.arena l.initial.text.out.now l.text.out.now (of l.kernel (line l.bytes l.len) l.text.at);
      reached : Reached l.kernel;
      same_slice : l.text.out.ghost_name ≡ l.initial.text.out.ghost_name;
      same_length : length l.text.out.now ≡ length l.initial.text.out.now;
    }
