-- The blank is put, and of the records the first i, each after a semicolon unless it is the first.
use Rattle.std.proofs.Common.{true, length, get_or}
use Rattle.call_list.specs.Records.{blank_info}
use Rattle.line_objects.proofs.Joined.{Joining}
use Rattle.line_records.specs.RecordsText.{info_text}
use Rattle.line_records.proofs.internal.put_list.Given as goal

abbrev pub invariant-loop-i : goal.invariant-loop-i
invariant-loop-i l = Joining 59 (λ _. true) (λ j. info_text (get_or l.records j blank_info)) 105 (length l.records) l.initial.out l.out l.i
