-- The recursion is on the bytes that are left.
use Rattle.std.proofs.Common.{length}
use Rattle.line_text.proofs.internal.+fill.Given as goal

abbrev pub decreases-fill : goal.decreases-fill
decreases-fill g l = length l.out.now
