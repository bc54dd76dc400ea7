-- The kernel is one from fresh.
use Rattle.kernel.specs.Calls.{Reached}
use Rattle.line_program.proofs.Program.play_input.Given as goal

abbrev pub invariant-loop : goal.invariant-loop
invariant-loop l = Reached l.session.kernel
