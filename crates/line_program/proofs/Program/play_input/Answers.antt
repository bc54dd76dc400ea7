-- The session begins with a kernel from fresh.
use Rattle.line_session.proofs.Opened.{opened_reached}
use Rattle.line_program.proofs.Program.play_input.Goals as goal

pub loop-init : goal.loop-init
loop-init c = opened_reached _ c.open-session.ensures.0
