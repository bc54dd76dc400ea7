-- The session of the programs begins with an accepted fresh: 4,096 words are enough.
use mathlib.Core.Path.{◌≡◌, refl, subst, sym}
use Rattle.base.specs.Choice.{if◌then◌otherwise◌}
use Rattle.kernel.specs.Kernel.{arena_fits}
use Rattle.kernel.specs.Calls.{init_number, Reached, fresh}
use Rattle.line_session.specs.declared.Session.{Session}
use Rattle.line_session.specs.Session.{opened}

accepted : init_number 1000 4096 ≡ 0
unfolding init_number arena_fits if◌then◌otherwise◌
accepted = refl

pub opened_reached : (s : Session) → s ≡ opened 4096 → Reached s.kernel
opened_reached s e = subst (λ (x : Session). Reached x.kernel) (sym e) (fresh 1000 4096 accepted)
