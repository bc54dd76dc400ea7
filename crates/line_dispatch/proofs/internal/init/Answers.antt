-- Refused, and k stays; accepted, and the fresh kernel takes its place.
use Rattle.std.proofs.Common.{refl}
use Rattle.line_dispatch.proofs.Fresh.{fresh_refused, fresh_accepted}
use Rattle.line_dispatch.proofs.internal.init.Goals as goal

pub returns-then-a-ne0 : goal.returns-then-a-ne0
returns-then-a-ne0 c =
    let made = c.init-a.ensures in
    (fresh_refused c.args.k _ _ made.0 _ c.if-a-ne0.true refl, made.1)

pub returns : goal.returns
returns c = let made = c.init-a.ensures in (fresh_accepted c.args.k _ _ made.0 c.if-a-ne0.false, made.1)
