-- Nothing, or a line feed that ends the line.
use Rattle.std.proofs.Common.{refl, [], ◌∷◌, arith, rules, eq-eqb, ne_eqb}
use Rattle.base.proofs.Choices.{taken, left}
use Rattle.line_session.proofs.Playing.{nothing_played, played_line, played_into, same_bytes}
use Rattle.line_session.proofs.internal.finish.Goals as goal

pub returns-then-line-eq0-clause-plays : goal.returns-then-line-eq0-clause-plays
returns-then-line-eq0-clause-plays c =
    let a = c.args in
    same_bytes (taken _ _ _ _ (eq-eqb a.s.line.len 0 c.if-line-eq0.true) refl) (nothing_played a.tables a.s a.arena.now a.out.now)

pub returns-clause-plays : goal.returns-clause-plays
returns-clause-plays c =
    let a = c.args in
    let ended = c.end_line-kernel.ensures.value in
    let nothing = nothing_played a.tables a.s a.arena.now a.out.now in
    let played = played_line (10 ∷ []) 0 (omega arith) refl nothing ended.0 c.empty-line.ensures ended.1 ended.2.writes in
    played_into (same_bytes (left _ _ _ _ (ne_eqb a.s.line.len 0 c.if-line-eq0.false) refl) played) (search rules)
