-- By the contracts of `dispatch` and `put_reply`.
use Rattle.std.proofs.Common.{refl, sym, ap, subst, ◌∙◌, arith}
use native.Mathlib.Nat.{le_refl}
use Rattle.std.specs.Prelude.{Option}
use Rattle.base.proofs.Choices.{implies}
use Rattle.kernel.specs.declared.scheduler.Answer.{Answer}
use Rattle.kernel.specs.Calls.{Reached}
use Rattle.kernel.proofs.Reached.{reached_whole}
use Rattle.line_frame.specs.declared.Frame.{Frame}
use Rattle.line_text.proofs.Writing.{put_as}
use Rattle.line_dispatch.specs.Dispatch.{answer_to, words_after, added_to}
use Rattle.line_dispatch.proofs.Reached.{frame_reached}
use Rattle.line_session.proofs.Playing.{written_first, same_reply}
use Rattle.line_session.proofs.internal.end_line.Goals as goal

pub dispatch-a-requires : goal.dispatch-a-requires
dispatch-a-requires c = (implies c.args.known.now _ (λ _. reached_whole c.requires.1), omega arith)

pub returns-in_default-clause-value : goal.returns-in_default-clause-value
unfolding answer_to words_after added_to
returns-in_default-clause-value c =
    rw (sym c.frame.ensures ∙ c.in_default.is)
    (refl, refl, put_as c.put_reply.ensures (same_reply c.args.tables c.no_call.ensures refl) (le_refl _))

pub returns-clause-value : goal.returns-clause-value
returns-clause-value c =
    let a = c.args in
    let dispatched = c.dispatch-a.ensures in
    let framed = sym c.in-Some.is ∙ c.frame.ensures in
    let answer = dispatched.0 ∙ ap (λ (f : Option Frame). answer_to a.k a.arena.now f) framed in
    let words = dispatched.1 ∙ ap (λ (f : Option Frame). words_after a.k a.arena.now f) framed in
    let first = written_first _ dispatched.2.writes (omega (arith, c.requires.2, dispatched.2.short, dispatched.2.same_length)) in
    let added = first ∙ ap (λ (f : Option Frame). added_to a.k a.arena.now f) framed in
    (ap (λ (x : Answer). x.kernel) answer, words, put_as c.put_reply-2.ensures (same_reply a.tables answer added) (le_refl _))

pub returns-clause-reached : goal.returns-clause-reached
returns-clause-reached c =
    let is = sym c.dispatch-a.ensures.0 in
    subst (λ (x : Answer). Reached x.kernel) is (frame_reached c.args.arena.now _ c.requires.1)
