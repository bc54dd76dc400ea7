-- Refused, and fresh.
use Rattle.std.proofs.Common.{refl, ◌∙◌, arith}
use borrow.Author.Tests.{eq-eqb}
use Rattle.base.proofs.Choices.{taken, left, via_ne}
use Rattle.kernel.specs.Calls.{init, init_words}
use Rattle.kernel.proofs.Refusal.{nonzero_refusal, refused_number, accepted_number}
use Rattle.kernel.proofs.Accepted.{init_accepted}
use Rattle.call_init.proofs.init.Goals as goal

pub returns-in-Err : goal.returns-in-Err
unfolding init init_words
returns-in-Err c =
    let n = refused_number _ _ _ c.check_init.ensures c.in-Err.is in
    let z = via_ne _ _ 0 n (nonzero_refusal c.in-Err.refusal) in (
      left _ _ _ _ z (rw (← n, c.refused_by.ensures, c.blank.ensures)),
      left _ _ _ _ z refl,
    )

pub paint_region-requires : goal.paint_region-requires
paint_region-requires c =
    let a = init_accepted _ _ (accepted_number _ _ _ c.check_init.ensures c.in_default.is) in
    rw c.idle_stack.ensures (omega arith)

pub overflow_cast-words : goal.overflow_cast-words
overflow_cast-words c =
    let a = init_accepted _ _ (accepted_number _ _ _ c.check_init.ensures c.in_default.is) in
    omega arith

pub returns : goal.returns
unfolding init init_words
returns c =
    let z = eq-eqb _ 0 (accepted_number _ _ _ c.check_init.ensures c.in_default.is) in (
      taken _ _ _ _ z (rw (c.accepted.ensures, c.fresh_kernel.ensures)),
      taken _ _ _ _ z (c.paint_region.ensures ∙ rw c.idle_stack.ensures refl),
    )
