-- Refused with nothing altered, or added and painted.
use Rattle.std.proofs.Common.{refl, arith}
use borrow.Author.Tests.{eq-eqb}
use Rattle.base.proofs.Choices.{taken, left, via_ne}
use Rattle.kernel.specs.Calls
use Rattle.kernel.specs.Calls.{value, effect, add_words}
use Rattle.kernel.proofs.Refusal.{nonzero_refusal, refused_number, accepted_number}
use Rattle.kernel.proofs.Accepted.{add_accepted}
use Rattle.kernel.proofs.Step.{step_refused, step_accepted}
use Rattle.call_add.proofs.internal.add_task.Goals as goal

pub returns-in-Err : goal.returns-in-Err
unfolding add_words
returns-in-Err c =
    let a = c.args in
    let n = c.check_add.ensures.number a.arena.now a.priority refl in (
      step_refused a.k (Calls.add a.arena.now a.priority a.region) _ _ _ n c.in-Err.is c.refused_by.ensures,
      left _ _ _ _ (via_ne _ _ 0 (refused_number _ _ _ n c.in-Err.is) (nonzero_refusal c.in-Err.refusal)) refl,
    )

pub overflow_cast-id : goal.overflow_cast-id
overflow_cast-id c =
    let a = add_accepted _ _ _ _ (accepted_number _ _ _ (c.check_add.ensures.number c.args.arena.now c.args.priority refl) c.in-Ok.is) in
    omega arith

pub paint_region-requires : goal.paint_region-requires
paint_region-requires c =
    let a = add_accepted _ _ _ _ (accepted_number _ _ _ (c.check_add.ensures.number c.args.arena.now c.args.priority refl) c.in-Ok.is) in
    omega arith

pub added-requires : goal.added-requires
added-requires c =
    let a = add_accepted _ _ _ _ (accepted_number _ _ _ (c.check_add.ensures.number c.args.arena.now c.args.priority refl) c.in-Ok.is) in
    (c.in-Ok.ensures.slot, a.free, omega arith, a.next, a.is.tasks)

pub returns : goal.returns
unfolding value effect add_words
returns c =
    let a = c.args in
    let n = c.check_add.ensures.number a.arena.now a.priority refl in (
      step_accepted a.k (Calls.add a.arena.now a.priority a.region) _ _ _ n c.in-Ok.is (rw (c.accepted.ensures, c.added.ensures)),
      taken _ _ _ _ (eq-eqb _ 0 (accepted_number _ _ _ n c.in-Ok.is)) c.paint_region.ensures,
    )
