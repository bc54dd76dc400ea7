-- The checks that it shares, the limit, then those of `acquire`.
use Rattle.std.proofs.Common.{refl, drop}
use borrow.Author.Tests.{eq-eqb, ne_eqb}
use Rattle.base.proofs.Choices.{taken, left}
use Rattle.kernel.specs.Calls.{acquire_within, checks, number}
use Rattle.kernel.proofs.Checks.{failed_early, passed_early}
use Rattle.leaf_table.proofs.Laws.{object_checks, passed_started_object}
use Rattle.call_acquire.proofs.check_acquire_within.Goals as goal

pub returns-in_err-check_started_object : goal.returns-in_err-check_started_object
unfolding number
returns-in_err-check_started_object c =
    let a = c.args in
    failed_early (object_checks a.k.now a.s) (drop 2 (checks a.k.now (acquire_within a.s a.ticks))) _ _
    c.from_residual.ensures.1 c.in_err-check_started_object.ensures

pub returns-then-ticks-eq0 : goal.returns-then-ticks-eq0
unfolding number
returns-then-ticks-eq0 c =
    let a = c.args in
    passed_early (object_checks a.k.now a.s) (drop 2 (checks a.k.now (acquire_within a.s a.ticks))) _ refl
    c.in_ok-check_started_object.ensures (taken _ _ _ _ (eq-eqb a.ticks 0 c.if-ticks-eq0.true) refl)

pub check_queue-requires : goal.check_queue-requires
check_queue-requires c = let p = passed_started_object _ _ c.in_ok-check_started_object.ensures in (p.0.current_slot, p.1)

pub returns : goal.returns
unfolding number
returns c =
    let a = c.args in
    passed_early (object_checks a.k.now a.s) (drop 2 (checks a.k.now (acquire_within a.s a.ticks))) _ refl
    c.in_ok-check_started_object.ensures (left _ _ _ _ (ne_eqb a.ticks 0 c.if-ticks-eq0.false) c.check_queue.ensures)
