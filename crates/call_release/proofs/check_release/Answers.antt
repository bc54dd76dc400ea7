-- The object first, then its count.
use Rattle.std.proofs.Common.{rules, refl, drop}
use borrow.Author.Tests.{eq-eqb, ne_eqb}
use Rattle.base.proofs.Choices.{taken, left}
use Rattle.kernel.specs.Calls.{release, checks, number}
use Rattle.kernel.proofs.Checks.{failed_early, passed_early}
use Rattle.leaf_table.proofs.Laws.{early_object_checks, passed_object}
use Rattle.call_release.proofs.check_release.Goals as goal

pub returns-in_err-check_object : goal.returns-in_err-check_object
unfolding number
returns-in_err-check_object c =
    let a = c.args in
    failed_early (early_object_checks a.k.now a.s) (drop 1 (checks a.k.now (release a.s))) _ _
    c.from_residual.ensures.1 c.in_err-check_object.ensures

pub offset_bounds-k-s : goal.offset_bounds-k-s
offset_bounds-k-s c =
    let h = (passed_object _ _ c.in_ok-check_object.ensures).1 in
    search rules

pub bounds-k-s : goal.bounds-k-s
bounds-k-s c = (passed_object _ _ c.in_ok-check_object.ensures).1

pub returns-then-k-s : goal.returns-then-k-s
unfolding number
returns-then-k-s c =
    let a = c.args in
    passed_early (early_object_checks a.k.now a.s) (drop 1 (checks a.k.now (release a.s))) _ refl
    c.in_ok-check_object.ensures (taken _ _ _ _ (eq-eqb _ _ c.if-k-s.true) refl)

pub returns : goal.returns
unfolding number
returns c =
    let a = c.args in
    passed_early (early_object_checks a.k.now a.s) (drop 1 (checks a.k.now (release a.s))) _ refl
    c.in_ok-check_object.ensures (left _ _ _ _ (ne_eqb _ _ c.if-k-s.false) refl)
