-- The checks in their order. A whole kernel's region lies in the arena, so its first four words do.
use Rattle.std.proofs.Common.{[], ◌∷◌, refl, arith, rules}
use borrow.Author.Tests.{eq-eqb, ne_eqb}
use Rattle.base.proofs.Choices.{taken, left}
use Rattle.kernel.specs.Calls
use Rattle.kernel.specs.Calls.{number, first_of, not_whole, checks}
use Rattle.kernel.proofs.Checks.{failed_early, passed_early}
use Rattle.kernel.proofs.Whole.{is_whole}
use Rattle.leaf_table.proofs.Laws.{passed_whole}
use Rattle.call_switch.proofs.check_switch.Goals as goal

pub returns-in_err-check : goal.returns-in_err-check
unfolding number
returns-in_err-check c =
    failed_early (not_whole c.args.k.now ∷ []) (checks c.args.k.now (Calls.switch c.args.arena.now c.args.sp)) _ _
    c.from_residual.ensures.1 c.in_err-check.ensures

pub returns-then-arena-k : goal.returns-then-arena-k
unfolding number
returns-then-arena-k c =
    passed_early (not_whole c.args.k.now ∷ []) (checks c.args.k.now (Calls.switch c.args.arena.now c.args.sp)) _ refl c.in_ok-check.ensures
    (taken _ _ _ _ (rw (ne_eqb _ _ c.if-arena-k.true) refl) refl)

pub returns-then-not-k : goal.returns-then-not-k
unfolding number
returns-then-not-k c =
    passed_early (not_whole c.args.k.now ∷ []) (checks c.args.k.now (Calls.switch c.args.arena.now c.args.sp)) _ refl c.in_ok-check.ensures
    (left _ _ _ _ (rw (eq-eqb _ _ c.if-arena-k.false) refl) (taken _ _ _ _ (rw c.if-not-k.true refl) refl))

pub offset_bounds-k-k : goal.offset_bounds-k-k
offset_bounds-k-k c = search ((is_whole _ (passed_whole _ c.in_ok-check.ensures)).current_slot, rules)

pub bounds-k-k : goal.bounds-k-k
bounds-k-k c = (is_whole _ (passed_whole _ c.in_ok-check.ensures)).current_slot

pub check_stack-requires : goal.check_stack-requires
check_stack-requires c =
    let w = is_whole _ (passed_whole _ c.in_ok-check.ensures) in
    omega (arith, w.region c.args.k.now.current.0 w.current_slot w.running, c.if-arena-k.false)

pub returns : goal.returns
unfolding number
returns c =
    passed_early (not_whole c.args.k.now ∷ []) (checks c.args.k.now (Calls.switch c.args.arena.now c.args.sp)) _ refl c.in_ok-check.ensures
    (left _ _ _ _ (rw (eq-eqb _ _ c.if-arena-k.false) refl) (left _ _ _ _ (rw c.if-not-k.false refl) c.check_stack.ensures))
