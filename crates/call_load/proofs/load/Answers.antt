-- Refused, and the share with its remainder.
use Rattle.std.proofs.Common.{◌≡◌, ◌≤◌, ◌<◌, refl, arith}
use borrow.Author.Tests.{ltb-true, eqb-false}
use Rattle.base.proofs.Choices.{not_clear}
use Rattle.kernel.specs.declared.control.TaskId.{TaskId}
use Rattle.kernel.specs.declared.scheduler.Kernel.{Kernel}
use Rattle.kernel.specs.Kernel.{charge, charge_sum, slot_of}
use Rattle.kernel.specs.Calls
use Rattle.kernel.specs.Calls.{number, value, effect}
use Rattle.kernel.proofs.Accepted.{accepted_at}
use Rattle.kernel.proofs.Refusal.{accepted_number}
use Rattle.kernel.proofs.Step.{step_refused, step_accepted}
use Rattle.kernel.proofs.Load.{load_is, charge_within}
use Rattle.call_load.proofs.load.Goals as goal

-- what the call asks for, where it is accepted: a slot, ticks, and no more of them its task's
slot_found : (k : Kernel) (a : TaskId) → number k (Calls.load a) ≡ 0 → slot_of k a < 16
slot_found k a e = ltb-true _ _ (not_clear _ (accepted_at k (Calls.load a) 0 refl e))

some_tick : (k : Kernel) (a : TaskId) → number k (Calls.load a) ≡ 0 → 0 < charge_sum k
some_tick k a e = let n = eqb-false (charge_sum k) 0 (accepted_at k (Calls.load a) 1 refl e) in omega (arith, n)

charge_fits : (k : Kernel) (a : TaskId) → number k (Calls.load a) ≡ 0 → charge k (slot_of k a) ≤ charge_sum k
charge_fits k a e = charge_within k (slot_of k a) (slot_found k a e)

pub offset_bounds-k-i : goal.offset_bounds-k-i
offset_bounds-k-i c =
    let s = slot_found _ _ (accepted_number _ _ _ c.check_load.ensures.number c.in-Ok.is) in
    omega (arith, s, c.in-Ok.ensures.found.0)

pub bounds-k-i : goal.bounds-k-i
bounds-k-i c =
    let s = slot_found _ _ (accepted_number _ _ _ c.check_load.ensures.number c.in-Ok.is) in
    rw c.in-Ok.ensures.found.0 s

pub thousandfold-p-requires : goal.thousandfold-p-requires
thousandfold-p-requires c =
    let e = accepted_number _ _ _ c.check_load.ensures.number c.in-Ok.is in
    rw (c.in-Ok.ensures.found.0, c.in-Ok.ensures.found.1) (some_tick _ _ e, charge_fits _ _ e)

pub returns-in-Err : goal.returns-in-Err
returns-in-Err c = step_refused _ (Calls.load _) _ _ _ c.check_load.ensures.number c.in-Err.is c.refused_by.ensures

pub returns-in-Ok : goal.returns-in-Ok
unfolding value effect
returns-in-Ok c =
    let e = accepted_number _ _ _ c.check_load.ensures.number c.in-Ok.is in
    let found = load_is (charge_fits _ _ e) (rw (c.in-Ok.ensures.found.0, c.in-Ok.ensures.found.1) at c.thousandfold-p.ensures) in
    step_accepted _ (Calls.load _) _ _ _ c.check_load.ensures.number c.in-Ok.is
    (rw (c.accepted.ensures, found.0, found.1) refl)
