-- Refused, and accepted.
use Rattle.std.proofs.Common.{refl}
use Rattle.kernel.specs.Calls
use Rattle.kernel.specs.Calls.{value, effect}
use Rattle.kernel.proofs.Refusal.{accepted_number}
use Rattle.kernel.proofs.Step.{step_refused, step_accepted}
use Rattle.call_list.proofs.Laws.{list_kept, list_written, list_accepted}
use Rattle.call_list.proofs.tasks.Goals as goal

pub returns-in-Err : goal.returns-in-Err
returns-in-Err c =
    let n = c.check_list.ensures c.args.records.now refl in
    (step_refused _ (Calls.list _ _) _ _ _ n c.in-Err.is c.refused_by.ensures, list_kept _ _ _ _ _ n c.in-Err.is)

pub write_records-requires : goal.write_records-requires
write_records-requires c = list_accepted _ _ _ (accepted_number _ _ _ (c.check_list.ensures c.args.records.now refl) c.in_default.is)

pub returns : goal.returns
unfolding value effect
returns c =
    let n = c.check_list.ensures c.args.records.now refl in
    (step_accepted _ (Calls.list _ _) _ _ _ n c.in_default.is c.accepted.ensures, list_written _ _ _ _ _ _ n c.in_default.is c.write_records.ensures)
