-- Refused, and what an accepted call tells.
use Rattle.std.proofs.Common.{rules}
use Rattle.kernel.specs.Calls.{try_lock, number}
use Rattle.kernel.proofs.Step.{step_refused}
use Rattle.leaf_table.proofs.Laws.{passed_started_object}
use Rattle.call_lock.proofs.Laws.{current_owned}
use Rattle.call_try_lock.proofs.internal.try_lock.Goals as goal

pub returns-in-Err : goal.returns-in-Err
unfolding number
returns-in-Err c =
    step_refused c.args.k (try_lock c.args.m) _ _ _ c.check_started_object.ensures c.in-Err.is c.refused_by.ensures

pub offset_bounds-k-m : goal.offset_bounds-k-m
offset_bounds-k-m c =
    let h = (passed_started_object c.args.k c.args.m c.in_default.ensures).1 in
    search rules

pub bounds-k-m : goal.bounds-k-m
bounds-k-m c = (passed_started_object c.args.k c.args.m c.in_default.ensures).1

pub tried-requires : goal.tried-requires
tried-requires c =
    let p = passed_started_object c.args.k c.args.m c.in_default.ensures in
    (p.0.current_slot, p.1, current_owned _ p.0)
