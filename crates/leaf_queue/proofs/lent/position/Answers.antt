-- The first place of those below the length that has the id.
use Rattle.std.proofs.Common.{rules, tests, ◌≡◌, take, arith}
use Rattle.std.specs.List.{position}
use Rattle.std.proofs.lemmas.Iterator.{YieldsList-from_slice, YieldsList-from_take}
use Rattle.std.proofs.lemmas.Iterator.Search.{position_from_yields_List}
use Rattle.kernel.specs.Control.{same_id}
use Rattle.kernel.specs.WaitQueue as queue
use Rattle.kernel.specs.WaitQueue.{zero_id}
use Rattle.leaf_queue.proofs.Places.{position_taken}
use Rattle.leaf_queue.proofs.lent.position.Goals as goal

pub returns-clause-place : goal.returns-clause-place
unfolding queue.position
returns-clause-place c =
    let q = c.args.q.now in
    let e : c.position.result ≡ position (λ x. same_id x c.args.id) (take q.len q.ids) =
    position_from_yields_List (λ x. same_id x c.args.id) _ _ _ c.position.ensures.ran (YieldsList-from_take q.len (YieldsList-from_slice q.ids cc) cc) (λ x b q k. search (rules, tests))
    in
    rw e (position_taken (λ x. same_id x c.args.id) q.ids zero_id q.len 8 (omega arith))
