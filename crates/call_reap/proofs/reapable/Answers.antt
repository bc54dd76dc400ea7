-- What the test says of each slot that `find` came to.
use Rattle.std.proofs.Common.{◌≡◌, true, false, rules}
use Rattle.std.proofs.lemmas.Iterator.{first_from_Range}
use Rattle.kernel.specs.Scheduler.{reapable_slot}
use Rattle.call_reap.proofs.Laws.{can_be_reaped, lowest_found}
use Rattle.call_reap.proofs.reapable.Goals as goal

pub returns-clause-place : goal.returns-clause-place
unfolding reapable_slot
returns-clause-place c =
    let p = can_be_reaped c.args.k in
    lowest_found p 16 _ (first_from_Range _ _ _ _ (λ i. p i ≡ true) (λ i. p i ≡ false) c.find.ensures.ran
    (λ i q h. search rules)
    (λ i q h. (search rules, search rules)))
