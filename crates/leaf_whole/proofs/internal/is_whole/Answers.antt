-- Its tests, joined from the left, are the definition's list, once what is said of each list is said by its numbers.
use Rattle.std.proofs.Common.{◌≡◌, [], ◌∷◌, leb, length, ◌∙◌, rules}
use Rattle.std.specs.List.{list_all}
use Rattle.std.proofs.lemmas.List.Folds.{list_all-append, list_all-map}
use Rattle.base.specs.Below.{all_below}
use Rattle.base.proofs.Choices.{joined_every}
use Rattle.base.proofs.Lists.{all_each_below, count_each_below, all_both}
use Rattle.base.proofs.Loops.{unmapped}
use Rattle.kernel.specs.Control.{blank_slot}
use Rattle.kernel.specs.Kernel.{mutex, semaphore, event, whole}
use Rattle.leaf_whole.proofs.internal.is_whole.Goals as goal

pub returns : goal.returns
unfolding whole
returns c =
    let k = c.args.k in
    let tasks : length k.tasks ≡ 16 = search unmapped in
    let mutexes : list_all (λ m. leb m.waiters.len 8) k.mutexes ≡ all_below (λ o. leb (mutex k o).waiters.len 8) 4 =
    all_each_below _ k.mutexes _ 4 (search (unmapped, rules)) in
    let semaphores : list_all (λ s. leb s.waiters.len 8) k.semaphores ≡ all_below (λ o. leb (semaphore k o).waiters.len 8) 4 =
    all_each_below _ k.semaphores _ 4 (search (unmapped, rules)) in
    let events : list_all (λ e. leb e.waiters.len 8) k.events ≡ all_below (λ o. leb (event k o).waiters.len 8) 4 =
    all_each_below _ k.events _ 4 (search (unmapped, rules)) in
    rw (c.limits_whole.ensures ∙ all_each_below _ k.tasks blank_slot 16 tasks, c.is_some-charged.ensures ∙ c.uncharged.ensures, c.owned_whole.ensures ∙ all_each_below _ k.tasks blank_slot 16 tasks, c.occupied.ensures ∙ count_each_below _ k.tasks blank_slot 16 tasks, c.queues_whole.ensures, list_all-append, list_all-append, list_all-map _ (λ m. m.waiters.len) k.mutexes, list_all-map _ (λ s. s.waiters.len) k.semaphores, list_all-map, mutexes, semaphores, events, all_both, all_both, c.regions_whole.ensures ∙ all_each_below _ k.tasks blank_slot 16 tasks, c.is_occupied-2.ensures, c.is_occupied.ensures, c.arena_fits.ensures)
    (joined_every _ (_ ∷ _ ∷ _ ∷ _ ∷ _ ∷ _ ∷ _ ∷ _ ∷ _ ∷ _ ∷ []))
