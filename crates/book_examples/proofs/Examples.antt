-- Each claim about a computed list, by computation; and the third sentence applied to one.
use mathlib.Core.Path.{◌≡◌, refl, subst}
use mathlib.Core.List.{List, [], ◌∷◌, ◌++◌}
use lib.ListN.{take, drop}
use Rattle.base.specs.Choice.{if◌then◌otherwise◌, every}
use Rattle.base.specs.Below.{all_below, any_below, count_below, sum_below, lowest_below, smallest_below, tabulate}
use Rattle.kernel.specs.declared.scheduler.Kernel.{Kernel}
use Rattle.kernel.specs.Control.{holds_task, unblocked, region_fits, regions_overlap, painted, stack_guard_ok, sp_in_range}
use Rattle.kernel.specs.WaitQueue.{position, pushed, enqueued, place_without, without, popped}
use Rattle.kernel.specs.Kernel.{arena_fits, whole, fresh_kernel, slot_of, at_id}
use Rattle.kernel.specs.Rank.{link, chain, leads_to, rank}
use Rattle.kernel.specs.Scheduler.{is_best, pick, lowest_empty, overlaps_present, is_due, is_limit_due, woken, visited, walked, clocked, advanced, sliced, wants, wants_switch, context_saved, reloaded}
use Rattle.kernel.specs.Scheduler
use Rattle.kernel.specs.Mutex
use Rattle.kernel.specs.Calls.{Call, number, value, effect, value_number, step, init, init_number}
use Rattle.book_guarantees.specs.Lists.{Returned, outcome_of, outcome, is_start}
use Rattle.book_guarantees.proofs.TurnGuarantee.{turn_guarantee}
use Rattle.book_examples.specs.Tests.{entry, between, second}
use Rattle.book_examples.specs.Examples.{run, arena, id, unpainted, mixed_calls, mixed, Mixed, two_tasks, idle_round, late_switch, smaller_number, first_sleeps, not_neighbours, other_sleeps, by_rank, smaller_rank, first_changes, other_changes, other_priority, slot_reused, Met, Fives, IdleRound, TaskRound, Needed, Changing, Reused}
use Rattle.book_examples.proofs.Checked.{stretch_is, unchanging_is, peer_is, peer_unchanging_is}

-- what the claims compute with: to unfold this is to unfold all that its line names
unfoldable pub computed : Unit {0}
unfolding arena unpainted painted mixed mixed_calls two_tasks idle_round late_switch smaller_number first_sleeps not_neighbours other_sleeps by_rank smaller_rank first_changes other_changes other_priority slot_reused outcome outcome_of is_start step number value effect value_number init init_number fresh_kernel whole arena_fits if◌then◌otherwise◌ every all_below any_below count_below lowest_below smallest_below tabulate holds_task link chain leads_to rank position pushed enqueued at_id place_without without popped Mutex.lock Mutex.unlock unblocked region_fits regions_overlap stack_guard_ok sp_in_range slot_of is_best pick lowest_empty overlaps_present is_due is_limit_due woken visited walked clocked advanced sliced wants wants_switch context_saved reloaded Scheduler.add Scheduler.start Scheduler.tick Scheduler.switch Scheduler.exit sum_below
computed = tt

pub met : Met
unfolding computed
met = record { refused = refl; mixed_fresh = refl; mixed_stretch = refl; mixed_peer = refl }

pub fives : Fives
unfolding computed
fives = record { stretch = refl; a_peer = refl; own_five = (refl, refl); peer_five = (refl, refl) }

pub idle_round_is : IdleRound
unfolding computed
idle_round_is = record { idle_stretch = refl; seventy_five = refl }

pub task_round_is : TaskRound
unfolding computed
task_round_is = record { task_stretch = refl; seventy_one = refl }

pub needed : Needed
unfolding computed
needed = record { late = refl; late_rise = refl; smaller = refl; smaller_waits = (refl, refl); first = refl; first_two = (refl, refl); neighbours = refl; neighbour_two = (refl, refl); asleep = refl; asleep_none = (refl, refl); unequal = refl; unequal_none = (refl, refl) }

pub changing : Changing
unfolding computed
changing = record { covered = (refl, refl, refl); inherited = refl; smaller = refl; smaller_waits = (refl, refl); changed = refl; changed_two = (refl, refl); unchanged = refl; unchanged_none = (refl, refl) }

pub reused : Reused
unfolding computed
reused = record { stretch = refl; falls = (refl, refl); counted = (refl, refl); adds_up = (refl, refl, refl) }

pub run_returned : (k : Kernel) (cs : List Call) → Returned k (run k cs)
run_returned k [] = tt
run_returned k (c ∷ cs) = (refl, run_returned (step k c).kernel cs)

split : mixed ≡ take 2 mixed ++ entry mixed 2 ∷ (between mixed 2 11 ++ second mixed 2 11 ∷ drop 15 mixed)
unfolding mixed mixed_calls
split = refl

mixed_returned : Returned (init 1000 2112).kernel (take 2 mixed ++ entry mixed 2 ∷ (between mixed 2 11 ++ second mixed 2 11 ∷ drop 15 mixed))
unfolding mixed
mixed_returned = subst (Returned (init 1000 2112).kernel) split (run_returned (init 1000 2112).kernel mixed_calls)

pub mixed_fair : Mixed
mixed_fair =
    let s = stretch_is mixed 2 11 1 (id 1) met.mixed_stretch in
    let u = unchanging_is mixed 2 11 1 (id 1) met.mixed_stretch in
    record {
      fresh = met.mixed_fresh;
      returned = mixed_returned;
      stretch = s;
      unchanging = u;
      a_peer = (peer_is mixed 2 11 1 2 (id 2) met.mixed_peer, peer_unchanging_is mixed 2 11 1 2 (id 2) met.mixed_peer);
      fair = turn_guarantee 1000 2112 met.mixed_fresh (take 2 mixed) (between mixed 2 11) (drop 15 mixed) (entry mixed 2) (second mixed 2 11) mixed_returned 1 (id 1) s u;
    }
