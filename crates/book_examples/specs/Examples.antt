-- Computed lists: one that meets every premise of the third sentence, lists in which its bounds are met, and for each condition on what happens between, and on a peer, a list that meets all others, in which
-- the claim fails.
use Rattle.std.specs.Prelude.{◌≡◌, true, false, List, [], ◌∷◌, ◌++◌, map, ℕ, zero, suc, ◌+◌, ◌*◌, eqb, take, drop, replicate}
use Rattle.base.specs.Choice.{if◌then◌otherwise◌, every}
use Rattle.kernel.specs.declared.control.TaskId.{TaskId}
use Rattle.kernel.specs.declared.control.StackRegion.{StackRegion}
use Rattle.kernel.specs.declared.scheduler.Kernel.{Kernel}
use Rattle.kernel.specs.Control.{paint, painted}
use Rattle.kernel.specs.Kernel.{charge}
use Rattle.kernel.specs.Rank.{rank}
use Rattle.kernel.specs.Calls.{Call, add, start, tick, switch, sleep, wake, exit, reap, lock, unlock, step, init, init_number}
use Rattle.base.specs.Below.{sum_below, tabulate}
use Rattle.book_guarantees.specs.Lists.{Entry, after, Returned, ticks_after_start}
use Rattle.book_guarantees.specs.Turns.{Stretch, Peer, Unchanging, Fair}
use Rattle.book_guarantees.specs.Charges.{occupied_charges}
use Rattle.book_examples.specs.Tests.{entry, between, second, conditions, peer, turns_of, ticks_of, rise_of}

-- ---- lists of calls, from a fresh kernel with hz 1000 and 2,112 words

abbrev pub run : Kernel → List Call → List Entry
run k [] = []
run k (c ∷ cs) = record { call = c; answer = step k c } ∷ run (step k c).kernel cs

abbrev pub played : List Call → List Entry
played cs = run (init 1000 2112).kernel cs

unfoldable pub arena : List ℕ
arena = replicate 2112 paint

-- task n, from 1, gets the 16 bytes from 8,176 + 16 n on; n 0 is idle, whose last 16 bytes those are
abbrev pub region : ℕ → StackRegion
region n = record { start = 8176 + 16 * n; size = 16 }

abbrev pub task : ℕ → ℕ → Call
task n p = add arena (record { 0 = p }) (region n)

-- a switch while task n is current
abbrev pub leave : ℕ → Call
leave n = switch arena (8176 + 16 * n)

abbrev pub id : ℕ → TaskId
id n = record { 0 = n }

abbrev pub tasks : ℕ → ℕ → ℕ → List Call
tasks p n zero = []
tasks p n (suc m) = task n p ∷ tasks p (suc n) m

-- five ticks and a switch of the tasks from n on, m of them
abbrev pub rounds : ℕ → ℕ → List Call
rounds n zero = []
rounds n (suc m) = tick ∷ tick ∷ tick ∷ tick ∷ tick ∷ leave n ∷ rounds (suc n) m

-- ---- refused calls, and words that are not painted

unfoldable pub unpainted : List ℕ
unpainted = replicate 2112 0

-- a switch while task n is current, with no region painted but its own
abbrev pub leave_unpainted : ℕ → Call
leave_unpainted n = switch (painted (region n) unpainted) (8176 + 16 * n)

-- the turns of task 1 are entries 2 and 14
unfoldable pub mixed_calls : List Call
mixed_calls =
    task 1 128 ∷ add unpainted (record { 0 = 128 }) (region 2) ∷ start
    ∷ tick ∷ switch unpainted 8192 ∷ task 2 128 ∷ tick ∷ lock 4 ∷ tick ∷ tick ∷ tick ∷ leave_unpainted 1 ∷ tick ∷ start
    ∷ leave_unpainted 2 ∷ tick ∷ []

unfoldable pub mixed : List Entry
mixed = played mixed_calls

-- every premise of the sentence, and its conclusion
pub record Mixed : Type 0 where
  pub fresh : init_number 1000 2112 ≡ 0
  pub returned : Returned (init 1000 2112).kernel (take 2 mixed ++ entry mixed 2 ∷ (between mixed 2 11 ++ second mixed 2 11 ∷ drop 15 mixed))
  pub stretch : Stretch rank 1 (id 1) (entry mixed 2) (between mixed 2 11) (second mixed 2 11)
  pub unchanging : Unchanging rank 1 (entry mixed 2) (between mixed 2 11)
  pub a_peer : Peer rank 1 (entry mixed 2) (between mixed 2 11) 2 (id 2) × Unchanging rank 2 (entry mixed 2) (between mixed 2 11)
  pub fair : Fair (λ j b. Peer rank 1 (entry mixed 2) (between mixed 2 11) j b × Unchanging rank j (entry mixed 2) (between mixed 2 11)) 1 (entry mixed 2) (between mixed 2 11)

-- ---- the bounds are met, and each condition is needed

-- two tasks alike, five ticks each: the turns of task 1 are entries 2 and 14
unfoldable pub two_tasks : List Entry
two_tasks = played (task 1 128 ∷ task 2 128 ∷ start ∷ rounds 1 2)

-- idle among fifteen tasks at 255: its first turn is entry 105, its second entry 197; those of task 1 are entries 15 and 107
unfoldable pub idle_round : List Entry
idle_round = played (tasks 255 1 15 ++ (start ∷ rounds 1 15 ++ (tick ∷ leave 0 ∷ rounds 1 15)))

-- a wanted switch that does not come next: six ticks of one turn
unfoldable pub late_switch : List Entry
late_switch = played (task 1 128 ∷ task 2 128 ∷ start ∷ tick ∷ tick ∷ tick ∷ tick ∷ tick ∷ tick ∷ leave 1 ∷ leave 2 ∷ [])

-- a task with a smaller number has a turn between: slot 2 is picked again, though slot 3 waited (01's trap)
unfoldable pub smaller_number : List Entry
smaller_number = played (task 1 1 ∷ task 2 9 ∷ task 3 9 ∷ start ∷ sleep 1 ∷ leave 1 ∷ tick ∷ leave 2 ∷ sleep 5 ∷ leave 1 ∷ [])

-- the first task sleeps between: the other has two turns
unfoldable pub first_sleeps : List Entry
first_sleeps = played (task 1 9 ∷ task 2 9 ∷ start ∷ sleep 1 ∷ leave 1 ∷ leave 2 ∷ tick ∷ leave 2 ∷ [])

-- turns that are not neighbours: the other has two
unfoldable pub not_neighbours : List Entry
not_neighbours = played (task 1 9 ∷ task 2 9 ∷ start ∷ leave 1 ∷ leave 2 ∷ leave 1 ∷ leave 2 ∷ [])

-- the other task sleeps all along: it has none
unfoldable pub other_sleeps : List Entry
other_sleeps = played (task 1 9 ∷ task 2 9 ∷ start ∷ leave 1 ∷ sleep 5 ∷ leave 2 ∷ leave 1 ∷ [])

-- Task 1, at 9, holds mutexes 0 and 1; tasks 2 and 3 are at 5, and task 3 waits at mutex 0: so task 1 is of rank 5 too. The last of these is entry 13.
abbrev pub inherits : List Call
inherits = task 1 9 ∷ task 2 5 ∷ task 3 5 ∷ start ∷ sleep 1 ∷ leave 2 ∷ sleep 1 ∷ leave 3 ∷ lock 0 ∷ lock 1 ∷ tick ∷ leave 1 ∷ leave 2 ∷ lock 0 ∷ []

-- a stretch of task 1 by that rank, with task 2 for a peer
unfoldable pub by_rank : List Entry
by_rank = played (inherits ++ (leave 3 ∷ leave 1 ∷ leave 2 ∷ []))

-- a task with a smaller rank has a turn between, its number being larger: task 1, at 200, holds mutex 0, at which task 2, at 1, waits; slot 3 is picked again, though slot 4 waited
unfoldable pub smaller_rank : List Entry
smaller_rank = played (task 1 200 ∷ task 2 1 ∷ start ∷ sleep 1 ∷ leave 2 ∷ lock 0 ∷ tick ∷ leave 1 ∷ lock 0 ∷ task 3 9 ∷ task 4 9 ∷ leave 2 ∷ sleep 1 ∷ leave 1 ∷ tick ∷ leave 3 ∷ sleep 5 ∷ leave 1 ∷ [])

-- the first task's rank changes: it unlocks, is of rank 9, and 5 again once task 3 waits at mutex 1; task 2 has two turns
unfoldable pub first_changes : List Entry
first_changes = played (inherits ++ (leave 3 ∷ unlock 0 ∷ leave 1 ∷ leave 2 ∷ leave 3 ∷ leave 2 ∷ lock 1 ∷ leave 3 ∷ []))

-- the other task's rank changes: task 3 is woken by hand between two turns of task 2, so task 1 is of rank 9 again, and has none
unfoldable pub other_changes : List Entry
other_changes = played (inherits ++ (leave 3 ∷ leave 1 ∷ wake (id 3) ∷ leave 2 ∷ leave 3 ∷ []))

-- another priority: it has none
unfoldable pub other_priority : List Entry
other_priority = played (task 1 9 ∷ task 2 10 ∷ start ∷ leave 1 ∷ [])

-- Task 2 exits between two turns of task 1, entries 7 and 15, is reaped, and another task gets its slot: the slot's charge is 1 after the first turn and 0 before the second.
unfoldable pub slot_reused : List Entry
slot_reused = played (task 1 128 ∷ task 2 128 ∷ task 3 128 ∷ start ∷ leave 1 ∷ tick ∷ leave 2 ∷ leave 3 ∷ leave 1 ∷ tick ∷ tick ∷ exit ∷ leave 2 ∷ reap (id 2) ∷ task 2 128 ∷ leave 3 ∷ [])

-- a list that meets every premise
pub record Met : Type 0 where
  -- refused are a switch whose guard is not painted, an add of a region that is taken, a lock of no object, a second start
  pub refused : map (λ (e : Entry). e.answer.number) mixed ≡ 0 ∷ 0 ∷ 0 ∷ 0 ∷ 17 ∷ 5 ∷ 0 ∷ 20 ∷ 0 ∷ 0 ∷ 0 ∷ 0 ∷ 0 ∷ 3 ∷ 0 ∷ 0 ∷ []
  pub mixed_fresh : init_number 1000 2112 ≡ 0
  pub mixed_stretch : every (conditions mixed 2 11 1 (id 1)) ≡ true
  pub mixed_peer : every (peer mixed 2 11 1 2 (id 2)) ≡ true

pub record Fives : Type 0 where
  -- both fives are met, the first task's and its peer's
  pub stretch : every (conditions two_tasks 2 11 1 (id 1)) ≡ true
  pub a_peer : every (peer two_tasks 2 11 1 2 (id 2)) ≡ true
  pub own_five : (ticks_of two_tasks 2 11 1 ≡ 5) × (rise_of two_tasks 2 11 1 ≡ 5)
  pub peer_five : (ticks_of two_tasks 2 11 2 ≡ 5) × (rise_of two_tasks 2 11 2 ≡ 5)

-- 75 is met, by idle
pub record IdleRound : Type 0 where
  pub idle_stretch : every (conditions idle_round 105 91 0 (id 0)) ≡ true
  pub seventy_five : sum_below (λ j. if eqb j 0 then 0 otherwise ticks_of idle_round 105 91 j) 16 ≡ 75

-- 71 is met, by a task that is not idle
pub record TaskRound : Type 0 where
  pub task_stretch : every (conditions idle_round 15 91 1 (id 1)) ≡ true
  pub seventy_one : sum_below (λ j. if eqb j 1 then 0 otherwise ticks_of idle_round 15 91 j) 16 ≡ 71

pub record Needed : Type 0 where
  -- all but "followed": a rise of 6
  pub late : conditions late_switch 2 7 1 (id 1) ≡ true ∷ true ∷ true ∷ true ∷ true ∷ false ∷ true ∷ []
  pub late_rise : rise_of late_switch 2 7 1 ≡ 6
  -- all but "none smaller": a peer has no turn
  pub smaller : conditions smaller_number 5 3 2 (id 2) ≡ true ∷ true ∷ true ∷ true ∷ false ∷ true ∷ true ∷ []
  pub smaller_waits : (every (peer smaller_number 5 3 2 3 (id 3)) ≡ true) × (turns_of smaller_number 5 3 3 ≡ 0)
  -- all but "stays": a peer has two turns
  pub first : conditions first_sleeps 2 4 1 (id 1) ≡ true ∷ true ∷ true ∷ false ∷ true ∷ true ∷ true ∷ []
  pub first_two : (every (peer first_sleeps 2 4 1 2 (id 2)) ≡ true) × (turns_of first_sleeps 2 4 2 ≡ 2)
  -- all but "neighbouring": a peer has two turns
  pub neighbours : conditions not_neighbours 2 3 1 (id 1) ≡ true ∷ true ∷ false ∷ true ∷ true ∷ true ∷ true ∷ []
  pub neighbour_two : (every (peer not_neighbours 2 3 1 2 (id 2)) ≡ true) × (turns_of not_neighbours 2 3 2 ≡ 2)
  -- a stretch, and a task that would be a peer had it stayed, or had it the same rank: it has no turn
  pub asleep : every (conditions other_sleeps 5 0 1 (id 1)) ≡ true
  pub asleep_none : (peer other_sleeps 5 0 1 2 (id 2) ≡ true ∷ true ∷ false ∷ true ∷ []) × (turns_of other_sleeps 5 0 2 ≡ 0)
  pub unequal : every (conditions other_priority 2 0 1 (id 1)) ≡ true
  pub unequal_none : (peer other_priority 2 0 1 2 (id 2) ≡ true ∷ false ∷ true ∷ true ∷ []) × (turns_of other_priority 2 0 2 ≡ 0)

-- tasks at 9 and at 5 are of one rank, and each has its turn; then all but "none smaller", by a rank that is not the own number, and all but "unchanging", of the first task or of the other
pub record Changing : Type 0 where
  pub covered : (every (conditions by_rank 14 1 1 (id 1)) ≡ true) × (every (peer by_rank 14 1 1 2 (id 2)) ≡ true) × (turns_of by_rank 14 1 2 ≡ 1)
  pub inherited : tabulate (rank (after (entry first_changes 13))) 4 ≡ 255 ∷ 5 ∷ 5 ∷ 5 ∷ []
  pub smaller : conditions smaller_rank 13 3 3 (id 3) ≡ true ∷ true ∷ true ∷ true ∷ false ∷ true ∷ true ∷ []
  pub smaller_waits : (every (peer smaller_rank 13 3 3 4 (id 4)) ≡ true) × (turns_of smaller_rank 13 3 4 ≡ 0)
  pub changed : conditions first_changes 14 6 1 (id 1) ≡ true ∷ true ∷ true ∷ true ∷ true ∷ true ∷ false ∷ []
  pub changed_two : (every (peer first_changes 14 6 1 2 (id 2)) ≡ true) × (turns_of first_changes 14 6 2 ≡ 2)
  pub unchanged : every (conditions other_changes 15 2 2 (id 2)) ≡ true
  pub unchanged_none : (peer other_changes 15 2 2 1 (id 1) ≡ true ∷ true ∷ true ∷ false ∷ []) × (turns_of other_changes 15 2 1 ≡ 0)

-- a stretch in which a slot's charge falls: its rise tells nothing of the two ticks made while task 2 was current; with the retired sum no tick is lost
pub record Reused : Type 0 where
  pub stretch : every (conditions slot_reused 7 7 1 (id 1)) ≡ true
  pub falls : (charge (after (entry slot_reused 7)) 2 ≡ 1) × (charge (after (entry slot_reused 14)) 2 ≡ 0)
  pub counted : (rise_of slot_reused 7 7 2 ≡ 0) × (ticks_of slot_reused 7 7 2 ≡ 2)
  pub adds_up : (occupied_charges (after (entry slot_reused 15)) ≡ 0) × ((after (entry slot_reused 15)).retired_charge ≡ 3) × (ticks_after_start slot_reused ≡ 3)
