-- Computed lists that meet every premise of the limit guarantee (02, W-202) and of the wake guarantee (02, W-201), and
-- a stretch of the third sentence in which a limited wait ends; and what the guarantees then say of them.
use Rattle.std.specs.Prelude.{◌≡◌, Bool, true, false, ◌&&◌, List, [], ◌∷◌, ◌++◌, map, ◌⊎◌, ℕ, suc, ◌+◌, ◌≤◌, ◌<◌, eqb, take, drop}
use Rattle.base.specs.Choice.{every}
use Rattle.base.specs.Below.{tabulate}
use Rattle.kernel.specs.declared.control.LimitObject.{LimitObject}
use Rattle.kernel.specs.declared.control.LimitObject.TheVariants.{AtSemaphore, AtEvent}
use Rattle.kernel.specs.declared.control.TaskState.TheVariants.{Ready, Running}
use Rattle.kernel.specs.declared.wait_queue.WaitQueue.{WaitQueue}
use Rattle.kernel.specs.declared.scheduler.Kernel.{Kernel}
use Rattle.kernel.specs.declared.scheduler.Value.{Value}
use Rattle.kernel.specs.declared.scheduler.Value.TheVariants.{YesNo}
use Rattle.kernel.specs.Control.{state_number, has_limit, entered, expired}
use Rattle.kernel.specs.WaitQueue.{contains}
use Rattle.kernel.specs.Kernel.{slot, slot_of, semaphore, event}
use Rattle.kernel.specs.Scheduler.{spent}
use Rattle.kernel.specs.Rank.{rank}
use Rattle.kernel.specs.Calls.{Call, start, tick, sleep, wake, acquire, acquire_within, release}
use Rattle.kernel.specs.Calls.{event_wait, event_wait_within, signal, step, init, init_number, Reached}
use Rattle.book_guarantees.specs.Lists.{Entry, after, Each, Returned, end, accepted_ticks}
use Rattle.book_guarantees.specs.Turns.{Stretch, Peer, Unchanging, Fair}
use Rattle.book_guarantees.specs.Wakings.{OneReady, OneWoken, NoneWoken, Wakings}
use Rattle.book_guarantees.specs.Limits.{last_tick, Limited, Waiting, LimitDue, SleepDue, LimitEndsAt, AtTick, WithLimit, Keeps, EndsWithin}
use Rattle.book_examples.specs.Tests.{entry, between, second, conditions, peer, turns_of, rise_of}
use Rattle.book_examples.specs.Examples.{played, leave, id, tasks}

-- ---- what is read of a list

-- the kernel that entry m returned, and its value
abbrev pub kernel : List Entry → ℕ → Kernel
kernel es m = after (entry es m)

abbrev pub answer : List Entry → ℕ → Value
answer es m = (entry es m).answer.value

-- of the first n slots: the state's number, the tick at which the limit ends, and the mark
abbrev pub states : ℕ → Kernel → List ℕ
states n k = tabulate (λ i. state_number (slot k i).state) n

abbrev pub limits : ℕ → Kernel → List ℕ
limits n k = tabulate (λ i. (slot k i).limit_tick) n

abbrev pub marks : ℕ → Kernel → List Bool
marks n k = tabulate (λ i. (slot k i).limit_passed) n

-- the ids in the queue of a semaphore or an event
abbrev pub ids : WaitQueue → List ℕ
ids q = map (λ a. a.0) (take q.len q.ids)

abbrev pub at_semaphore : ℕ → Kernel → List ℕ
at_semaphore s k = ids (semaphore k s).waiters

abbrev pub at_event : ℕ → Kernel → List ℕ
at_event e k = ids (event k e).waiters

-- `Keeps` as a test that computes
abbrev pub keeps : ℕ → ℕ → Kernel → Bool
keeps i t k = (slot k i).occupied && (has_limit (slot k i) && eqb (slot k i).limit_tick t)

-- ---- a wait that ends by its own tick

-- A limit of task 1 has ended by its own tick. Tasks 2, 3 and 4 wait at semaphore 0: task 2 without a limit, task 3
-- with one of 3 ticks, by entry 12, task 4 with one of 9. Task 5 waits at event 1, task 6 sleeps for 3 ticks. Task 1
-- runs, and entries 20, 21 and 22 are ticks.
unfoldable pub own_tick_calls : List Call
own_tick_calls =
    tasks 128 1 6
    ++ (start ∷ acquire_within 1 1 ∷ tick ∷ leave 1 ∷ acquire 0 ∷ leave 2 ∷ acquire_within 0 3 ∷ leave 3
    ∷ acquire_within 0 9 ∷ leave 4 ∷ event_wait 1 ∷ leave 5 ∷ sleep 3 ∷ leave 6 ∷ tick ∷ tick ∷ tick ∷ [])

unfoldable pub own_tick : List Entry
own_tick = played own_tick_calls

-- the kernel before the last tick, and the one that it returned
abbrev pub before : Kernel
before = kernel own_tick 21

abbrev pub ticked : Kernel
ticked = kernel own_tick 22

pub record OwnTick : Type 0 where
  -- two ticks do not end it, the third does: that one wants a switch, though a part of task 1's slice is left
  pub kept_ticks : accepted_ticks (between own_tick 12 9) ≡ 2
  pub all_ticks : accepted_ticks (between own_tick 12 10) ≡ 3
  pub wants : map (answer own_tick) (20 ∷ 21 ∷ 22 ∷ []) ≡ YesNo false ∷ YesNo false ∷ YesNo true ∷ []
  pub slice_left : (slot ticked 1).remaining_slice ≡ 2
  -- task 3 is Ready and marked; the sleeper is Ready; task 4, whose limit is not due, and tasks 2 and 5 wait on
  pub states_before : states 7 before ≡ 0 ∷ 1 ∷ 2 ∷ 2 ∷ 2 ∷ 2 ∷ 3 ∷ []
  pub states_after : states 7 ticked ≡ 0 ∷ 1 ∷ 2 ∷ 0 ∷ 2 ∷ 2 ∷ 0 ∷ []
  pub limits_before : limits 7 before ≡ 0 ∷ 0 ∷ 0 ∷ 4 ∷ 10 ∷ 0 ∷ 0 ∷ []
  pub limits_after : limits 7 ticked ≡ 0 ∷ 0 ∷ 0 ∷ 0 ∷ 10 ∷ 0 ∷ 0 ∷ []
  -- task 1, which has no limit, keeps its mark
  pub marks_before : marks 7 before ≡ false ∷ true ∷ false ∷ false ∷ false ∷ false ∷ false ∷ []
  pub marks_after : marks 7 ticked ≡ false ∷ true ∷ false ∷ true ∷ false ∷ false ∷ false ∷ []
  -- id 3 is out of the queue, the one before it and the one behind it stay; the other queue is as it was
  pub queue_before : at_semaphore 0 before ≡ 2 ∷ 3 ∷ 4 ∷ []
  pub queue_after : at_semaphore 0 ticked ≡ 2 ∷ 4 ∷ []
  pub other_before : at_event 1 before ≡ 5 ∷ []
  pub other_after : at_event 1 ticked ≡ 5 ∷ []
  -- what the guarantee asks of the tick, of the two limits, of the one that is left, of the sleeper and of who runs
  pub accepted : (step before tick).number ≡ 0
  pub due : LimitDue before 3
  pub object : (slot before 3).limit_object ≡ AtSemaphore 0
  pub named : (slot before 3).id ≡ id 3
  pub not_due : Limited before 4 × (before.tick_count + 1 < (slot before 4).limit_tick)
  pub left : Limited ticked 4
  pub sleeper : SleepDue before 6
  pub runs : (slot before 1).state ≡ Running

-- ---- a wait that ended earlier

-- Task 1 waits at event 1 with a limit of 1 tick, which ends by its own tick, entry 5, and again, by entry 7, with one
-- of 2 ticks, which ends by a signal, entry 10. Entries 9, 11 and 12 are ticks.
unfoldable pub earlier_calls : List Call
earlier_calls =
    tasks 128 1 2
    ++ (start ∷ event_wait_within 1 1 ∷ leave 1 ∷ tick ∷ leave 2 ∷ event_wait_within 1 2 ∷ leave 1
    ∷ tick ∷ signal 1 ∷ tick ∷ tick ∷ [])

unfoldable pub earlier : List Entry
earlier = played earlier_calls

pub record Earlier : Type 0 where
  pub kept_ticks : accepted_ticks (between earlier 7 2) ≡ 1
  pub all_ticks : accepted_ticks (between earlier 7 5) ≡ 3
  -- the signal wakes the task, and the limit ends
  pub woke : answer earlier 10 ≡ YesNo true
  pub states_at : map (λ m. states 3 (kernel earlier m)) (9 ∷ 10 ∷ 12 ∷ []) ≡ (0 ∷ 2 ∷ 1 ∷ []) ∷ (0 ∷ 0 ∷ 1 ∷ []) ∷ (0 ∷ 0 ∷ 1 ∷ []) ∷ []
  pub limits_at : map (λ m. (slot (kernel earlier m) 1).limit_tick) (9 ∷ 10 ∷ 12 ∷ []) ≡ 3 ∷ 0 ∷ 0 ∷ []
  pub queue_at : map (λ m. at_event 1 (kernel earlier m)) (9 ∷ 10 ∷ 12 ∷ []) ≡ (1 ∷ []) ∷ [] ∷ [] ∷ []
  -- the mark: yes from the first limit's own tick on, no from the signal on
  pub mark_at : map (λ m. (slot (kernel earlier m) 1).limit_passed) (4 ∷ 5 ∷ 9 ∷ 10 ∷ 12 ∷ []) ≡ false ∷ true ∷ true ∷ false ∷ false ∷ []
  -- none of the ticks ends anything, nor does the one at which the limit would have ended, entry 11
  pub wants : map (answer earlier) (9 ∷ 11 ∷ 12 ∷ []) ≡ YesNo false ∷ YesNo false ∷ YesNo false ∷ []

-- ---- what the limit guarantee says of both

-- Entry m + 1 of the list es answers the call c, with a limit of n ticks at object o; slot i has it, until tick t. It is
-- kept in the next x entries, and at least n ticks are accepted in the next y.
pub record LimitMet (es : List Entry) (m i n : ℕ) (o : LimitObject) (c : Call) (t x y : ℕ) : Type 0 where
  -- every premise of `ends`, and what it says
  pub reached : Reached (kernel es m)
  pub called : (entry es (suc m)).answer ≡ step (kernel es m) c
  pub with_limit_lem : WithLimit n o c
  pub says_no : (step (kernel es m) c).value ≡ YesNo false
  pub ends : EndsWithin (kernel es (suc m)) i n o t
  -- of `kept`, of the kernel that the call returned
  pub reached_after : Reached (kernel es (suc m))
  pub limited : Limited (kernel es (suc m)) i
  pub waits : Waiting (kernel es (suc m)) i
  -- of `fewer`
  pub returned : (z : ℕ) → Returned (kernel es (suc m)) (between es (suc m) z)
  pub kept : Each (λ e. Keeps i t (after e)) (between es (suc m) x)
  pub fewer : accepted_ticks (between es (suc m) x) < n
  -- of `over`
  pub below : t < last_tick
  pub enough : n ≤ accepted_ticks (between es (suc m) y)
  pub over : Keeps i t (end (kernel es (suc m)) (between es (suc m) y)) → ⊥

abbrev pub OwnTickLimit : Type 0
OwnTickLimit = LimitMet own_tick 11 3 3 (AtSemaphore 0) (acquire_within 0 3) 4 9 10

abbrev pub EarlierLimit : Type 0
EarlierLimit = LimitMet earlier 6 1 2 (AtEvent 1) (event_wait_within 1 2) 3 2 5

-- of the last tick of the first list, and of the two limits before it, by what `OwnTick` has of them
pub record AtItsTick : Type 0 where
  pub reached : Reached before
  pub wait_due : Waiting before 3
  pub wait_not_due : Waiting before 4
  pub ends : LimitEndsAt before (AtSemaphore 0) (id 3)
  pub at_tick : AtTick before (step before tick)
  pub ended : slot ticked 3 ≡ expired (slot before 3)
  pub same : slot ticked 4 ≡ slot before 4
  pub ahead : ticked.tick_count < (slot ticked 4).limit_tick
  pub woken : slot ticked 6 ≡ entered Ready (slot before 6)
  pub slice : slot ticked 1 ≡ spent (slot before 1)
  pub out : contains (semaphore ticked 0).waiters (id 3) ≡ false
  pub wants : (step before tick).value ≡ YesNo true

-- of the tick by which the first wait of the second list ends, at an event
pub record EventTick : Type 0 where
  pub reached : Reached (kernel earlier 4)
  pub accepted : (step (kernel earlier 4) tick).number ≡ 0
  pub ends : LimitEndsAt (kernel earlier 4) (AtEvent 1) (id 1)
  pub at_tick : AtTick (kernel earlier 4) (step (kernel earlier 4) tick)
  pub out : contains (event (kernel earlier 5) 1).waiters (id 1) ≡ false

-- ---- wake, release and signal

-- Tasks 1, 2 and 3 wait at semaphore 0. Entries 11, 12, 13 and 15 are wakes, entry 13 of an id that no task has;
-- entries 14 and 16 are releases. Task 1 waits at event 2, and entry 20 is a signal; task 2 waits there and is woken by
-- hand, and entry 24 is a signal.
unfoldable pub wakings_calls : List Call
wakings_calls =
    tasks 128 1 4
    ++ (start ∷ acquire 0 ∷ leave 1 ∷ acquire 0 ∷ leave 2 ∷ acquire 0 ∷ leave 3
    ∷ wake (id 1) ∷ wake (id 1) ∷ wake (id 9) ∷ release 0 ∷ wake (id 3) ∷ release 0
    ∷ leave 4 ∷ event_wait 2 ∷ leave 1 ∷ signal 2 ∷ event_wait 2 ∷ leave 2 ∷ wake (id 2) ∷ signal 2 ∷ [])

unfoldable pub wakings : List Entry
wakings = played wakings_calls

-- the kernel after entry m of it, and the queues of semaphore 0 and of event 2 then
abbrev pub after_entry : ℕ → Kernel
after_entry = kernel wakings

abbrev pub acquirers : ℕ → WaitQueue
acquirers m = (semaphore (after_entry m) 0).waiters

abbrev pub waiters : ℕ → WaitQueue
waiters m = (event (after_entry m) 2).waiters

pub record WakeAnswers : Type 0 where
  -- a wake of a task that is Blocked, of one that is not, and of no task
  pub wake_yes : (step (after_entry 10) (wake (id 1))).value ≡ YesNo true
  pub wake_no : (step (after_entry 11) (wake (id 1))).value ≡ YesNo false
  pub wake_none : (step (after_entry 12) (wake (id 9))).value ≡ YesNo false
  pub wakes : ((step (after_entry 10) (wake (id 1))).number ≡ 0) × ((step (after_entry 11) (wake (id 1))).number ≡ 0)
  pub woken_slot : slot_of (after_entry 10) (id 1) ≡ 1
  -- one release drops id 1, which is not Blocked, and wakes task 2, id 3 being left; the other drops id 3, not Blocked
  pub release_yes : (step (after_entry 13) (release 0)).value ≡ YesNo true
  pub release_no : (step (after_entry 15) (release 0)).value ≡ YesNo false
  pub released : ((step (after_entry 13) (release 0)).number ≡ 0) × ((step (after_entry 15) (release 0)).number ≡ 0)
  pub queued : map (λ m. ids (acquirers m)) (13 ∷ 14 ∷ 15 ∷ 16 ∷ []) ≡ (1 ∷ 2 ∷ 3 ∷ []) ∷ (3 ∷ []) ∷ (3 ∷ []) ∷ [] ∷ []
  pub lengths : ((acquirers 13).len ≡ 3) × ((acquirers 14).len ≡ 1)
  pub counts : map (λ m. (semaphore (after_entry m) 0).count) (13 ∷ 14 ∷ 15 ∷ 16 ∷ []) ≡ 0 ∷ 1 ∷ 1 ∷ 2 ∷ []
  -- one signal wakes task 1 and sets no flag; the other drops id 2, which is not Blocked, and sets it
  pub signal_yes : (step (after_entry 19) (signal 2)).value ≡ YesNo true
  pub signal_no : (step (after_entry 23) (signal 2)).value ≡ YesNo false
  pub signalled : ((step (after_entry 19) (signal 2)).number ≡ 0) × ((step (after_entry 23) (signal 2)).number ≡ 0)
  pub waited : map (λ m. ids (waiters m)) (19 ∷ 20 ∷ 23 ∷ 24 ∷ []) ≡ (1 ∷ []) ∷ [] ∷ (2 ∷ []) ∷ [] ∷ []
  pub flags : map (λ m. (event (after_entry m) 2).signaled) (19 ∷ 20 ∷ 23 ∷ 24 ∷ []) ≡ false ∷ false ∷ false ∷ true ∷ []
  -- the states, from before the first wake to after the second release, and around the signals
  pub states_woken : map (λ m. states 5 (after_entry m)) (10 ∷ 11 ∷ 12 ∷ 13 ∷ []) ≡ (0 ∷ 2 ∷ 2 ∷ 2 ∷ 1 ∷ []) ∷ (0 ∷ 0 ∷ 2 ∷ 2 ∷ 1 ∷ []) ∷ (0 ∷ 0 ∷ 2 ∷ 2 ∷ 1 ∷ []) ∷ (0 ∷ 0 ∷ 2 ∷ 2 ∷ 1 ∷ []) ∷ []
  pub states_released : map (λ m. states 5 (after_entry m)) (14 ∷ 15 ∷ 16 ∷ []) ≡ (0 ∷ 0 ∷ 0 ∷ 2 ∷ 1 ∷ []) ∷ (0 ∷ 0 ∷ 0 ∷ 0 ∷ 1 ∷ []) ∷ (0 ∷ 0 ∷ 0 ∷ 0 ∷ 1 ∷ []) ∷ []
  pub states_signalled : map (λ m. states 5 (after_entry m)) (19 ∷ 20 ∷ 23 ∷ 24 ∷ []) ≡ (0 ∷ 2 ∷ 1 ∷ 0 ∷ 0 ∷ []) ∷ (0 ∷ 0 ∷ 1 ∷ 0 ∷ 0 ∷ []) ∷ (0 ∷ 0 ∷ 0 ∷ 1 ∷ 0 ∷ []) ∷ (0 ∷ 0 ∷ 0 ∷ 1 ∷ 0 ∷ []) ∷ []

-- what the wake guarantee says of these calls: its premises are `reached`, and the values and numbers of `WakeAnswers`
pub record WakingsMet : Type 0 where
  pub reached : (m : ℕ) → Reached (after_entry m)
  pub guarantee : (m : ℕ) → Wakings (after_entry m)
  pub wake_yes : OneReady (after_entry 10) (after_entry 11) 1
  pub wake_no : after_entry 12 ≡ after_entry 11
  pub wake_none : after_entry 13 ≡ after_entry 12
  -- the place of the one that the release woke is 1
  pub release_yes : OneWoken (after_entry 13) (after_entry 14) (acquirers 13) (acquirers 14)
  pub release_place : release_yes.p ≡ 1
  pub release_no : NoneWoken (after_entry 15) (after_entry 16) (acquirers 15) (acquirers 16)
  pub count_yes : (semaphore (after_entry 14) 0).count ≡ (semaphore (after_entry 13) 0).count + 1
  pub count_no : (semaphore (after_entry 16) 0).count ≡ (semaphore (after_entry 15) 0).count + 1
  pub signal_yes : OneWoken (after_entry 19) (after_entry 20) (waiters 19) (waiters 20)
  pub signal_no : NoneWoken (after_entry 23) (after_entry 24) (waiters 23) (waiters 24)
  pub set : (event (after_entry 24) 2).signaled ≡ true
  -- neither signal is lost
  pub kept_yes :
      OneWoken (after_entry 19) (after_entry 20) (waiters 19) (waiters 20) ⊎ ((event (after_entry 20) 2).signaled ≡ true)
  pub kept_no :
      OneWoken (after_entry 23) (after_entry 24) (waiters 23) (waiters 24) ⊎ ((event (after_entry 24) 2).signaled ≡ true)

-- ---- a limited wait in a stretch

-- Between the turns of task 1, entries 3 and 10, task 2 has a turn and waits with a limit of 2 ticks, entry 6. It ends
-- by its own tick, entry 9. Task 3 is a peer.
unfoldable pub limit_between_calls : List Call
limit_between_calls =
    tasks 128 1 3 ++ (start ∷ tick ∷ leave 1 ∷ acquire_within 0 2 ∷ leave 2 ∷ tick ∷ tick ∷ leave 3 ∷ tick ∷ [])

unfoldable pub limit_between : List Entry
limit_between = played limit_between_calls

-- the turns of task 1, and the calls between
abbrev pub one : Entry
one = entry limit_between 3

abbrev pub calls : List Entry
calls = between limit_between 3 6

abbrev pub two : Entry
two = second limit_between 3 6

pub record LimitBetween : Type 0 where
  pub fresh : init_number 1000 2112 ≡ 0
  pub stretch : every (conditions limit_between 3 6 1 (id 1)) ≡ true
  pub a_peer : every (peer limit_between 3 6 1 3 (id 3)) ≡ true
  -- the wait blocks task 2; with the tick that ends the limit, and wants a switch, it is Ready and marked
  pub wants : map (answer limit_between) (6 ∷ 8 ∷ 9 ∷ []) ≡ YesNo false ∷ YesNo false ∷ YesNo true ∷ []
  pub states_at : map (λ m. states 4 (kernel limit_between m)) (6 ∷ 8 ∷ 9 ∷ []) ≡ (0 ∷ 0 ∷ 2 ∷ 0 ∷ []) ∷ (0 ∷ 0 ∷ 2 ∷ 1 ∷ []) ∷ (0 ∷ 0 ∷ 0 ∷ 1 ∷ []) ∷ []
  pub limits_at : map (λ m. (slot (kernel limit_between m) 2).limit_tick) (6 ∷ 8 ∷ 9 ∷ []) ≡ 3 ∷ 3 ∷ 0 ∷ []
  pub mark_at : map (λ m. (slot (kernel limit_between m) 2).limit_passed) (6 ∷ 8 ∷ 9 ∷ []) ≡ false ∷ false ∷ true ∷ []
  pub peer_turn : (turns_of limit_between 3 6 3 ≡ 1) × (rise_of limit_between 3 6 3 ≡ 2)

-- every premise of the sentence, and its conclusion
pub record LimitBetweenFair : Type 0 where
  pub fresh : init_number 1000 2112 ≡ 0
  pub returned :
      Returned (init 1000 2112).kernel (take 3 limit_between ++ one ∷ (calls ++ two ∷ drop 11 limit_between))
  pub stretch : Stretch rank 1 (id 1) one calls two
  pub unchanging : Unchanging rank 1 one calls
  pub a_peer : Peer rank 1 one calls 3 (id 3) × Unchanging rank 3 one calls
  pub fair : Fair (λ j b. Peer rank 1 one calls j b × Unchanging rank j one calls) 1 one calls
