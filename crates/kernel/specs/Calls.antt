-- Every public call: what refuses it, what it answers and what it does (01, "Where a call is turned back").
use Rattle.std.specs.Prelude.{ℕ, zero, suc, ◌*◌, ◌/◌, ◌^◌, ◌-◌, ◌≡◌, Bool, false, ◌&&◌, ◌||◌, not, List, [], ◌∷◌, ◌++◌, eqb, leb, ltb, ℤ, length, get_or, drop}
use Rattle.base.specs.Choice.{if◌then◌otherwise◌}
use Rattle.base.specs.Below.{any_below}
use Rattle.kernel.specs.Types.{TaskId, Priority, Option, None, Some, Terminated, StackRegion, TaskControl, TaskInfo, WaitQueue, Kernel, Value, Nothing, Id, Turn, Region, NoRegion, YesNo, Count, Milliseconds, Load, Answer}
use Rattle.kernel.specs.Control.{in_state, same_id, state_of, region_fits, sp_in_range, stack_guard_ok, painted, stack_used}
use Rattle.kernel.specs.WaitQueue.{contains, is_full, is_empty}
use Rattle.kernel.specs.Kernel.{slot, charge, charge_sum, current, current_task, current_task_id, slot_of, is_present, mutex, semaphore, event, arena_fits, whole, blank_kernel, fresh_kernel}
use Rattle.kernel.specs.Scheduler
use Rattle.kernel.specs.Scheduler.{pick, next_task, wakes, wake_one, save_context, reapable_slot, lowest_empty, overlaps_present, next_id, wants_switch}
use Rattle.kernel.specs.Mutex
use Rattle.kernel.specs.Mutex.{owns_mutex, is_handed, lock_answer}
use Rattle.kernel.specs.Semaphore
use Rattle.kernel.specs.Semaphore.{has_permit}
use Rattle.kernel.specs.Event
use Rattle.kernel.specs.Timer.{ms_of_ticks}
use Rattle.kernel.specs.Load.{load_share, load_remainder}

-- ---- the kernel calls, with their arguments; lent words and records as they are at the call

pub data Call : Type 0 where
  add : (arena : List ℕ) (priority : Priority) (region : StackRegion) → Call
  start : Call
  tick : Call
  switch : (arena : List ℕ) (sp : ℕ) → Call
  current_id : Call
  status : (state : ℕ) → Call
  block : Call
  sleep : (ticks : ℕ) → Call
  wake : (id : TaskId) → Call
  exit : Call
  wait : (id : TaskId) → Call
  reap : (id : TaskId) → Call
  reap_one : Call
  result : (id : TaskId) (value : ℤ) → Call
  lock : (mutex : ℕ) → Call
  try_lock : (mutex : ℕ) → Call
  unlock : (mutex : ℕ) → Call
  acquire : (semaphore : ℕ) → Call
  acquire_within : (semaphore ticks : ℕ) → Call
  try_acquire : (semaphore : ℕ) → Call
  release : (semaphore : ℕ) → Call
  event_wait : (event : ℕ) → Call
  event_wait_within : (event ticks : ℕ) → Call
  signal : (event : ℕ) → Call
  list : (arena : List ℕ) (records : List TaskInfo) → Call
  ticks_to_ms : (ticks : ℕ) → Call
  load : (id : TaskId) → Call

-- ---- which sort of call it is: what is said of every call, or of every list, goes by these

pub data Kind : Type 0 where
  -- add; reap and reap-one; start; switch; tick
  adding reaping starting switching ticking : Kind
  -- lock, try-lock and unlock, which alone alter who owns a mutex
  owning : Kind
  -- the others
  plain : Kind

abbrev pub kind : Call → Kind
kind (add arena p r) = adding
kind start = starting
kind tick = ticking
kind (switch arena sp) = switching
kind current_id = plain
kind (status s) = plain
kind block = plain
kind (sleep ticks) = plain
kind (wake a) = plain
kind exit = plain
kind (wait a) = plain
kind (reap a) = reaping
kind reap_one = reaping
kind (result a r) = plain
kind (lock m) = owning
kind (try_lock m) = owning
kind (unlock m) = owning
kind (acquire s) = plain
kind (acquire_within s ticks) = plain
kind (try_acquire s) = plain
kind (release s) = plain
kind (event_wait e) = plain
kind (event_wait_within e ticks) = plain
kind (signal e) = plain
kind (list arena records) = plain
kind (ticks_to_ms ticks) = plain
kind (load a) = plain

-- ---- the number: 0, or that of the first check that refuses the call, in 01's order, as 02 continues it

-- a check: the number that it refuses with, and where
infix 5 ◌when◌
pub data Check : Type 0 where
  ◌when◌ : (number : ℕ) (refuses : Bool) → Check

-- the number of the first check that refuses; 0 where none does
abbrev pub first_of : List Check → ℕ
first_of [] = 0
first_of ((n when b) ∷ checks) = if b then n otherwise first_of checks

-- every kernel call: 1 kernel not whole ..
abbrev pub not_whole : Kernel → Check
not_whole k = 1 when not (whole k)

-- .. or the arena lent to add, switch or list of another length
abbrev pub other_length : Kernel → List ℕ → Check
other_length k arena = 1 when not (eqb (length arena) k.arena_words)

-- object calls: 20 object above 3
abbrev pub no_object : ℕ → Check
no_object o = 20 when ltb 3 o

-- status, block, sleep, exit, wait, current id, switch, lock, try lock, unlock, acquire, event wait, and both with a limit: 2 not started
abbrev pub not_started : Kernel → Check
not_started k = 2 when not k.started

-- eight queued and current's id not among them
abbrev pub no_room : Kernel → WaitQueue → Bool
no_room k q = is_full q && not (contains q (current_task_id k))

-- a waiter is recorded, and it is another id
abbrev pub other_waiter : Option TaskId → TaskId → Bool
other_waiter None a = false
other_waiter (Some b) a = not (same_id b a)

-- the checks of each call, after the one that every kernel call has
abbrev pub checks : Kernel → Call → List Check
checks k (add arena p r) =
    other_length k arena
    ∷ (4 when leb 16 (lowest_empty k))
    ∷ (5 when not (region_fits k.arena_words r) || overlaps_present r k)
    ∷ (6 when ltb 4294967295 k.next_id)
    ∷ []
checks k start = (3 when k.started) ∷ []
checks k tick = (18 when eqb k.tick_count (2 ^ 64 - 1)) ∷ []
checks k (switch arena sp) =
    other_length k arena
    ∷ not_started k
    ∷ (16 when not (sp_in_range (current_task k).stack sp))
    ∷ (17 when not (stack_guard_ok (current_task k).stack arena))
    ∷ []
checks k current_id = not_started k ∷ []
checks k (status s) = not_started k ∷ (7 when eqb s 1 || leb 5 s) ∷ []
checks k block = not_started k ∷ []
checks k (sleep ticks) = not_started k ∷ []
checks k (wake a) = []
checks k exit =
    not_started k
    ∷ (10 when eqb (current k) 0)
    ∷ (11 when ltb 0 (current_task k).owned_mutex_count)
    ∷ []
checks k (wait a) =
    not_started k
    ∷ (7 when same_id (current_task_id k) a)
    ∷ (8 when not (is_present k a))
    ∷ (9 when not (in_state Terminated (slot k (slot_of k a))) && other_waiter (slot k (slot_of k a)).waiter (current_task_id k))
    ∷ []
checks k (reap a) =
    (8 when not (is_present k a))
    ∷ (9 when eqb (slot_of k a) 0 || eqb (slot_of k a) (current k) || not (in_state Terminated (slot k (slot_of k a))))
    ∷ []
checks k reap_one = []
checks k (result a r) = (8 when not (is_present k a)) ∷ []
checks k (lock m) =
    no_object m
    ∷ not_started k
    ∷ (13 when (mutex k m).locked && owns_mutex k m && not (is_handed k m))
    ∷ (12 when (mutex k m).locked && not (owns_mutex k m) && no_room k (mutex k m).waiters)
    ∷ []
checks k (try_lock m) = no_object m ∷ not_started k ∷ []
checks k (unlock m) =
    no_object m
    ∷ not_started k
    ∷ (14 when not (owns_mutex k m))
    ∷ (15 when eqb (slot k (slot_of k (current_task_id k))).owned_mutex_count 0)
    ∷ []
checks k (acquire s) = no_object s ∷ not_started k ∷ (12 when not (has_permit s k) && no_room k (semaphore k s).waiters) ∷ []
checks k (acquire_within s ticks) =
    no_object s
    ∷ not_started k
    -- "A limit of 0 gives 7, after 2"
    ∷ (7 when eqb ticks 0)
    ∷ (12 when not (has_permit s k) && no_room k (semaphore k s).waiters)
    ∷ []
checks k (try_acquire s) = no_object s ∷ []
checks k (release s) = no_object s ∷ (19 when eqb (semaphore k s).count 4294967295) ∷ []
checks k (event_wait e) = no_object e ∷ not_started k ∷ (12 when not (event k e).signaled && no_room k (event k e).waiters) ∷ []
checks k (event_wait_within e ticks) =
    no_object e
    ∷ not_started k
    -- "A limit of 0 gives 7, after 2"
    ∷ (7 when eqb ticks 0)
    ∷ (12 when not (event k e).signaled && no_room k (event k e).waiters)
    ∷ []
checks k (signal e) = no_object e ∷ []
checks k (list arena records) = other_length k arena ∷ (21 when ltb (length records) k.task_count) ∷ []
-- "the quotient of 1000 × t by hz passes 4,294,967,295"
checks k (ticks_to_ms ticks) = (23 when ltb 4294967295 (1000 * ticks / k.hz)) ∷ []
-- "24, no tick since the start, checked after 8 for an unknown id"; "the ticks since start, which are all charges and
-- the retired sum together"
checks k (load a) = (8 when not (is_present k a)) ∷ (24 when eqb (charge_sum k) 0) ∷ []

unfoldable pub number : Kernel → Call → ℕ
number k c = first_of (not_whole k ∷ checks k c)

-- ---- the value of an accepted call

-- the share and the remainder of the task in slot i
abbrev pub load_at : Kernel → ℕ → Value
load_at k i = Load (load_share (charge k i) (charge_sum k)) (load_remainder (charge k i) (charge_sum k))

-- the slot that is picked, and its sp
abbrev pub picked : Kernel → Value
picked k = Turn (record { 0 = next_task k }) (slot k (next_task k)).sp

unfoldable pub value : Kernel → Call → Value
value k (add arena p r) = Id (next_id k)
value k start = picked k
value k tick = YesNo (wants_switch k)
value k (switch arena sp) = picked (save_context sp k)
value k current_id = Id (current_task_id k)
value k (status s) = Nothing
value k block = Nothing
value k (sleep ticks) = Nothing
value k (wake a) = YesNo (wakes a k)
value k exit = Nothing
value k (wait a) = Nothing
value k (reap a) = Region (slot k (slot_of k a)).stack
value k reap_one = if ltb (reapable_slot k) 16 then Region (slot k (reapable_slot k)).stack otherwise NoRegion
value k (result a r) = Nothing
value k (lock m) = YesNo (lock_answer m k)
value k (try_lock m) = YesNo (not (mutex k m).locked)
value k (unlock m) = YesNo (not (is_empty (mutex k m).waiters))
value k (acquire s) = YesNo (has_permit s k)
value k (acquire_within s ticks) = YesNo (has_permit s k)
value k (try_acquire s) = YesNo (has_permit s k)
value k (release s) = YesNo (wake_one (semaphore k s).waiters k).woke
value k (event_wait e) = YesNo (event k e).signaled
value k (event_wait_within e ticks) = YesNo (event k e).signaled
value k (signal e) = YesNo (wake_one (event k e).waiters k).woke
value k (list arena records) = Count k.task_count
value k (ticks_to_ms ticks) = Milliseconds (ms_of_ticks ticks k.hz)
value k (load a) = load_at k (slot_of k a)

-- the value as `turns` prints it: id, slot, region start, 1 or 0 for yes or no, 0xffffffff for no region, otherwise 0;
-- for list, milliseconds and load, which are no operations of `turns`, the count, the milliseconds and the share.
-- Contracts equate the value itself.
unfoldable pub value_number : Value → ℕ
value_number Nothing = 0
value_number (Id a) = a.0
value_number (Turn s sp) = s.0
value_number (Region r) = r.start
value_number NoRegion = 0xffffffff
value_number (YesNo b) = if b then 1 otherwise 0
value_number (Count n) = n
value_number (Milliseconds n) = n
value_number (Load share remainder) = share

-- ---- the effect of an accepted call, on the kernel and on what is lent

unfoldable pub effect : Kernel → Call → Kernel
effect k (add arena p r) = Scheduler.add p r k
effect k start = Scheduler.start k
effect k tick = Scheduler.tick k
effect k (switch arena sp) = Scheduler.switch sp k
effect k current_id = k
effect k (status s) = Scheduler.set_status (state_of s) k
effect k block = Scheduler.block k
effect k (sleep ticks) = Scheduler.sleep ticks k
effect k (wake a) = Scheduler.wake a k
effect k exit = Scheduler.exit k
effect k (wait a) = Scheduler.wait a k
effect k (reap a) = Scheduler.emptied (slot_of k a) k
effect k reap_one = Scheduler.reap_one k
effect k (result a r) = Scheduler.set_result a r k
effect k (lock m) = Mutex.lock m k
effect k (try_lock m) = Mutex.try_lock m k
effect k (unlock m) = Mutex.unlock m k
effect k (acquire s) = Semaphore.acquire s k
effect k (acquire_within s ticks) = Semaphore.acquire_within s ticks k
effect k (try_acquire s) = Semaphore.try_acquire s k
effect k (release s) = Semaphore.release s k
effect k (event_wait e) = Event.event_wait e k
effect k (event_wait_within e ticks) = Event.event_wait_within e ticks k
effect k (signal e) = Event.signal e k
effect k (list arena records) = k
effect k (ticks_to_ms ticks) = k
effect k (load a) = k

-- ---- the step

abbrev pub refused : ℕ → Kernel → Answer
refused n k = record { number = n; value = Nothing; kernel = k }

-- accepted means number 0
abbrev pub accepted : Value → Kernel → Answer
accepted v k = record { number = 0; value = v; kernel = k }

-- nothing is altered where a check refuses the call
unfoldable pub step : Kernel → Call → Answer
step k c = if eqb (number k c) 0 then accepted (value k c) (effect k c) otherwise refused (number k c) k

-- the arena's words after an add; every other call keeps them
unfoldable pub add_words : Kernel → Priority → StackRegion → List ℕ → List ℕ
add_words k p r arena = if eqb (number k (add arena p r)) 0 then painted r arena otherwise arena

abbrev pub task_info : List ℕ → TaskControl → TaskInfo
task_info arena t = record { id = t.id; state = t.state; priority = t.priority; stack_used = stack_used t.stack arena; stack_total = t.stack.size }

-- the records of the first n slots, in slot order
unfoldable pub task_infos : Kernel → List ℕ → ℕ → List TaskInfo
task_infos k arena zero = []
task_infos k arena (suc n) = if (slot k n).occupied then task_infos k arena n ++ (task_info arena (slot k n) ∷ []) otherwise task_infos k arena n

-- the records after a list call: later ones keep their contents
unfoldable pub list_records : Kernel → List ℕ → List TaskInfo → List TaskInfo
list_records k arena records =
    let infos = task_infos k arena 16 in
    if eqb (number k (list arena records)) 0 then infos ++ drop (length infos) records otherwise records

-- ---- `init`, 01's fresh

unfoldable pub init_number : ℕ → ℕ → ℕ
init_number hz words = first_of ((1 when not (arena_fits words)) ∷ (7 when eqb hz 0) ∷ [])

-- a refused one is the blank kernel
unfoldable pub init : ℕ → ℕ → Answer
init hz words = if eqb (init_number hz words) 0 then accepted Nothing (fresh_kernel hz words) otherwise refused (init_number hz words) blank_kernel

unfoldable pub init_words : ℕ → List ℕ → List ℕ
init_words hz arena = if eqb (init_number hz (length arena)) 0 then painted (record { start = 0; size = 8192 }) arena otherwise arena

-- ---- lists of calls from fresh

-- the kernels that a list of calls reaches from an accepted fresh, refused ones included, whatever their arguments
pub data Reached : Kernel → Type 0 where
  fresh : (hz words : ℕ) → init_number hz words ≡ 0 → Reached (init hz words).kernel
  called : {k : Kernel} (c : Call) → Reached k → Reached (step k c).kernel

-- ---- the exported pick, over 16 state bytes and 16 priority bytes

-- refusal 22: a length that is not 16, a state above 6, a current above 15
abbrev pub pick_refused : List ℕ → List ℕ → ℕ → Bool
pick_refused states priorities c = not (eqb (length states) 16) || not (eqb (length priorities) 16) || any_below (λ i. ltb 6 (get_or states i 0)) 16 || ltb 15 c

-- 255 stands for it
unfoldable pub pick_bytes : List ℕ → List ℕ → ℕ → ℕ
pick_bytes states priorities c = if pick_refused states priorities c then 255 otherwise pick (λ i. eqb (get_or states i 0) 0) (λ i. get_or priorities i 0) c
