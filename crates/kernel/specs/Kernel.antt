-- What a kernel holds, when it is whole, and what it is at first (01, "The machine").
use Rattle.std.specs.Prelude.{ℕ, ◌+◌, Bool, false, ◌&&◌, ◌||◌, not, [], ◌∷◌, eqb, leb, ltb, get_or, set, replicate}
use Rattle.base.specs.Choice.{if◌then◌otherwise◌, every}
use Rattle.base.specs.Below.{all_below, count_below, sum_below, lowest_below}
use Rattle.kernel.specs.Types.{TaskId, None, Blocked, TaskControl, WaitQueue, Mutex, Semaphore, Event, Kernel}
use Rattle.kernel.specs.Update.{with_tasks, with_mutexes, with_semaphores, with_events, with_time_slice}
use Rattle.kernel.specs.Control.{in_state, same_id, has_limit, object_fits, blank_slot, new_task, region_fits}
use Rattle.kernel.specs.WaitQueue.{empty_queue}

-- ---- reading and replacing one of its parts

abbrev pub slot : Kernel → ℕ → TaskControl
slot k i = get_or k.tasks i blank_slot

-- how many ticks were accepted while the task of slot i was current and the kernel started (01's charge): it starts at 0 with the task's add, and its reap
-- moves it into the retired sum, `retired_charge` (02, W-206)
abbrev pub charge : Kernel → ℕ → ℕ
charge k i = get_or k.charges i 0

-- the charges of all sixteen slots and the retired sum, added without wrapping
abbrev pub charge_sum : Kernel → ℕ
charge_sum k = sum_below (charge k) 16 + k.retired_charge

-- f of the task in slot i
abbrev pub at : ℕ → (TaskControl → TaskControl) → Kernel → Kernel
at i f k = with_tasks (set k.tasks i (f (slot k i))) k

-- the slot of the task that is current, that task, and its id
abbrev pub current : Kernel → ℕ
current k = k.current.0

abbrev pub current_task : Kernel → TaskControl
current_task k = slot k (current k)

abbrev pub current_task_id : Kernel → TaskId
current_task_id k = (current_task k).id

abbrev pub holds_id : TaskId → TaskControl → Bool
holds_id a t = t.occupied && same_id t.id a

-- the slot of id a; should two slots hold it, the lower is meant; 16 where none does
unfoldable pub slot_of : Kernel → TaskId → ℕ
slot_of k a = lowest_below (λ i. holds_id a (slot k i)) 16

abbrev pub is_present : Kernel → TaskId → Bool
is_present k a = ltb (slot_of k a) 16

-- f of the task of id a, if it is present
unfoldable pub at_id : TaskId → (TaskControl → TaskControl) → Kernel → Kernel
at_id a f k = if is_present k a then at (slot_of k a) f k otherwise k

-- Objects are numbered 0 to 3; every object call refuses a number above 3. What stands last in the next three is what the logic reads past an array's end.
abbrev no_queue : WaitQueue
no_queue = record { ids = []; len = 0 }

abbrev pub mutex : Kernel → ℕ → Mutex
mutex k m = get_or k.mutexes m (record { locked = false; owner = None; handoff_to = None; waiters = no_queue })

abbrev pub semaphore : Kernel → ℕ → Semaphore
semaphore k s = get_or k.semaphores s (record { count = 0; waiters = no_queue })

abbrev pub event : Kernel → ℕ → Event
event k e = get_or k.events e (record { signaled = false; waiters = no_queue })

abbrev pub with_mutex : ℕ → Mutex → Kernel → Kernel
with_mutex m x k = with_mutexes (set k.mutexes m x) k

abbrev pub with_semaphore : ℕ → Semaphore → Kernel → Kernel
with_semaphore s x k = with_semaphores (set k.semaphores s x) k

abbrev pub with_event : ℕ → Event → Kernel → Kernel
with_event e x k = with_events (set k.events e x) k

-- ---- whole

unfoldable pub arena_fits : ℕ → Bool
arena_fits words = leb 2048 words && leb words 16384

abbrev pub is_occupied : Kernel → ℕ → Bool
is_occupied k i = (slot k i).occupied

-- of an occupied slot
abbrev pub region_whole : Kernel → ℕ → Bool
region_whole k i = not (slot k i).occupied || region_fits k.arena_words (slot k i).stack

abbrev pub owned_whole : Kernel → ℕ → Bool
owned_whole k i = not (slot k i).occupied || leb (slot k i).owned_mutex_count 4

abbrev pub queues_whole : Kernel → ℕ → Bool
queues_whole k o = leb (mutex k o).waiters.len 8 && leb (semaphore k o).waiters.len 8 && leb (event k o).waiters.len 8

-- of an occupied slot: a limit in a Blocked task only, with an object number below 4
abbrev pub limit_whole : Kernel → ℕ → Bool
limit_whole k i = not ((slot k i).occupied && has_limit (slot k i)) || (in_state Blocked (slot k i) && object_fits (slot k i).limit_object)

-- 01's whole kernel, in its order, where "the charges and the retired sum together are at most tick_count" (02, W-206) stands in the place of 01's clause on
-- each charge; then what 02 adds
unfoldable pub whole : Kernel → Bool
whole k =
    every (
    arena_fits k.arena_words
    ∷ leb 1 k.hz
    ∷ ltb (current k) 16
    ∷ is_occupied k 0
    ∷ is_occupied k (current k)
    ∷ all_below (region_whole k) 16
    ∷ all_below (queues_whole k) 4
    ∷ eqb k.task_count (count_below (is_occupied k) 16)
    ∷ all_below (owned_whole k) 16
    ∷ leb (charge_sum k) k.tick_count
    ∷ all_below (limit_whole k) 16
    ∷ [])

-- ---- blank and fresh

abbrev pub new_mutex : Mutex
new_mutex = record { locked = false; owner = None; handoff_to = None; waiters = empty_queue }

abbrev pub new_semaphore : Semaphore
new_semaphore = record { count = 0; waiters = empty_queue }

abbrev pub new_event : Event
new_event = record { signaled = false; waiters = empty_queue }

-- 01's blank kernel: all zero and empty
unfoldable pub blank_kernel : Kernel
blank_kernel = record { tasks = replicate 16 blank_slot; charges = replicate 16 0; retired_charge = 0; arena_words = 0; hz = 0; tick_count = 0; started = false; current = record { 0 = 0 }; task_count = 0; next_id = 0; mutexes = replicate 4 new_mutex; semaphores = replicate 4 new_semaphore; events = replicate 4 new_event }

-- idle: Ready, with the arena's first 8,192 bytes
abbrev pub idle_task : TaskControl
idle_task = with_time_slice 1 (new_task (record { 0 = 0 }) (record { 0 = 255 }) (record { start = 0; size = 8192 }))

-- 01's fresh kernel: idle in slot 0, everything else 0 or empty
unfoldable pub fresh_kernel : ℕ → ℕ → Kernel
fresh_kernel hz words = record { tasks = set (replicate 16 blank_slot) 0 idle_task; charges = replicate 16 0; retired_charge = 0; arena_words = words; hz = hz; tick_count = 0; started = false; current = record { 0 = 0 }; task_count = 1; next_id = 1; mutexes = replicate 4 new_mutex; semaphores = replicate 4 new_semaphore; events = replicate 4 new_event }
