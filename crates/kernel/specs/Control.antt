-- A task, its slot in the table, and the stretch of the arena that is its stack (task/control.rs).
use Rattle.std.specs.Prelude.{ℕ, ◌+◌, ◌-◌, ◌*◌, ◌/◌, ◌%◌, Bool, true, false, ◌&&◌, not, List, [], ◌∷◌, ◌++◌, eqb, leb, ltb, pos, length, get_or, take, drop, replicate}
use Rattle.base.specs.Choice.{if◌then◌otherwise◌, every}
use Rattle.base.specs.Below.{all_below, lowest_below}
use Rattle.kernel.specs.Types.{TaskId, Priority, Option, None, Some, TaskState, Ready, Running, Blocked, Sleeping, Suspended, Terminated, StackRegion, LimitObject, NoLimit, AtSemaphore, AtEvent, TaskControl}
use Rattle.kernel.specs.Update.{with_state, with_limit, with_limit_passed}

-- ---- states and ids

abbrev pub state_number : TaskState → ℕ
state_number Ready = 0
state_number Running = 1
state_number Blocked = 2
state_number Sleeping = 3
state_number Suspended = 4
state_number Terminated = 5

-- the state of a number up to 5
unfoldable pub state_of : ℕ → TaskState
state_of n =
    if eqb n 0 then Ready
    otherwise if eqb n 1 then Running
    otherwise if eqb n 2 then Blocked
    otherwise if eqb n 3 then Sleeping
    otherwise if eqb n 4 then Suspended
    otherwise Terminated

abbrev pub in_state : TaskState → TaskControl → Bool
in_state s t = eqb (state_number t.state) (state_number s)

abbrev pub same_id : TaskId → TaskId → Bool
same_id a b = eqb a.0 b.0

-- it is some id, and that one
abbrev pub names : Option TaskId → TaskId → Bool
names None a = false
names (Some b) a = eqb b.0 a.0

-- ---- the slot

-- what an emptied slot is, all zero; a slot that is not occupied may hold anything
abbrev pub blank_slot : TaskControl
blank_slot = record { occupied = false; id = record { 0 = 0 }; state = Ready; priority = record { 0 = 0 }; wake_tick = 0; time_slice = 0; remaining_slice = 0; owned_mutex_count = 0; waiter = None; stack = record { start = 0; size = 0 }; sp = 0; result = pos 0; limit_object = NoLimit; limit_tick = 0; limit_passed = false }

-- `TaskControl::new`
abbrev pub new_task : TaskId → Priority → StackRegion → TaskControl
new_task i p r = record { occupied = true; id = i; state = Ready; priority = p; wake_tick = 0; time_slice = 5; remaining_slice = 5; owned_mutex_count = 0; waiter = None; stack = r; sp = r.start + r.size; result = pos 0; limit_object = NoLimit; limit_tick = 0; limit_passed = false }

-- the slot is occupied, by a task in that state
unfoldable pub holds_task : TaskState → TaskControl → Bool
holds_task s t = t.occupied && in_state s t

-- ---- the limit of a wait (02, W-202)

-- A limit is kept as the object that is waited for, semaphore or event with its number, and the tick at which it ends. Without one nothing is kept: `NoLimit`, and tick 0.
-- Beside `NoLimit` the tick is not read, and whole does not judge it; what enters a state makes it 0.
abbrev pub is_limit : LimitObject → Bool
is_limit NoLimit = false
is_limit (AtSemaphore s) = true
is_limit (AtEvent e) = true

abbrev pub has_limit : TaskControl → Bool
has_limit t = is_limit t.limit_object

-- a limit ends, and `limit_passed` says whether by its own tick; without one it stays as it is
abbrev pub limit_ended : Bool → TaskControl → TaskControl
limit_ended own t = with_limit_passed (if has_limit t then own otherwise t.limit_passed) (with_limit NoLimit 0 t)

-- Every state is entered so, but Ready by a limit's own tick (`expired`): "Any other wake ends the limit, and so does a status, sleep or exit of that task or its blocking once more, or a start or switch that picks it".
abbrev pub entered : TaskState → TaskControl → TaskControl
entered s t = limit_ended false (with_state s t)

-- Ready, the limit ended by its own tick
abbrev pub expired : TaskControl → TaskControl
expired t = limit_ended true (with_state Ready t)

-- the object's number is below 4
abbrev pub object_fits : LimitObject → Bool
object_fits NoLimit = true
object_fits (AtSemaphore s) = ltb s 4
object_fits (AtEvent e) = ltb e 4

-- Blocked becomes Ready, anything else stays
unfoldable pub unblocked : TaskControl → TaskControl
unblocked t = if in_state Blocked t then entered Ready t otherwise t

-- ---- the region, and the arena's words under it

abbrev pub paint : ℕ
paint = 0xDEADBEEF

abbrev pub region_end : StackRegion → ℕ
region_end r = r.start + r.size

-- multiples of 4, at least 16 bytes long, inside an arena of that many words
unfoldable pub region_fits : ℕ → StackRegion → Bool
region_fits words r = every (eqb (r.start % 4) 0 ∷ eqb (r.size % 4) 0 ∷ leb 16 r.size ∷ leb (region_end r) (4 * words) ∷ [])

unfoldable pub regions_overlap : StackRegion → StackRegion → Bool
regions_overlap r s = ltb r.start (region_end s) && ltb s.start (region_end r)

-- the region painted, the words outside kept
unfoldable pub painted : StackRegion → List ℕ → List ℕ
painted r arena = take (r.start / 4) arena ++ (replicate (r.size / 4) paint ++ drop (r.start / 4 + r.size / 4) arena)

abbrev pub stack_words : StackRegion → List ℕ → List ℕ
stack_words r arena = take (r.size / 4) (drop (r.start / 4) arena)

-- `count_prefix_u32`: how many words are painted before the first that is not
unfoldable pub count_prefix : List ℕ → ℕ
count_prefix words = lowest_below (λ i. not (eqb (get_or words i 0) paint)) (length words)

-- size less 4 for each leading painted word
abbrev pub stack_used : StackRegion → List ℕ → ℕ
stack_used r arena = r.size - 4 * count_prefix (stack_words r arena)

-- `stack_guard_ok`: the region's first four words are all painted
unfoldable pub stack_guard_ok : StackRegion → List ℕ → Bool
stack_guard_ok r arena = all_below (λ i. eqb (get_or arena (r.start / 4 + i) 0) paint) 4

-- `stack_sp_in_range`: not below the start, and below the end
unfoldable pub sp_in_range : StackRegion → ℕ → Bool
sp_in_range r sp = leb r.start sp && ltb sp (region_end r)
