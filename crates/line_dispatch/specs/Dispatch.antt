-- What a frame asks for, and what is answered (01, "Program `turns`"; README, "The operations").
use Rattle.std.specs.Prelude.{ℕ, ◌-◌, ◌*◌, ◌/◌, ◌%◌, ◌^◌, min, List, [], eqb, ltb, ℤ, pos, negsuc, length, set, replicate, Option, Some, None}
use Rattle.base.specs.Choice.{if◌then◌otherwise◌}
use Rattle.kernel.specs.declared.control.Priority.{Priority}
use Rattle.kernel.specs.declared.control.StackRegion.{StackRegion}
use Rattle.kernel.specs.declared.control.TaskId.{TaskId}
use Rattle.kernel.specs.declared.control.TaskInfo.{TaskInfo}
use Rattle.kernel.specs.declared.scheduler.Kernel.{Kernel}
use Rattle.kernel.specs.declared.scheduler.Value.TheVariants.{Nothing}
use Rattle.kernel.specs.declared.scheduler.Answer.{Answer}
use Rattle.kernel.specs.Control.{paint}
use Rattle.kernel.specs.Timer.{ms_to_ticks}
use Rattle.kernel.specs.Calls.{Call, add, start, tick, switch, current_id, status, block, sleep, wake, exit, wait, reap, reap_one, result, lock, try_lock, unlock, acquire, acquire_within, try_acquire, release, event_wait, event_wait_within, signal, list, ticks_to_ms, number, accepted, refused, step, add_words, list_records, init_number, init, init_words}
use Rattle.line_frame.specs.declared.Operation.{Operation}
use Rattle.line_frame.specs.declared.Operation.TheVariants.{Add, Start, Tick, Switch, Exit, Wait, Reap, Sleep, Wake, Lock, Unlock, TryLock, Acquire, TryAcquire, Release, EventWait, Signal, Status, Block, ReapOne, AcquireWithin, EventWaitWithin, TicksToMs, CurrentId, Result, Word, Init}
use Rattle.line_frame.specs.declared.Frame.{Frame}
use Rattle.call_list.specs.Records.{blank_info}
use Rattle.line_records.specs.RecordsText.{list_text}

-- ---- what is asked for

pub data Request : Type 0 where
  -- the line is none of the notation
  none : Request
  -- a call that writes nothing that it is lent
  call : Call → Request
  -- an add, on the arena
  adding : Priority → StackRegion → Request
  -- a list call, on so many blank records
  listing : ℕ → Request
  -- no call: that word of the arena becomes another
  word : ℕ → ℕ → Request
  -- a fresh kernel with that hz, on the arena, in the place of this one
  fresh : ℕ → Request

-- start × 65,536 + size
abbrev pub region_of : ℕ → StackRegion
region_of y = record { start = y / 65536; size = y % 65536 }

abbrev pub id_of : ℕ → TaskId
id_of y = record { 0 = y }

-- 80 to ff stand for -128 to -1
unfoldable pub signed_byte : ℕ → ℤ
signed_byte k = if ltb k 128 then pos k otherwise negsuc (255 - k)

-- what a word becomes: 0, or for 1 the paint
unfoldable pub word_of : ℕ → ℕ
word_of k = if eqb k 0 then 0 otherwise paint

-- y × 2^k; a line with k above 32 is malformed (`in_range`), and would count here as 32
unfoldable pub ticks_of : ℕ → ℕ → ℕ
ticks_of k y = y * 2 ^ min k 32

-- by an operation with operands k and y, on a kernel with that hz and with that arena lent
abbrev pub request_of : ℕ → List ℕ → Operation → ℕ → ℕ → Request
request_of hz arena Add k y = adding (record { 0 = k }) (region_of y)
request_of hz arena Start k y = call start
request_of hz arena Tick k y = call tick
request_of hz arena Switch k y = call (switch arena y)
request_of hz arena Exit k y = call exit
request_of hz arena Wait k y = call (wait (id_of y))
request_of hz arena Reap k y = call (reap (id_of y))
request_of hz arena Sleep k y = call (sleep (ms_to_ticks y hz))
request_of hz arena Wake k y = call (wake (id_of y))
request_of hz arena Lock k y = call (lock k)
request_of hz arena Unlock k y = call (unlock k)
request_of hz arena TryLock k y = call (try_lock k)
request_of hz arena Acquire k y = call (acquire k)
request_of hz arena TryAcquire k y = call (try_acquire k)
request_of hz arena Release k y = call (release k)
request_of hz arena EventWait k y = call (event_wait k)
request_of hz arena Signal k y = call (signal k)
request_of hz arena Status k y = call (status k)
request_of hz arena Block k y = call block
request_of hz arena ReapOne k y = call reap_one
request_of hz arena AcquireWithin k y = call (acquire_within k y)
request_of hz arena EventWaitWithin k y = call (event_wait_within k y)
request_of hz arena TicksToMs k y = call (ticks_to_ms (ticks_of k y))
request_of hz arena Operation.List k y = listing k
request_of hz arena CurrentId k y = call current_id
request_of hz arena Result k y = call (result (id_of y) (signed_byte k))
request_of hz arena Word k y = word y (word_of k)
request_of hz arena Init k y = fresh y

-- by a line's frame, if it has one
abbrev pub request_in : Kernel → List ℕ → Option Frame → Request
request_in k arena None = none
request_in k arena (Some f) = request_of k.hz arena f.operation f.k f.y

-- ---- the answer, with the kernel after it

-- that many are lent
abbrev pub blank_records : ℕ → List TaskInfo
blank_records room = replicate room blank_info

-- a list call on them
abbrev pub list_answer : Kernel → List ℕ → ℕ → Answer
list_answer k arena room = step k (list arena (blank_records room))

-- a refused fresh leaves the kernel
abbrev pub fresh_for : Kernel → ℕ → ℕ → Answer
fresh_for k hz words = if eqb (init_number hz words) 0 then init hz words otherwise refused (init_number hz words) k

-- a line that is none of the notation is refused with ff
abbrev pub answered : Kernel → List ℕ → Request → Answer
answered k arena none = refused 0xff k
answered k arena (call c) = step k c
answered k arena (adding p r) = step k (add arena p r)
answered k arena (listing room) = list_answer k arena room
answered k arena (word at w) = accepted Nothing k
answered k arena (fresh hz) = fresh_for k hz (length arena)

unfoldable pub answer_to : Kernel → List ℕ → Option Frame → Answer
answer_to k arena f = answered k arena (request_in k arena f)

-- ---- the arena's words after it

abbrev pub words_of : Kernel → List ℕ → Request → List ℕ
words_of k arena none = arena
words_of k arena (call c) = arena
words_of k arena (adding p r) = add_words k p r arena
words_of k arena (listing room) = arena
words_of k arena (word at w) = set arena at w
words_of k arena (fresh hz) = init_words hz arena

unfoldable pub words_after : Kernel → List ℕ → Option Frame → List ℕ
words_after k arena f = words_of k arena (request_in k arena f)

-- ---- what `tables` adds to the answer's digits

-- an accepted list call adds the records that it wrote
unfoldable pub list_adds : Kernel → List ℕ → ℕ → List ℕ
list_adds k arena room =
    let records = blank_records room in
    if eqb (number k (list arena records)) 0 then list_text k.task_count (list_records k arena records) otherwise []

abbrev pub added_by : Kernel → List ℕ → Request → List ℕ
added_by k arena none = []
added_by k arena (call c) = []
added_by k arena (adding p r) = []
added_by k arena (listing room) = list_adds k arena room
added_by k arena (word at w) = []
added_by k arena (fresh hz) = []

unfoldable pub added_to : Kernel → List ℕ → Option Frame → List ℕ
added_to k arena f = added_by k arena (request_in k arena f)
