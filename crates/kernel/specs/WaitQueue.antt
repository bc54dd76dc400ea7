-- First in, first out, eight ids (synchronization/wait_queue.rs).
use Rattle.std.specs.Prelude.{ℕ, ◌+◌, ◌-◌, Bool, ◌&&◌, eqb, leb, ltb, get_or, set, replicate}
use Rattle.base.specs.Choice.{if◌then◌otherwise◌}
use Rattle.base.specs.Below.{lowest_below, tabulate}
use Rattle.kernel.specs.Types.{TaskId, WaitQueue}
use Rattle.kernel.specs.Control.{same_id}

-- what fills the places at and past the length of a queue that was shortened
abbrev pub zero_id : TaskId
zero_id = record { 0 = 0 }

abbrev pub empty_queue : WaitQueue
empty_queue = record { ids = replicate 8 zero_id; len = 0 }

abbrev pub place : WaitQueue → ℕ → TaskId
place q j = get_or q.ids j zero_id

-- id a waits at place j
abbrev pub waits_at : WaitQueue → TaskId → ℕ → Bool
waits_at q a j = ltb j q.len && same_id (place q j) a

-- where id a waits first; 8 where it does not
unfoldable pub position : WaitQueue → TaskId → ℕ
position q a = lowest_below (waits_at q a) 8

-- id a is in the queue
abbrev pub contains : WaitQueue → TaskId → Bool
contains q a = ltb (position q a) 8

-- eight ids wait
abbrev pub is_full : WaitQueue → Bool
is_full q = leb 8 q.len

-- id a at the end; a full queue stays
unfoldable pub pushed : WaitQueue → TaskId → WaitQueue
pushed q a = if is_full q then q otherwise record { ids = set q.ids q.len a; len = q.len + 1 }

-- id a at the end unless it is in the queue
unfoldable pub enqueued : WaitQueue → TaskId → WaitQueue
enqueued q a = if contains q a then q otherwise pushed q a

-- What stands at place j once place i is taken out: the ids after it move up, and from the new length on every place is zero.
unfoldable pub place_without : WaitQueue → ℕ → ℕ → TaskId
place_without q i j =
    if leb q.len (j + 1) then zero_id
    otherwise if ltb j i then place q j
    otherwise place q (j + 1)

unfoldable pub without : WaitQueue → ℕ → WaitQueue
without q i = record { ids = tabulate (place_without q i) 8; len = q.len - 1 }

abbrev pub is_empty : WaitQueue → Bool
is_empty q = eqb q.len 0

abbrev pub head : WaitQueue → TaskId
head q = place q 0

-- the head dropped; an empty queue stays
unfoldable pub popped : WaitQueue → WaitQueue
popped q = if is_empty q then q otherwise without q 0

-- id a taken out where it waits first; a queue without it stays
unfoldable pub removed : WaitQueue → TaskId → WaitQueue
removed q a = if contains q a then without q (position q a) otherwise q
