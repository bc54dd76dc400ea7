-- The objects in the line that `tables` prints for a kernel, after the pieces of text that they are made of.
use Rattle.std.specs.Prelude.{ℕ, zero, suc, Bool, true, List, [], ◌∷◌, ◌++◌, Option, None, Some, ltb, get_or, length, decimal}
use Rattle.base.specs.Choice.{if◌then◌otherwise◌}
use Rattle.base.specs.Below.{any_below}
use Rattle.kernel.specs.declared.control.TaskId.{TaskId}
use Rattle.kernel.specs.declared.wait_queue.WaitQueue.{WaitQueue}
use Rattle.kernel.specs.declared.mutex.Mutex.{Mutex}
use Rattle.kernel.specs.declared.semaphore.Semaphore.{Semaphore}
use Rattle.kernel.specs.declared.event.Event.{Event}
use Rattle.kernel.specs.declared.scheduler.Kernel.{Kernel}
use Rattle.kernel.specs.Kernel.{mutex, semaphore, event}
use Rattle.kernel.specs.WaitQueue.{place}

-- ---- pieces

-- the texts of those below n that p holds of, with the byte between them
unfoldable pub joined : ℕ → (ℕ → Bool) → (ℕ → List ℕ) → ℕ → List ℕ
joined byte p text zero = []
joined byte p text (suc n) =
    if p n then joined byte p text n ++ ((if any_below p n then byte ∷ [] otherwise []) ++ text n)
    otherwise joined byte p text n

-- all of them, with the byte between them
abbrev pub joined_all : ℕ → List (List ℕ) → List ℕ
joined_all byte texts = joined byte (λ i. true) (λ i. get_or texts i []) (length texts)

abbrev pub comma : List ℕ
comma = 44 ∷ []

-- 1 and 0
abbrev pub flag : Bool → List ℕ
flag b = (if b then 49 otherwise 48) ∷ []

-- `-` for none
unfoldable pub id_text : Option TaskId → List ℕ
id_text None = 45 ∷ []
id_text (Some a) = decimal a.0

-- after a comma
abbrev pub id_field : Option TaskId → List ℕ
id_field id = comma ++ id_text id

-- a blank, a bar, a blank
abbrev pub bar : List ℕ
bar = 32 ∷ 124 ∷ 32 ∷ []

-- ---- objects

-- the ids that wait, joined by blanks, in brackets
unfoldable pub queue_text : WaitQueue → List ℕ
queue_text q = (91 ∷ []) ++ joined 32 (λ j. ltb j q.len) (λ j. decimal (place q j).0) 8 ++ (93 ∷ [])

-- after a comma, and with the semicolon that ends an object
abbrev pub waiters_text : WaitQueue → List ℕ
waiters_text q = comma ++ queue_text q ++ (59 ∷ [])

-- locked, owner, handoff_to, the queue
unfoldable pub mutex_text : Mutex → List ℕ
mutex_text m = flag m.locked ++ id_field m.owner ++ id_field m.handoff_to ++ waiters_text m.waiters

-- count, the queue
unfoldable pub semaphore_text : Semaphore → List ℕ
semaphore_text s = decimal s.count ++ waiters_text s.waiters

-- signalled, the queue
unfoldable pub event_text : Event → List ℕ
event_text e = flag e.signaled ++ waiters_text e.waiters

-- the four of a kind, joined by blanks
abbrev pub objects_text : (ℕ → List ℕ) → List ℕ
objects_text text = joined 32 (λ i. true) text 4

-- mutexes, semaphores, events
abbrev pub all_objects : Kernel → List ℕ
all_objects k = objects_text (λ i. mutex_text (mutex k i)) ++ bar ++ objects_text (λ i. semaphore_text (semaphore k i)) ++ bar ++ objects_text (λ i. event_text (event k i))
