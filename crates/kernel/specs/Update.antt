-- One field replaced, the others as they were.
use Rattle.std.specs.Prelude.{ℕ, Bool, List, ℤ}
use Rattle.kernel.specs.Types.{TaskId, TaskState, Option, LimitObject, TaskControl, Mutex, Semaphore, Event, Kernel}

-- ---- of a task

abbrev pub with_state : TaskState → TaskControl → TaskControl
with_state v t = record t { state = v }

abbrev pub with_wake_tick : ℕ → TaskControl → TaskControl
with_wake_tick v t = record t { wake_tick = v }

abbrev pub with_remaining : ℕ → TaskControl → TaskControl
with_remaining v t = record t { remaining_slice = v }

abbrev pub with_owned : ℕ → TaskControl → TaskControl
with_owned v t = record t { owned_mutex_count = v }

abbrev pub with_waiter : Option TaskId → TaskControl → TaskControl
with_waiter v t = record t { waiter = v }

abbrev pub with_sp : ℕ → TaskControl → TaskControl
with_sp v t = record t { sp = v }

abbrev pub with_result : ℤ → TaskControl → TaskControl
with_result v t = record t { result = v }

-- both the slice and what remains of it, as `with_time_slice` of the source
abbrev pub with_time_slice : ℕ → TaskControl → TaskControl
with_time_slice v t = record t { time_slice = v; remaining_slice = v }

-- the object of a limit, and the tick at which it ends
abbrev pub with_limit : LimitObject → ℕ → TaskControl → TaskControl
with_limit o n t = record t { limit_object = o; limit_tick = n }

abbrev pub with_limit_passed : Bool → TaskControl → TaskControl
with_limit_passed v t = record t { limit_passed = v }

-- ---- of a kernel

abbrev pub with_tasks : List TaskControl → Kernel → Kernel
with_tasks v k = record k { tasks = v }

abbrev pub with_charges : List ℕ → Kernel → Kernel
with_charges v k = record k { charges = v }

abbrev pub with_retired_charge : ℕ → Kernel → Kernel
with_retired_charge v k = record k { retired_charge = v }

abbrev pub with_tick_count : ℕ → Kernel → Kernel
with_tick_count v k = record k { tick_count = v }

abbrev pub with_started : Bool → Kernel → Kernel
with_started v k = record k { started = v }

abbrev pub with_current : ℕ → Kernel → Kernel
with_current v k = record k { current = record { 0 = v } }

abbrev pub with_task_count : ℕ → Kernel → Kernel
with_task_count v k = record k { task_count = v }

abbrev pub with_next_id : ℕ → Kernel → Kernel
with_next_id v k = record k { next_id = v }

abbrev pub with_mutexes : List Mutex → Kernel → Kernel
with_mutexes v k = record k { mutexes = v }

abbrev pub with_semaphores : List Semaphore → Kernel → Kernel
with_semaphores v k = record k { semaphores = v }

abbrev pub with_events : List Event → Kernel → Kernel
with_events v k = record k { events = v }
