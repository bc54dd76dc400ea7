-- The number of each refusal (01, "Where a call is turned back"; 02), and that of a check's result. The definitions of the calls have the numbers.
use Rattle.std.specs.Prelude.{ℕ}
use Rattle.std.specs.declared.result.Result.{Result}
use Rattle.std.specs.declared.result.Result.TheVariants.{Ok, Err}
use Rattle.kernel.specs.Types.{Refusal, NotWhole, NotStarted, AlreadyStarted, NoEmptySlot, UnfitRegion, NoIdLeft, UnfitOperand, UnknownId, TaskInUse, IdleExits, OwnsMutex, QueueFull, AlreadyOwned, NotOwner, NothingOwned, SpOutside, GuardNotIntact, LastTick, LastPermit, NoObject, FewRecords, TooManyMilliseconds, NoTick}

abbrev pub refusal_number : Refusal → ℕ
refusal_number NotWhole = 1
refusal_number NotStarted = 2
refusal_number AlreadyStarted = 3
refusal_number NoEmptySlot = 4
refusal_number UnfitRegion = 5
refusal_number NoIdLeft = 6
refusal_number UnfitOperand = 7
refusal_number UnknownId = 8
refusal_number TaskInUse = 9
refusal_number IdleExits = 10
refusal_number OwnsMutex = 11
refusal_number QueueFull = 12
refusal_number AlreadyOwned = 13
refusal_number NotOwner = 14
refusal_number NothingOwned = 15
refusal_number SpOutside = 16
refusal_number GuardNotIntact = 17
refusal_number LastTick = 18
refusal_number LastPermit = 19
refusal_number NoObject = 20
refusal_number FewRecords = 21
refusal_number TooManyMilliseconds = 23
refusal_number NoTick = 24

-- 0 where a check passes
abbrev pub number_of : {A : Type 0} → Result A Refusal → ℕ
number_of (Ok a) = 0
number_of (Err r) = refusal_number r
