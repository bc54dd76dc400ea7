-- A list of kernel calls with what they returned: what holds of each, what each call was, and how many turns and ticks it has.
use Rattle.std.specs.Prelude.{◌≡◌, Bool, true, false, ◌&&◌, List, [], ◌∷◌, ℕ, ◌+◌, eqb}
use Rattle.base.specs.Choice.{if◌then◌otherwise◌}
use Rattle.kernel.specs.declared.scheduler.Kernel.{Kernel}
use Rattle.kernel.specs.declared.scheduler.Value.{Value}
use Rattle.kernel.specs.declared.scheduler.Answer.{Answer}
use Rattle.kernel.specs.Kernel.{current}
use Rattle.kernel.specs.Calls.{Call, Kind, adding, reaping, starting, switching, ticking, owning, plain, kind, value_number, step}

-- a call, with all its arguments, and what it returned
pub record Entry : Type 0 where
  pub call : Call
  pub answer : Answer

-- the kernel that it returned
abbrev pub after : Entry → Kernel
after e = e.answer.kernel

-- P of each entry
abbrev pub Each : (Entry → Type 0) → List Entry → Type 0
Each P [] = Unit {0}
Each P (e ∷ es) = P e × Each P es

-- R of each entry with the next one
abbrev pub EachNext : (Entry → Entry → Type 0) → List Entry → Type 0
EachNext R [] = Unit {0}
EachNext R (e ∷ []) = Unit {0}
EachNext R (e ∷ f ∷ es) = R e f × EachNext R (f ∷ es)

-- Each call gets the kernel that the one before returned, the first k, and returns what its contract says: `r ≡ step k CALL` stands in that of every kernel call.
abbrev pub Returned : Kernel → List Entry → Type 0
Returned k [] = Unit {0}
Returned k (e ∷ es) = (e.answer ≡ step k e.call) × Returned (after e) es

-- the kernel after the list, k being the one before it
abbrev pub end : Kernel → List Entry → Kernel
end k [] = k
end k (e ∷ es) = end (after e) es

-- ---- what a call was

-- an accepted start or switch and the slot that it picked, an accepted tick and whether it wants a switch, or anything else, refused calls too
pub data Outcome : Type 0 where
  turn : (slot : ℕ) → Outcome
  tick : (wants : Bool) → Outcome
  other : Outcome

-- an accepted call, by its value: start and switch return the slot, a tick that answers true wants a switch
unfoldable pub outcome_of : Kind → Value → Outcome
outcome_of starting v = turn (value_number v)
outcome_of switching v = turn (value_number v)
outcome_of ticking v = tick (eqb (value_number v) 1)
outcome_of adding v = other
outcome_of reaping v = other
outcome_of owning v = other
outcome_of plain v = other

-- accepted means number 0
unfoldable pub outcome : Entry → Outcome
outcome e = if eqb e.answer.number 0 then outcome_of (kind e.call) e.answer.value otherwise other

abbrev pub AcceptedSwitch : Entry → Type 0
AcceptedSwitch e = (kind e.call ≡ switching) × (e.answer.number ≡ 0)

abbrev pub starts : Kind → Bool
starts starting = true
starts switching = false
starts ticking = false
starts adding = false
starts reaping = false
starts owning = false
starts plain = false

-- an accepted start
unfoldable pub is_start : Entry → Bool
is_start e = eqb e.answer.number 0 && starts (kind e.call)

-- ---- turns and ticks counted

-- 1 for a turn of slot j, otherwise 0
abbrev pub turn_of : ℕ → Outcome → ℕ
turn_of j (turn s) = if eqb s j then 1 otherwise 0
turn_of j (tick w) = 0
turn_of j other = 0

-- how many turns slot j has in the list
abbrev pub turns : ℕ → List Entry → ℕ
turns j [] = 0
turns j (e ∷ es) = turn_of j (outcome e) + turns j es

-- 1 for an accepted tick while slot j is current in k, otherwise 0
abbrev pub tick_of : ℕ → Kernel → Outcome → ℕ
tick_of j k (turn s) = 0
tick_of j k (tick w) = if eqb (current k) j then 1 otherwise 0
tick_of j k other = 0

-- how many accepted ticks of the list were made while slot j was current; k is the kernel before the list
abbrev pub ticks_while : ℕ → Kernel → List Entry → ℕ
ticks_while j k [] = 0
ticks_while j k (e ∷ es) = tick_of j k (outcome e) + ticks_while j (after e) es

-- 1 for an accepted tick, otherwise 0
abbrev pub accepted_tick : Outcome → ℕ
accepted_tick (turn s) = 0
accepted_tick (tick w) = 1
accepted_tick other = 0

-- how many ticks of the list were accepted
abbrev pub accepted_ticks : List Entry → ℕ
accepted_ticks [] = 0
accepted_ticks (e ∷ es) = accepted_tick (outcome e) + accepted_ticks es

-- how many were accepted after the start, that is, after the first accepted start of the list: on a started kernel there is no other
abbrev pub ticks_after_start : List Entry → ℕ
ticks_after_start [] = 0
ticks_after_start (e ∷ es) = if is_start e then accepted_ticks es otherwise ticks_after_start es
