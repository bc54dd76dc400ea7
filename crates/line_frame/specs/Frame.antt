-- A line of the notation of `turns` or `tables`, and the frame that it writes (01, "Program `turns`"; README, "The operations").
use Rattle.std.specs.Prelude.{ℕ, ◌+◌, ◌-◌, ◌*◌, Bool, ◌&&◌, ◌||◌, not, List, [], ◌∷◌, ◌++◌, map, eqb, leb, ltb, get_or, set, replicate, Option, Some, None, option_map, option_and_then}
use Rattle.std.specs.Option.{option_zip}
use Rattle.base.specs.Choice.{if◌then◌otherwise◌, every}
use Rattle.line_frame.specs.declared.Operation.{Operation}
use Rattle.line_frame.specs.declared.Operation.TheVariants.{Add, Start, Tick, Switch, Exit, Wait, Reap, Sleep, Wake, Lock, Unlock, TryLock, Acquire, TryAcquire, Release, EventWait, Signal, Status, Block, ReapOne, AcquireWithin, EventWaitWithin, TicksToMs, CurrentId, Result, Word, Init}
use Rattle.line_frame.specs.declared.Frame.{Frame}
use Rattle.line_frame.specs.declared.Line.{Line}

-- ---- the line

abbrev pub empty_line : Line
empty_line = record { bytes = replicate 12 0; len = 0 }

-- one byte more; from the thirteenth on, only that it is too long
unfoldable pub lengthened : Line → ℕ → Line
lengthened l b =
    if ltb l.len 12 then record { bytes = set l.bytes l.len b; len = l.len + 1 }
    otherwise record { bytes = l.bytes; len = 13 }

-- ---- its digits

-- what a lowercase hex digit stands for
unfoldable pub digit : ℕ → Option ℕ
digit b =
    if leb 48 b && leb b 57 then Some (b - 48)
    otherwise if leb 97 b && leb b 102 then Some (b - 97 + 10)
    otherwise None

-- the byte that two digits write, high first
unfoldable pub byte_of : ℕ → ℕ → Option ℕ
byte_of high low = option_map (λ d. 16 * d.0 + d.1) (option_zip (digit high) (digit low))

-- byte i of the six
abbrev pub byte_at : Line → ℕ → Option ℕ
byte_at l i = byte_of (get_or l.bytes (2 * i) 0) (get_or l.bytes (2 * i + 1) 0)

-- all of them, where each is there
abbrev pub all_of : List (Option ℕ) → Option (List ℕ)
all_of [] = Some []
all_of (o ∷ os) = option_map (λ p. p.0 ∷ p.1) (option_zip o (all_of os))

-- the six, of twelve digits and no other line
unfoldable pub written : Line → Option (List ℕ)
written l = if eqb l.len 12 then all_of (map (byte_at l) (0 ∷ 1 ∷ 2 ∷ 3 ∷ 4 ∷ 5 ∷ [])) otherwise None

-- ---- its operation and its operands

-- in the order of their numbers, from 00, which is none; so are 17, 19 and 1a
abbrev pub operations : List (Option Operation)
operations =
    None ∷ map Some (Add ∷ Start ∷ Tick ∷ Switch ∷ Exit ∷ Wait ∷ Reap ∷ Sleep ∷ Wake ∷ Lock ∷ Unlock ∷ TryLock ∷ Acquire ∷ TryAcquire ∷ Release ∷ EventWait ∷ Signal ∷ Status ∷ Block ∷ ReapOne ∷ AcquireWithin ∷ EventWaitWithin ∷ [])
    ++ None ∷ Some TicksToMs ∷ None ∷ None ∷ map Some (Operation.List ∷ CurrentId ∷ Result ∷ Word ∷ Init ∷ [])

-- `turns` has those up to 14
unfoldable pub operation_of : Bool → ℕ → Option Operation
operation_of tables n = if tables || leb n 0x14 then get_or operations n None otherwise None

-- add, the calls on objects and status; 15 and 16, with a limit; 18; list, result and word
abbrev pub uses_k : ℕ → Bool
uses_k operation = eqb operation 0x01 || (leb 0x0a operation && leb operation 0x12) || eqb operation 0x15 || eqb operation 0x16 || eqb operation 0x18 || eqb operation 0x1b || eqb operation 0x1d || eqb operation 0x1e

-- add, switch, and 06 to 09: wait, reap, sleep, wake; 15, 16 and 18; 1d to 1f: result, word, fresh
abbrev pub uses_y : ℕ → Bool
uses_y operation = eqb operation 0x01 || eqb operation 0x04 || (leb 0x06 operation && leb operation 0x09) || eqb operation 0x15 || eqb operation 0x16 || eqb operation 0x18 || (leb 0x1d operation && leb operation 0x1f)

-- four bytes, high first
abbrev pub y_of : List ℕ → ℕ
y_of bytes = ((get_or bytes 2 0 * 256 + get_or bytes 3 0) * 256 + get_or bytes 4 0) * 256 + get_or bytes 5 0

-- an operand that the operation does not use is 0
unfoldable pub k_fits : ℕ → ℕ → Bool
k_fits operation k = eqb k 0 || uses_k operation

unfoldable pub y_fits : ℕ → ℕ → Bool
y_fits operation y = eqb y 0 || uses_y operation

-- 18: y × 2^k for a k of at most 32; 1e: one of 4,096 words, which becomes 0 or the paint
unfoldable pub in_range : ℕ → ℕ → ℕ → Bool
in_range operation k y = (not (eqb operation 0x18) || leb k 32) && (not (eqb operation 0x1e) || (leb k 1 && leb y 4095))

-- every operand fits; a line is malformed otherwise
unfoldable pub operands_fit : ℕ → ℕ → ℕ → Bool
operands_fit operation k y = every (k_fits operation k ∷ y_fits operation y ∷ in_range operation k y ∷ [])

-- operation, k, y; malformed with an unused operand above 0, as 18 or 1e out of range, and where the number is no operation's
unfoldable pub framed : Bool → List ℕ → Option Frame
framed tables bytes =
    let number = get_or bytes 0 0 in
    let k = get_or bytes 1 0 in
    let y = y_of bytes in
    if operands_fit number k y then option_map (λ o. record { operation = o; k = k; y = y }) (operation_of tables number)
    otherwise None

-- 12 lowercase hex digits; any other line is malformed
unfoldable pub frame_of : Bool → Line → Option Frame
frame_of tables l = option_and_then (framed tables) (written l)
