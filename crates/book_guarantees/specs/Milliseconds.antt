-- What the book says of milliseconds back from ticks (02, W-204): of every whole kernel, and so of every one that a list of calls reaches from fresh.
use Rattle.std.specs.Prelude.{ℕ, ◌*◌, ◌/◌, ◌≤◌, ◌<◌, ◌≡◌, true}
use Rattle.kernel.specs.declared.scheduler.Kernel.{Kernel}
use Rattle.kernel.specs.declared.scheduler.Value.TheVariants.{Milliseconds}
use Rattle.kernel.specs.Kernel.{whole}
use Rattle.kernel.specs.Timer.{ms_to_ticks, ms_of_ticks}
use Rattle.kernel.specs.Calls.{ticks_to_ms, accepted, refused, step, value_number}

-- m is "the largest number of milliseconds whose tick count is at most t"
pub record LargestMs (hz t m : ℕ) : Type 0 where
  pub counts : ms_to_ticks m hz ≤ t
  pub largest : (ms : ℕ) → ms_to_ticks ms hz ≤ t → ms ≤ m

-- the quotient of 1000 × t by hz, rounded down
abbrev pub quotient : Kernel → ℕ → ℕ
quotient k t = 1000 * t / k.hz

-- the call is accepted for t ticks, and what it answers then
abbrev pub IsAnswered : Kernel → ℕ → Type 0
IsAnswered k t = (step k (ticks_to_ms t)).number ≡ 0

abbrev pub answer : Kernel → ℕ → ℕ
answer k t = value_number (step k (ticks_to_ms t)).value

pub record TicksToMs (k : Kernel) : Type 0 where
  -- the definition's search finds that number, and it is the quotient, which is answered; the kernel is as it was
  pub is_largest : (t : ℕ) → LargestMs k.hz t (ms_of_ticks t k.hz)
  pub is_quotient : (t : ℕ) → ms_of_ticks t k.hz ≡ quotient k t
  pub answered : (t : ℕ) → quotient k t ≤ 4294967295 → step k (ticks_to_ms t) ≡ accepted (Milliseconds (quotient k t)) k
  -- "23, the quotient of 1000 × t by hz passes 4,294,967,295"
  pub passes : (t : ℕ) → 4294967295 < quotient k t → step k (ticks_to_ms t) ≡ refused 23 k
  -- to ticks and back: what is answered is at least ms; the quotient is, where it passes too
  pub there_and_back : (ms : ℕ) → IsAnswered k (ms_to_ticks ms k.hz) → ms ≤ answer k (ms_to_ticks ms k.hz)
  pub at_least : (ms : ℕ) → ms ≤ quotient k (ms_to_ticks ms k.hz)
  -- back from ticks and there again: at most t
  pub back_and_there : (t : ℕ) → IsAnswered k t → ms_to_ticks (answer k t) k.hz ≤ t

abbrev pub MillisecondsGuarantee : Type 0
MillisecondsGuarantee = (k : Kernel) → whole k ≡ true → TicksToMs k
