-- Milliseconds back from ticks are the quotient of 1000 × t by hz, rounded down: ms × hz / 1000 rounded up is at most t exactly if ms × hz is at most 1000 × t. Then what the call's checks say.
use Prim.Native.Nat.{ℕ, ◌+◌, ◌*◌, ◌/◌, ◌≤◌, ◌<◌}
use native.Mathlib.Omega.{arith}
use native.Mathlib.Nat.{le-div_iff_mul-le, div-le_self, le_refl, lt_of_not-le, not-le_of_lt}
use native.Mathlib.Decide.{ℕ_discrete}
use mathlib.Core.Path.{◌≡◌, refl, ap}
use mathlib.Core.Bool.{true, false, not}
use lib.Dec.{ltb}
use borrow.Author.Tests.{eq-eqb, ne_eqb, le-leb, lt-leb, lt-ltb, le-ltb}
use Rattle.base.specs.Choice.{if◌then◌otherwise◌}
use Rattle.base.proofs.Choices.{taken, left}
use Rattle.base.proofs.Loops.{largest_is}
use Rattle.kernel.specs.Types.{Kernel}
use Rattle.kernel.specs.Kernel.{whole}
use Rattle.kernel.specs.Timer.{ms_to_ticks, ms_of_ticks}
use Rattle.kernel.specs.Calls.{ticks_to_ms, number}
use Rattle.kernel.proofs.Whole.{is_whole}

none : (ms hz : ℕ) → ms ≡ 0 → ms_to_ticks ms hz ≡ 0
unfolding ms_to_ticks if◌then◌otherwise◌
none ms hz z = rw (eq-eqb ms 0 z) refl

-- the tick count where there is something to count
rounded_up : (ms hz : ℕ) → 0 < hz → (ms ≡ 0 → ⊥) → ms_to_ticks ms hz ≡ (ms * hz + 999) / 1000
unfolding ms_to_ticks if◌then◌otherwise◌
rounded_up ms hz h n = rw (ne_eqb ms 0 n, ne_eqb hz 0 (λ z. omega arith)) refl

-- no ms above the quotient has a tick count of at most t
pub at_most_quotient : (hz t ms : ℕ) → 0 < hz → ms_to_ticks ms hz ≤ t → ms ≤ 1000 * t / hz
at_most_quotient hz t ms h c =
    elim (ℕ_discrete ms 0) [
      | yes z ↦ omega (arith, z)
      | no n ↦ let e = rounded_up ms hz h n in (le-div_iff_mul-le h).1 (omega (arith, e, c))
    ]

-- and every ms up to it has
pub counts_within : (hz t ms : ℕ) → 0 < hz → ms ≤ 1000 * t / hz → ms_to_ticks ms hz ≤ t
counts_within hz t ms h c =
    elim (ℕ_discrete ms 0) [
      | yes z ↦ omega (arith, none ms hz z)
      | no n ↦ let e = rounded_up ms hz h n in let f : ms * hz ≤ 1000 * t = (le-div_iff_mul-le h).0 c in omega (arith, e, f)
    ]

pub ticks_to_ms_is : (t hz : ℕ) → 0 < hz → ms_of_ticks t hz ≡ 1000 * t / hz
unfolding ms_of_ticks
ticks_to_ms_is t hz h =
    largest_is _ _ (1000 * t / hz) (omega (arith, div-le_self (1000 * t) hz)) (le-leb _ _ (counts_within hz t (1000 * t / hz) h (le_refl _)))
    (λ ms above. lt-leb _ _ (past ms above))
  where
    past : (ms : ℕ) → 1000 * t / hz < ms → t < ms_to_ticks ms hz
    past ms above = lt_of_not-le (λ c. not-le_of_lt above (at_most_quotient hz t ms h c))

pub clocked : (k : Kernel) → whole k ≡ true → 0 < k.hz
clocked k w = (is_whole k w).clock

-- ---- the call's number: not whole, past 4,294,967,295, and within

pub ms_not_whole : (k : Kernel) (t : ℕ) → whole k ≡ false → 1 ≡ number k (ticks_to_ms t)
unfolding number
ms_not_whole k t w = taken _ _ _ _ (ap not w) refl

pub ms_past : (k : Kernel) (t : ℕ) → whole k ≡ true → 4294967295 < 1000 * t / k.hz → 23 ≡ number k (ticks_to_ms t)
unfolding number
ms_past k t w h = left _ _ _ _ (ap not w) (taken (ltb _ (1000 * t / k.hz)) _ _ _ (lt-ltb _ (1000 * t / k.hz) (omega (arith, h))) refl)

pub ms_within : (k : Kernel) (t : ℕ) → whole k ≡ true → 1000 * t / k.hz ≤ 4294967295 → 0 ≡ number k (ticks_to_ms t)
unfolding number
ms_within k t w h = left _ _ _ _ (ap not w) (left (ltb _ (1000 * t / k.hz)) _ _ _ (le-ltb _ (1000 * t / k.hz) (omega (arith, h))) refl)
