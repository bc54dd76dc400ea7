-- Milliseconds back from ticks, proved: an ms has a tick count of at most t exactly up to the quotient (crates/kernel/proofs/Timer.antt), and what is answered is the quotient.
use Prim.Native.Nat.{ℕ, ◌≤◌, ◌<◌}
use native.Mathlib.Omega.{arith}
use native.Mathlib.Nat.{le_refl, lt_of_not-le}
use native.Mathlib.Decide.{dec_le}
use mathlib.Core.Path.{◌≡◌, refl, sym, ap}
use mathlib.Core.Bool.{true}
use Rattle.kernel.specs.declared.scheduler.Kernel.{Kernel}
use Rattle.kernel.specs.declared.scheduler.Value.TheVariants.{Milliseconds}
use Rattle.kernel.specs.declared.scheduler.Answer.{Answer}
use Rattle.kernel.specs.Kernel.{whole}
use Rattle.kernel.specs.Timer.{ms_to_ticks}
use Rattle.kernel.specs.Calls.{ticks_to_ms, value, effect, accepted, refused, step, value_number}
use Rattle.kernel.proofs.Step.{number_refused, number_accepted}
use Rattle.kernel.proofs.Timer.{at_most_quotient, counts_within, ticks_to_ms_is, clocked, ms_past, ms_within}
use Rattle.book_guarantees.specs.Milliseconds.{LargestMs, quotient, IsAnswered, answer, MillisecondsGuarantee}

module _ (k : Kernel) (w : whole k ≡ true) where
  largest : (t : ℕ) → LargestMs k.hz t (quotient k t)
  largest t = record { counts = counts_within k.hz t (quotient k t) (clocked k w) (le_refl _); largest = λ ms c. at_most_quotient k.hz t ms (clocked k w) c }

  within : (t : ℕ) → quotient k t ≤ 4294967295 → step k (ticks_to_ms t) ≡ accepted (Milliseconds (quotient k t)) k
  unfolding value effect
  within t h = sym (number_accepted k (ticks_to_ms t) 0 _ (ms_within k t w h) refl (rw (ticks_to_ms_is t k.hz (clocked k w)) refl))

  past : (t : ℕ) → 4294967295 < quotient k t → step k (ticks_to_ms t) ≡ refused 23 k
  past t h = sym (number_refused k (ticks_to_ms t) 23 _ (ms_past k t w h) (λ z. omega arith) refl)

  answer_is : (t : ℕ) → IsAnswered k t → answer k t ≡ quotient k t
  unfolding value_number
  answer_is t e =
      elim (dec_le (quotient k t) 4294967295) [
        | yes h ↦ ap (λ (a : Answer). value_number a.value) (within t h)
        | no h ↦ let n = ap (λ (a : Answer). a.number) (past t (lt_of_not-le h)) in absurd (omega (arith, e, n))
      ]

pub milliseconds_guarantee : MillisecondsGuarantee
milliseconds_guarantee k w =
    let at_least : (ms : ℕ) → ms ≤ quotient k (ms_to_ticks ms k.hz) = λ ms. (largest k w (ms_to_ticks ms k.hz)).largest ms (le_refl _) in
    record {
      is_largest = λ t. rw (ticks_to_ms_is t k.hz (clocked k w)) (largest k w t);
      is_quotient = λ t. ticks_to_ms_is t k.hz (clocked k w);
      answered = λ t h. within k w t (omega (arith, h));
      passes = λ t h. past k w t (omega (arith, h));
      there_and_back = λ ms e. rw (answer_is k w (ms_to_ticks ms k.hz) e) (at_least ms);
      at_least = at_least;
      back_and_there = λ t e. rw (answer_is k w t e) (largest k w t).counts;
    }
