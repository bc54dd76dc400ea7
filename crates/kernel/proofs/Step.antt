-- How a call's code meets its step: by what its checks gave, refused, or accepted with the value and the effect.
use mathlib.Core.Path.{◌≡◌, refl}
use Prim.Native.Nat.{ℕ}
use borrow.Author.Tests.{eq-eqb, ne_eqb}
use Rattle.std.specs.declared.result.Result.{Result}
use Rattle.std.specs.declared.result.Result.TheVariants.{Ok, Err}
use Rattle.base.proofs.Choices.{taken, left}
use Rattle.kernel.specs.Types.{Kernel, Answer, Refusal}
use Rattle.kernel.specs.Refusal.{refusal_number, number_of}
use Rattle.kernel.specs.Calls.{Call, number, value, effect, refused, accepted, step}
use Rattle.kernel.proofs.Refusal.{nonzero_refusal, refused_number, accepted_number}

-- by the number
pub number_refused : (k : Kernel) (c : Call) (n : ℕ) (a : Answer) → n ≡ number k c → (n ≡ 0 → ⊥) → a ≡ refused n k → a ≡ step k c
unfolding step
number_refused k c n a e h g = left _ _ _ _ (rw (← e) (ne_eqb n 0 h)) (rw (← e) g)

pub number_accepted : (k : Kernel) (c : Call) (n : ℕ) (a : Answer) → n ≡ number k c → n ≡ 0 → a ≡ accepted (value k c) (effect k c) → a ≡ step k c
unfolding step
number_accepted k c n a e h g = taken _ _ _ _ (rw (← e) (eq-eqb n 0 h)) g

-- by what the checks gave
pub step_refused : {A : Type 0} (k : Kernel) (c : Call) (x : Result A Refusal) (r : Refusal) (a : Answer) → number_of x ≡ number k c → x ≡ Err r → a ≡ refused (refusal_number r) k → a ≡ step k c
step_refused k c x r a e h g = number_refused k c (refusal_number r) a (refused_number x r _ e h) (nonzero_refusal r) g

pub step_accepted : {A : Type 0} (k : Kernel) (c : Call) (x : Result A Refusal) (u : A) (a : Answer) → number_of x ≡ number k c → x ≡ Ok u → a ≡ accepted (value k c) (effect k c) → a ≡ step k c
step_accepted k c x u a e h g = number_accepted k c (number k c) a refl (accepted_number x u _ e h) g
