-- A refusal's number is none of an acceptance, and what a check's result says of the number.
use Prim.Native.Nat.{ℕ}
use mathlib.Core.Path.{◌≡◌, ap, sym, ◌∙◌}
use native.Mathlib.Omega.{arith}
use Rattle.std.specs.declared.result.Result.{Result}
use Rattle.std.specs.declared.result.Result.TheVariants.{Ok, Err}
use Rattle.std.specs.Result.{IsErrAnd}
use Rattle.kernel.specs.Types.{Refusal, NotWhole, NotStarted, AlreadyStarted, NoEmptySlot, UnfitRegion, NoIdLeft, UnfitOperand, UnknownId, TaskInUse, IdleExits, OwnsMutex, QueueFull, AlreadyOwned, NotOwner, NothingOwned, SpOutside, GuardNotIntact, LastTick, LastPermit, NoObject, FewRecords, TooManyMilliseconds, NoTick}
use Rattle.kernel.specs.Refusal.{refusal_number, number_of}

pub nonzero_refusal : (r : Refusal) → refusal_number r ≡ 0 → ⊥
nonzero_refusal NotWhole e = omega (arith, e)
nonzero_refusal NotStarted e = omega (arith, e)
nonzero_refusal AlreadyStarted e = omega (arith, e)
nonzero_refusal NoEmptySlot e = omega (arith, e)
nonzero_refusal UnfitRegion e = omega (arith, e)
nonzero_refusal NoIdLeft e = omega (arith, e)
nonzero_refusal UnfitOperand e = omega (arith, e)
nonzero_refusal UnknownId e = omega (arith, e)
nonzero_refusal TaskInUse e = omega (arith, e)
nonzero_refusal IdleExits e = omega (arith, e)
nonzero_refusal OwnsMutex e = omega (arith, e)
nonzero_refusal QueueFull e = omega (arith, e)
nonzero_refusal AlreadyOwned e = omega (arith, e)
nonzero_refusal NotOwner e = omega (arith, e)
nonzero_refusal NothingOwned e = omega (arith, e)
nonzero_refusal SpOutside e = omega (arith, e)
nonzero_refusal GuardNotIntact e = omega (arith, e)
nonzero_refusal LastTick e = omega (arith, e)
nonzero_refusal LastPermit e = omega (arith, e)
nonzero_refusal NoObject e = omega (arith, e)
nonzero_refusal FewRecords e = omega (arith, e)
nonzero_refusal TooManyMilliseconds e = omega (arith, e)
nonzero_refusal NoTick e = omega (arith, e)

pub refused_number : {A : Type 0} (x : Result A Refusal) (r : Refusal) (n : ℕ) → number_of x ≡ n → x ≡ Err r → refusal_number r ≡ n
refused_number x r n e h = sym (ap number_of h) ∙ e

pub accepted_number : {A : Type 0} (x : Result A Refusal) (a : A) (n : ℕ) → number_of x ≡ n → x ≡ Ok a → n ≡ 0
accepted_number x a n e h = sym e ∙ ap number_of h

-- a refusal that `?` hands on
pub handed_on : {A : Type 0} (x : Result A Refusal) (r : Refusal) → IsErrAnd x (λ e. e ≡ r) → number_of x ≡ refusal_number r
handed_on (Ok a) r h = absurd h
handed_on (Err e) r h = ap refusal_number h
