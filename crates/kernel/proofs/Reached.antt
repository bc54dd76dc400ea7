-- What holds of every fresh kernel and is kept by every accepted call holds after every list of calls from fresh, since a refused call keeps the kernel; and
-- an accepted call keeps what each change does. So every kernel from fresh is whole.
use Prim.Native.Nat.{ℕ}
use mathlib.Core.Path.{◌≡◌, refl, ap, subst}
use mathlib.Core.Bool.{true}
use lib.Dec.{eqb}
use borrow.Author.Tests.{eqb-true, eq-eqb}
use Rattle.base.proofs.Choices.{either, taken}
use Rattle.kernel.specs.Types.{Kernel, Answer}
use Rattle.kernel.specs.Kernel.{whole, fresh_kernel}
use Rattle.kernel.specs.Calls.{Call, Kind, kind, number, effect, step, init, init_number, Reached, fresh, called}
use Rattle.kernel.proofs.Whole.{whole_is}
use Rattle.kernel.proofs.Changes.{Change, carry}
use Rattle.kernel.proofs.MadeOf.{made_of}
use Rattle.kernel.proofs.Owned.{Sound, fresh_sound, change_sound}

-- an accepted `init` gives the fresh kernel
pub init_kernel : (hz words : ℕ) → init_number hz words ≡ 0 → fresh_kernel hz words ≡ (init hz words).kernel
unfolding init
init_kernel hz words e = ap (λ (a : Answer). a.kernel) (taken _ _ _ _ (eq-eqb (init_number hz words) 0 e) refl)

-- a fact of the step, from one of the accepted call
pub after_step : (P : Kernel → Type 0) (k : Kernel) (c : Call) → (number k c ≡ 0 → P (effect k c)) → P k → P (step k c).kernel
unfolding step
after_step P k c f p = either (λ (a : Answer). P a.kernel) (eqb (number k c) 0) (λ e. f (eqb-true _ _ e)) (λ _. p)

pub reached : (P : Kernel → Type 0) → ((hz words : ℕ) → init_number hz words ≡ 0 → P (fresh_kernel hz words)) → ((k : Kernel) (c : Call) → number k c ≡ 0 → P k → P (effect k c)) → {k : Kernel} → Reached k → P k
reached P f g (fresh hz words e) = subst P (init_kernel hz words e) (f hz words e)
reached P f g (called {k = k} c r) = let p = reached P f g r in after_step P k c (λ e. g k c e p) p

-- by the changes alone
pub reached_by : (P : Kernel → Type 0) → ((hz words : ℕ) → init_number hz words ≡ 0 → P (fresh_kernel hz words)) → ((g : Kind) (k k' : Kernel) → Change g k k' → P k → P k') → {k : Kernel} → Reached k → P k
reached_by P f g = reached P f (λ k c e p. carry P (g (kind c)) (made_of k c e) p)

pub reached_whole : {k : Kernel} → Reached k → whole k ≡ true
reached_whole {k} r = whole_is k (reached_by Sound fresh_sound change_sound r).is
