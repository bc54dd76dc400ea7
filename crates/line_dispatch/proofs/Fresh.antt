-- A fresh kernel takes the place of another unless it is refused; the number of an answer is that of its call.
use Prim.Native.Nat.{ℕ}
use mathlib.Core.Path.{◌≡◌, refl, sym, ap, ◌∙◌}
use lib.Dec.{eqb}
use borrow.Author.Tests.{eqb-true, eq-eqb, ne_eqb}
use Rattle.base.specs.Choice.{if◌then◌otherwise◌}
use Rattle.base.proofs.Choices.{either, taken, left}
use Rattle.kernel.specs.declared.scheduler.Kernel.{Kernel}
use Rattle.kernel.specs.declared.scheduler.Value.{Value}
use Rattle.kernel.specs.declared.scheduler.Value.TheVariants.{Nothing}
use Rattle.kernel.specs.declared.scheduler.Answer.{Answer}
use Rattle.kernel.specs.Kernel.{blank_kernel, fresh_kernel}
use Rattle.kernel.specs.Calls.{Call, number, value, effect, step, accepted, refused, init_number, init}
use Rattle.line_dispatch.specs.Dispatch.{fresh_for}

-- the answer of an accepted call, or of one that was refused with n
number_is : (n : ℕ) (v : Value) (k k' : Kernel) → (if eqb n 0 then accepted v k otherwise refused n k').number ≡ n
number_is n v k k' = either (λ (a : Answer). a.number ≡ n) (eqb n 0) (λ e. sym (eqb-true n 0 e)) (λ _. refl)

pub step_number : (k : Kernel) (c : Call) → (step k c).number ≡ number k c
unfolding step
step_number k c = number_is (number k c) (value k c) (effect k c) k

init_number_lem : (hz words : ℕ) → (init hz words).number ≡ init_number hz words
unfolding init
init_number_lem hz words = number_is (init_number hz words) Nothing (fresh_kernel hz words) blank_kernel

module _ (k : Kernel) (hz words : ℕ) {a : Answer} (made : a ≡ init hz words) where
  numbered : a.number ≡ init_number hz words
  numbered = ap (λ (x : Answer). x.number) made ∙ init_number_lem hz words

  pub fresh_refused : (r : Answer) → (a.number ≡ 0 → ⊥) → r ≡ refused a.number k → r ≡ fresh_for k hz words
  fresh_refused r h e = left _ _ _ _ (ne_eqb _ 0 (λ z. h (numbered ∙ z))) (e ∙ ap (λ (n : ℕ). refused n k) numbered)

  pub fresh_accepted : a.number ≡ 0 → a ≡ fresh_for k hz words
  fresh_accepted z = taken _ _ _ _ (eq-eqb _ 0 (sym numbered ∙ z)) made
