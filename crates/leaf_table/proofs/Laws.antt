-- An id that a look-up did not find, or found; what a wake tells and does, by the slot that `blocked_slot` found; and an object that passed the first checks is one of the four.
use Prim.Native.Nat.{ℕ, ◌<◌}
use native.Mathlib.Omega.{arith}
use mathlib.Core.Path.{◌≡◌, refl, sym, ◌∙◌}
use mathlib.Core.Bool.{true, not}
use mathlib.Core.List.{List, [], ◌∷◌}
use lib.Dec.{ltb}
use borrow.Author.Tests.{ltb-false, lt-ltb}
use Rattle.std.specs.declared.option.Option.{Option}
use Rattle.std.specs.declared.option.Option.TheVariants.{Some, None}
use Rattle.std.specs.declared.result.Result.{Result}
use Rattle.std.specs.Option.{IfSome, unwrap_or, ok_or}
use Rattle.base.specs.Choice.{if◌then◌otherwise◌}
use Rattle.base.proofs.Choices.{not_clear, and_left, either}
use Rattle.kernel.specs.declared.control.TaskId.{TaskId}
use Rattle.kernel.specs.declared.control.TaskState.TheVariants.{Ready}
use Rattle.kernel.specs.declared.scheduler.Kernel.{Kernel}
use Rattle.kernel.specs.Control.{entered}
use Rattle.kernel.specs.declared.scheduler.Refusal.{Refusal}
use Rattle.kernel.specs.declared.scheduler.Refusal.TheVariants.{UnknownId}
use Rattle.kernel.specs.Refusal.{number_of}
use Rattle.kernel.specs.Kernel.{at, slot_of, is_present, whole}
use Rattle.kernel.specs.Scheduler.{wake, wakes}
use Rattle.kernel.specs.Calls.{Check, first_of, not_whole, no_object, not_started}
use Rattle.kernel.proofs.Checks.{passed}
use Rattle.kernel.proofs.Tasks.{wake_is}
use Rattle.kernel.proofs.Whole.{Whole, is_whole}

-- s is what `blocked_slot` found
pub slot_tells : (k : Kernel) (a : TaskId) (s : ℕ) → s ≡ (if wakes a k then slot_of k a otherwise 16) → ltb s 16 ≡ wakes a k
slot_tells k a s e = rw e (either (λ i. ltb i 16 ≡ wakes a k) (wakes a k) (λ t. and_left _ _ t ∙ sym t) (λ f. sym f))

pub slot_wakes : (k : Kernel) (a : TaskId) (s : ℕ) → s ≡ (if wakes a k then slot_of k a otherwise 16) → (if ltb s 16 then at s (entered Ready) k otherwise k) ≡ wake a k
unfolding if◌then◌otherwise◌
slot_wakes k a s e =
    rw e (either (λ i. (if ltb i 16 then at i (entered Ready) k otherwise k) ≡ wake a k) (wakes a k)
    (λ t. let found : ltb (slot_of k a) 16 ≡ true = and_left _ _ t in rw found (rw t at (wake_is a k)))
    (λ f. rw f at (wake_is a k)))

-- how the checks of a call begin: on an object, where it needs the kernel started, and both
abbrev pub early_object_checks : Kernel → ℕ → List Check
early_object_checks k o = not_whole k ∷ no_object o ∷ []

abbrev pub started_checks : Kernel → List Check
started_checks k = not_whole k ∷ not_started k ∷ []

abbrev pub object_checks : Kernel → ℕ → List Check
object_checks k o = not_whole k ∷ no_object o ∷ not_started k ∷ []

pub passed_started : (k : Kernel) → 0 ≡ first_of (started_checks k) → Whole k
passed_started k e = is_whole k (not_clear _ (passed (started_checks k) 0 refl (sym e)))

pub passed_object : (k : Kernel) (o : ℕ) → 0 ≡ first_of (early_object_checks k o) → Whole k × (o < 4)
passed_object k o e = (is_whole k (not_clear _ (passed (early_object_checks k o) 0 refl (sym e))), omega (arith, ltb-false 3 o (passed (early_object_checks k o) 1 refl (sym e))))

pub passed_started_object : (k : Kernel) (o : ℕ) → 0 ≡ first_of (object_checks k o) → Whole k × (o < 4)
passed_started_object k o e = (is_whole k (not_clear _ (passed (object_checks k o) 0 refl (sym e))), omega (arith, ltb-false 3 o (passed (object_checks k o) 1 refl (sym e))))

pub passed_whole : (k : Kernel) → 0 ≡ first_of (not_whole k ∷ []) → whole k ≡ true
passed_whole k e = not_clear _ (passed (not_whole k ∷ []) 0 refl (sym e))

-- the number of a look-up's check, o being what `slot_of` found
pub looked_up : (k : Kernel) (a : TaskId) (o : Option ℕ) (x : Result ℕ Refusal) → unwrap_or o 16 ≡ slot_of k a → IfSome o (λ i. i < 16) → x ≡ ok_or o UnknownId → number_of x ≡ if not (is_present k a) then 8 otherwise 0
unfolding if◌then◌otherwise◌
looked_up k a (Some i) x p b e = rw (e, ← p, lt-ltb i 16 b) refl
looked_up k a None x p b e = rw (e, ← p) refl
