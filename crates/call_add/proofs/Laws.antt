-- The number of a search that found no empty slot.
use Prim.Native.Nat.{ℕ, ◌<◌}
use mathlib.Core.Path.{◌≡◌, refl, ap, sym, ◌∙◌}
use mathlib.Core.Bool.{false}
use lib.Dec.{leb, lit<}
use borrow.Author.Tests.{lt-leb}
use Rattle.std.specs.declared.result.Result.TheVariants.{Ok}
use Rattle.std.specs.Prelude.{Option, Some, None}
use Rattle.std.specs.Option.{unwrap_or, ok_or, IfSome}
use Rattle.base.specs.Choice.{if◌then◌otherwise◌}
use Rattle.base.proofs.Choices.{clear}
use Rattle.kernel.specs.declared.scheduler.Refusal.TheVariants.{NoEmptySlot}
use Rattle.kernel.specs.Refusal.{number_of}

-- o is what the search found, l the lowest empty slot
pub slot_number : (o : Option ℕ) (l : ℕ) → unwrap_or o 16 ≡ l → IfSome o (λ i. i < 16) → number_of (ok_or o NoEmptySlot) ≡ if leb 16 l then 4 otherwise 0
unfolding if◌then◌otherwise◌
slot_number None l e h = rw (← e) refl
slot_number (Some i) l e h = rw (← e, lt-leb 16 i h) refl

pub slot_found : (o : Option ℕ) (l i : ℕ) → unwrap_or o 16 ≡ l → IfSome o (λ i. i < 16) → Ok i ≡ ok_or o NoEmptySlot → leb 16 l ≡ false
slot_found o l i e h g = (clear (leb 16 l) 4 0 (lit< tt) (sym (ap number_of g ∙ slot_number o l e h))).0
