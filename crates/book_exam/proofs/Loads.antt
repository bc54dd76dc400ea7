-- The table of loads holds: of a whole kernel with a tick since the start the answer is the quotient and the rest, by the
-- law that one pair meets the equation; these are computed.
use Prim.Native.Nat.{◌*◌, ◌/◌, ◌%◌, ◌<◌}
use mathlib.Core.Path.{◌≡◌, refl, sym, ap, ◌∙◌}
use mathlib.Core.Bool.{Bool, true, ◌&&◌}
use mathlib.Core.List.{List, [], ◌∷◌, map}
use lib.Dec.{ltb}
use borrow.Author.Tests.{ltb-true}
use Rattle.base.specs.Choice.{if◌then◌otherwise◌, every}
use Rattle.base.specs.Below.{all_below, any_below, count_below, sum_below, lowest_below}
use Rattle.base.proofs.Choices.{and_left, and_right}
use Rattle.kernel.specs.declared.control.TaskId.{TaskId}
use Rattle.kernel.specs.declared.scheduler.Kernel.{Kernel}
use Rattle.kernel.specs.declared.scheduler.Value.{Value}
use Rattle.kernel.specs.declared.scheduler.Value.TheVariants.{Load}
use Rattle.kernel.specs.declared.scheduler.Answer.{Answer}
use Rattle.kernel.specs.Control.{holds_task, region_fits}
use Rattle.kernel.specs.Kernel.{charge, charge_sum, slot_of, arena_fits, whole, fresh_kernel}
use Rattle.kernel.specs.Calls.{load, value, effect, step, accepted}
use Rattle.kernel.proofs.Step.{number_accepted}
use Rattle.kernel.proofs.Load.{load_quotient, load_is, charge_within, load_accepted}
use Rattle.book_exam.specs.Charges.{charged}
use Rattle.book_exam.specs.Odd.{id}
use Rattle.book_exam.specs.Loads.{Case, cases, after, given, LoadExam, in_two_slots, LoadOdd}

-- what is computed in place of the search
quick : Kernel → TaskId → Value
quick k a = let c = 1000 * charge k (slot_of k a) in Load (c / charge_sum k) (c % charge_sum k)

-- the call is accepted
fits : Kernel → TaskId → Bool
fits k a = whole k && (ltb (slot_of k a) 16 && ltb 0 (charge_sum k))

quick_is : (k : Kernel) (a : TaskId) → fits k a ≡ true → (step k (load a)).value ≡ quick k a
unfolding quick fits value
quick_is k a e =
    let w = and_left (whole k) (ltb (slot_of k a) 16 && ltb 0 (charge_sum k)) e in
    let rest = and_right (whole k) (ltb (slot_of k a) 16 && ltb 0 (charge_sum k)) e in
    let h : slot_of k a < 16 = ltb-true _ _ (and_left (ltb (slot_of k a) 16) (ltb 0 (charge_sum k)) rest) in
    let p : 0 < charge_sum k = ltb-true _ _ (and_right (ltb (slot_of k a) 16) (ltb 0 (charge_sum k)) rest) in
    let is = load_is (charge_within k (slot_of k a) h) (load_quotient (charge k (slot_of k a)) (charge_sum k) p) in
    sym (ap (λ (x : Answer). x.value) (number_accepted k (load a) 0 (accepted (value k (load a)) (effect k (load a))) (load_accepted k a w h p) refl refl)) ∙ rw (is.0, is.1) refl

all_fit : List Case → Bool
all_fit [] = true
all_fit (c ∷ cs) = fits (after c) (id 0) && all_fit cs

quick_given : Case → Value
quick_given c = quick (after c) (id 0)

each : (cs : List Case) → all_fit cs ≡ true → map given cs ≡ map quick_given cs
unfolding quick_given all_fit
each [] e = refl
each (c ∷ cs) e =
    let here = and_left (fits (after c) (id 0)) (all_fit cs) e in
    rw (quick_is (after c) (id 0) here, each cs (and_right (fits (after c) (id 0)) (all_fit cs) e)) refl

pub load_exam : LoadExam
unfolding fits all_fit quick quick_given after charged if◌then◌otherwise◌ every all_below count_below sum_below lowest_below region_fits arena_fits slot_of whole fresh_kernel
load_exam = each cases refl ∙ refl

pub load_odd : LoadOdd
unfolding fits quick charged in_two_slots if◌then◌otherwise◌ every all_below any_below count_below sum_below lowest_below holds_task region_fits arena_fits slot_of whole fresh_kernel
load_odd = (quick_is in_two_slots (id 5) refl ∙ refl, quick_is (charged 3 (1 ∷ 2 ∷ []) 0) (id 0) refl ∙ refl)
