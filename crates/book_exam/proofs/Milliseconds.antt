-- The table of milliseconds holds: by the book's guarantee each case is answered with the quotient or with 23, and the quotients are computed.
use Prim.Native.Nat.{ℕ, ◌*◌, ◌/◌}
use mathlib.Core.Path.{◌≡◌, refl, ◌∙◌}
use mathlib.Core.Bool.{Bool, true, ◌&&◌}
use mathlib.Core.List.{List, [], ◌∷◌, map}
use lib.Dec.{eqb, ltb}
use borrow.Author.Tests.{eqb-true, ltb-true, ltb-false}
use Rattle.base.specs.Choice.{if◌then◌otherwise◌}
use Rattle.base.proofs.Choices.{either, and_left, and_right}
use Rattle.kernel.specs.declared.scheduler.Answer.{Answer}
use Rattle.kernel.specs.declared.scheduler.Value.TheVariants.{Milliseconds}
use Rattle.kernel.specs.Kernel.{arena_fits, fresh_kernel}
use Rattle.kernel.specs.Calls.{init_number, accepted, refused, value_number}
use Rattle.kernel.proofs.Whole.{whole_is}
use Rattle.kernel.proofs.Owned.{fresh_sound}
use Rattle.book_guarantees.specs.Milliseconds.{TicksToMs}
use Rattle.book_guarantees.proofs.Milliseconds.{milliseconds_guarantee}
use Rattle.book_exam.specs.Milliseconds.{Case, cases, answer, given, MillisecondsExam}

-- an accepted fresh kernel with that hz
fits : ℕ → Bool
fits hz = eqb (init_number hz 4096) 0

fresh_is : (hz : ℕ) → fits hz ≡ true → TicksToMs (fresh_kernel hz 4096)
unfolding fits
fresh_is hz e = milliseconds_guarantee (fresh_kernel hz 4096) (whole_is _ (fresh_sound hz 4096 (eqb-true _ 0 e)).is)

-- what is computed in place of the search
quick : Case → Answer
quick c =
    let k = fresh_kernel c.hz 4096 in
    let q = 1000 * c.ticks / c.hz in
    if ltb 4294967295 q then refused 23 k otherwise accepted (Milliseconds q) k

quick_is : (c : Case) → fits c.hz ≡ true → answer c ≡ quick c
unfolding quick fresh_kernel
quick_is c e =
    either (λ (a : Answer). answer c ≡ a) (ltb 4294967295 (1000 * c.ticks / c.hz)) (λ h. (fresh_is c.hz e).passes c.ticks (ltb-true _ _ h))
    (λ h. (fresh_is c.hz e).answered c.ticks (ltb-false _ _ h))

quick_given : Case → List ℕ
quick_given c = (quick c).number ∷ value_number (quick c).value ∷ []

all_fit : List Case → Bool
all_fit [] = true
all_fit (c ∷ cs) = fits c.hz && all_fit cs

each : (cs : List Case) → all_fit cs ≡ true → map given cs ≡ map quick_given cs
unfolding quick_given all_fit
each [] e = refl
each (c ∷ cs) e = rw (quick_is c (and_left (fits c.hz) (all_fit cs) e), each cs (and_right (fits c.hz) (all_fit cs) e)) refl

pub milliseconds_exam : MillisecondsExam
unfolding fits all_fit quick quick_given init_number arena_fits fresh_kernel if◌then◌otherwise◌ value_number
milliseconds_exam = each cases refl ∙ refl
