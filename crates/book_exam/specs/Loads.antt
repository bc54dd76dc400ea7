-- Load per thousand (02, W-207): a table of cases in the manner of the exam's, up to charges whose thousandfold no
-- 64 bits hold; and of kernels that no list from fresh gets to.
use Rattle.std.specs.Prelude.{ℕ, ◌-◌, ◌^◌, ◌≡◌, List, [], ◌∷◌, map, replicate}
use Rattle.kernel.specs.declared.control.TaskState.TheVariants.{Ready, Running}
use Rattle.kernel.specs.declared.scheduler.Kernel.{Kernel}
use Rattle.kernel.specs.declared.scheduler.Value.{Value}
use Rattle.kernel.specs.declared.scheduler.Value.TheVariants.{Load}
use Rattle.kernel.specs.Update.{with_charges, with_tick_count}
use Rattle.kernel.specs.Calls.{load, step}
use Rattle.book_exam.specs.Charges.{charged}
use Rattle.book_exam.specs.Odd.{id, twice}

-- of so many ticks since the start idle was charged with some: its share and the remainder
pub record Case : Type 0 where
  pub charge : ℕ
  pub ticks : ℕ
  pub share : ℕ
  pub remainder : ℕ

abbrev asked : ℕ → ℕ → ℕ → ℕ → Case
asked charge ticks share remainder =
    record { charge = charge; ticks = ticks; share = share; remainder = remainder }

-- charge 0, 1, ticks - 1 and ticks
abbrev pub cases : List Case
cases =
    asked 0 1 0 0 ∷ asked 1 1 1000 0
    ∷ asked 0 2 0 0 ∷ asked 1 2 500 0 ∷ asked 2 2 1000 0
    ∷ asked 0 3 0 0 ∷ asked 1 3 333 1 ∷ asked 2 3 666 2 ∷ asked 3 3 1000 0
    ∷ asked 0 999 0 0 ∷ asked 1 999 1 1 ∷ asked 998 999 998 998 ∷ asked 999 999 1000 0
    ∷ asked 0 1000 0 0 ∷ asked 1 1000 1 0 ∷ asked 999 1000 999 0 ∷ asked 1000 1000 1000 0
    ∷ asked 0 1001 0 0 ∷ asked 1 1001 0 1000 ∷ asked 1000 1001 999 1 ∷ asked 1001 1001 1000 0
    ∷ asked 0 (2 ^ 63) 0 0 ∷ asked 1 (2 ^ 63) 0 1000
    ∷ asked (2 ^ 63 - 1) (2 ^ 63) 999 (2 ^ 63 - 1000) ∷ asked (2 ^ 63) (2 ^ 63) 1000 0
    ∷ asked 0 (2 ^ 64 - 1) 0 0 ∷ asked 1 (2 ^ 64 - 1) 0 1000
    ∷ asked (2 ^ 64 - 2) (2 ^ 64 - 1) 999 (2 ^ 64 - 1001) ∷ asked (2 ^ 64 - 1) (2 ^ 64 - 1) 1000 0
    ∷ []

-- fresh but for the ticks, so not started; those that idle was not charged with are the retired sum
unfoldable pub after : Case → Kernel
after c = charged c.ticks (c.charge ∷ []) (c.ticks - c.charge)

-- the value of a load
abbrev pub loaded : Kernel → ℕ → Value
loaded k a = (step k (load (id a))).value

abbrev pub given : Case → Value
given c = loaded (after c) 0

abbrev pub wanted : Case → Value
wanted c = Load c.share c.remainder

abbrev pub LoadExam : Type 0
LoadExam = map given cases ≡ map wanted cases

-- id 5 is in slots 1 and 2, and these have one tick and two of three
unfoldable pub in_two_slots : Kernel
in_two_slots = with_tick_count 3 (with_charges (0 ∷ 1 ∷ 2 ∷ replicate 13 0) (twice Ready Ready 128 Running 3))

-- 05, 45: the lower slot of two. 05, 46: an empty slot's charge, here two of three ticks, counts among the ticks
abbrev pub LoadOdd : Type 0
LoadOdd = (loaded in_two_slots 5 ≡ Load 333 1) × (loaded (charged 3 (1 ∷ 2 ∷ []) 0) 0 ≡ Load 333 1)
