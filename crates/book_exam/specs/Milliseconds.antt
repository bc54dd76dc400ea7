-- Milliseconds back from ticks (02, W-204): a table of cases in the manner of the exam's, with ticks among them that no line of `tables` writes.
use Rattle.std.specs.Prelude.{ℕ, ◌-◌, ◌^◌, ◌≡◌, List, [], ◌∷◌, map}
use Rattle.kernel.specs.declared.scheduler.Answer.{Answer}
use Rattle.kernel.specs.Kernel.{fresh_kernel}
use Rattle.kernel.specs.Calls.{ticks_to_ms, step, value_number}

-- a fresh kernel with that hz is asked for so many ticks: the number, and the milliseconds
pub record Case : Type 0 where
  pub hz : ℕ
  pub ticks : ℕ
  pub number : ℕ
  pub ms : ℕ

abbrev asked : ℕ → ℕ → ℕ → Case
asked hz ticks ms = record { hz = hz; ticks = ticks; number = 0; ms = ms }

abbrev passes : ℕ → ℕ → Case
passes hz ticks = record { hz = hz; ticks = ticks; number = 23; ms = 0 }

abbrev pub cases : List Case
cases =
    asked 1 0 0 ∷ asked 1 1 1000 ∷ asked 1 4294967 4294967000 ∷ passes 1 4294968
    ∷ asked 100 0 0 ∷ asked 100 1 10 ∷ asked 100 429496729 4294967290 ∷ passes 100 429496730
    ∷ asked 999 0 0 ∷ asked 999 1 1 ∷ asked 999 998 998 ∷ asked 999 999 1000 ∷ asked 999 4290672328 4294967295 ∷ passes 999 4290672329
    ∷ asked 1000 0 0 ∷ asked 1000 7 7 ∷ asked 1000 4294967295 4294967295 ∷ passes 1000 4294967296
    -- above 1000 hz one tick is 0 ms
    ∷ asked 1001 0 0 ∷ asked 1001 1 0 ∷ asked 1001 2 1 ∷ asked 1001 1001 1000 ∷ asked 1001 4299262263 4294967295 ∷ passes 1001 4299262264
    ∷ asked 4294967295 0 0 ∷ asked 4294967295 4294967 0 ∷ asked 4294967295 4294968 1 ∷ asked 4294967295 18446744069414584 4294967295 ∷ passes 4294967295 18446744069414585
    -- the last product that fits 64 bits, the first that does not, which is 384 more than 2^64, and the most ticks
    ∷ passes 4294967295 18446744073709551 ∷ passes 4294967295 18446744073709552 ∷ passes 1001 18446744073709552 ∷ passes 1000 18446744073709552 ∷ passes 999 18446744073709552 ∷ passes 100 18446744073709552 ∷ passes 1 18446744073709552
    ∷ passes 1 (2 ^ 64 - 1) ∷ passes 1000 (2 ^ 64 - 1) ∷ passes 4294967295 (2 ^ 64 - 1)
    ∷ []

abbrev pub answer : Case → Answer
answer c = step (fresh_kernel c.hz 4096) (ticks_to_ms c.ticks)

abbrev pub given : Case → List ℕ
given c = (answer c).number ∷ value_number (answer c).value ∷ []

abbrev pub wanted : Case → List ℕ
wanted c = c.number ∷ c.ms ∷ []

abbrev pub MillisecondsExam : Type 0
MillisecondsExam = map given cases ≡ map wanted cases
