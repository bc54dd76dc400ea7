-- What the book says of load per thousand (02, W-207): after every list of calls from fresh.
use Rattle.std.specs.Prelude.{ℕ, ◌+◌, ◌*◌, ◌≤◌, ◌<◌, ◌≡◌, true, false, List, ◌≢◌}
use Rattle.base.specs.Choice.{if◌then◌otherwise◌}
use Rattle.base.specs.Below.{sum_below}
use Rattle.kernel.specs.declared.control.TaskId.{TaskId}
use Rattle.kernel.specs.declared.scheduler.Kernel.{Kernel}
use Rattle.kernel.specs.declared.scheduler.Value.TheVariants.{Load}
use Rattle.kernel.specs.declared.scheduler.Answer.{Answer}
use Rattle.kernel.specs.Kernel.{slot, charge, charge_sum, is_occupied, is_present}
use Rattle.kernel.specs.Load.{IsLoad, load_share, load_remainder}
use Rattle.kernel.specs.Calls.{load, accepted, refused, step, init, init_number}
use Rattle.book_guarantees.specs.Lists.{Entry, Returned, end, ticks_after_start}
use Rattle.book_guarantees.specs.Charges.{occupied_charges}

-- of the task in slot i, of so many ticks since the start: as the definition finds them
abbrev pub share : Kernel → ℕ → ℕ → ℕ
share k ticks i = load_share (charge k i) ticks

abbrev pub remainder : Kernel → ℕ → ℕ → ℕ
remainder k ticks i = load_remainder (charge k i) ticks

-- the task in slot i is present
abbrev pub Present : Kernel → ℕ → Type 0
Present k i = (slot k i).occupied ≡ true

-- what is answered for its id
abbrev pub asked : Kernel → ℕ → Answer
asked k i = step k (load (slot k i).id)

-- f of each present task, added up
abbrev pub of_present : Kernel → (ℕ → ℕ) → ℕ
of_present k f = sum_below (λ i. if is_occupied k i then f i otherwise 0) 16

-- no task but that of slot i was charged, the reaped ones included
pub record Alone (k : Kernel) (i : ℕ) : Type 0 where
  pub others : (j : ℕ) → j ≢ i → charge k j ≡ 0
  pub reaped : k.retired_charge ≡ 0

-- where there was a tick since the start
pub record Loads (k : Kernel) (ticks : ℕ) : Type 0 where
  -- the answer for each present task; the kernel is as it was
  pub answered : (i : ℕ) → Present k i → asked k i ≡ accepted (Load (share k ticks i) (remainder k ticks i)) k
  -- "1000 × charge = share × ticks + remainder, remainder below ticks": these meet it, and no others do
  pub meets : (i : ℕ) → Present k i → IsLoad (charge k i) ticks (share k ticks i) (remainder k ticks i)
  pub no_others : (i s r : ℕ) → Present k i → IsLoad (charge k i) ticks s r
      → (s ≡ share k ticks i) × (r ≡ remainder k ticks i)
  -- "The shares of all present tasks together are at most 1000"
  pub at_most : of_present k (share k ticks) ≤ 1000
  -- "A present task that alone was charged, reaped ones counted, has 1000 and remainder 0"
  pub alone : (i : ℕ) → Present k i → Alone k i → (share k ticks i ≡ 1000) × (remainder k ticks i ≡ 0)
  -- "With their remainders the shares account for all ticks of the present tasks, and with the retired sum for all
  -- ticks": nothing is dropped
  pub accounts : 1000 * occupied_charges k ≡ of_present k (λ i. share k ticks i * ticks + remainder k ticks i)
  pub nothing_dropped : 1000 * ticks
      ≡ of_present k (λ i. share k ticks i * ticks + remainder k ticks i) + 1000 * k.retired_charge

-- of kernel k, where so many ticks were accepted after the start
pub record LoadCalls (k : Kernel) (ticks : ℕ) : Type 0 where
  -- "the ticks since start, which are all charges and the retired sum together"
  pub together : charge_sum k ≡ ticks
  -- "24, no tick since the start, checked after 8 for an unknown id"
  pub unknown : (a : TaskId) → is_present k a ≡ false → step k (load a) ≡ refused 8 k
  pub no_tick : ticks ≡ 0 → (i : ℕ) → Present k i → asked k i ≡ refused 24 k
  pub ticked : 0 < ticks → Loads k ticks

abbrev pub LoadGuarantee : Type 0
LoadGuarantee =
    (hz words : ℕ) → init_number hz words ≡ 0
    → (list : List Entry) → Returned (init hz words).kernel list
    → LoadCalls (end (init hz words).kernel list) (ticks_after_start list)
