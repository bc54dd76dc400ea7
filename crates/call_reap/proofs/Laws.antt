-- What the check and the search of a reap tell: a whole kernel has a task to count, and its charges and the retired sum fit together; what a look-up makes of a check; the lowest slot found.
use Prim.Native.Nat.{ℕ, ◌≤◌, ◌<◌, zero-le}
use mathlib.Core.Path.{◌≡◌, sym}
use mathlib.Core.Bool.{Bool, true, false, not, ◌&&◌}
use native.Mathlib.Omega.{arith}
use lib.Dec.{lit<, eqb, leb}
use Rattle.std.specs.declared.option.Option.{Option}
use Rattle.std.specs.declared.option.Option.TheVariants.{Some, None}
use Rattle.std.specs.Option.{MatchOption, unwrap_or}
use Rattle.base.specs.Below.{lowest_below}
use Rattle.base.proofs.Loops.{count_some, lowest_none, lowest_only}
use Rattle.kernel.specs.declared.control.TaskState.TheVariants.{Terminated}
use Rattle.kernel.specs.declared.scheduler.Kernel.{Kernel}
use Rattle.kernel.specs.Control.{holds_task}
use Rattle.kernel.specs.Kernel.{slot, current, charge_sum, is_occupied, whole}
use Rattle.kernel.proofs.Whole.{is_whole}

-- idle is a task
pub can_reap : (k : Kernel) → whole k ≡ true → (1 ≤ k.task_count) × (charge_sum k ≤ k.tick_count)
can_reap k e =
    let w = is_whole k e in
    (omega (arith, w.count, count_some (is_occupied k) 16 0 (lit< tt) w.idle), w.charges)

-- what the search for a slot asks of each
abbrev pub can_be_reaped : Kernel → ℕ → Bool
can_be_reaped k i = leb 1 i && not (eqb i (current k)) && holds_task Terminated (slot k i)

-- what `find` over the numbers below n says, by the lowest of them
pub lowest_found : (p : ℕ → Bool) (n : ℕ) (r : Option ℕ) → MatchOption r ((i : ℕ) → 0 ≤ i → i < n → p i ≡ false) (λ i. (0 ≤ i) × (i < n) × (p i ≡ true) × ((j : ℕ) → 0 ≤ j → j < i → p j ≡ false)) → unwrap_or r n ≡ lowest_below p n
lowest_found p n None f = sym (lowest_none p n (λ i h. f i zero-le h))
lowest_found p n (Some i) f = sym (lowest_only p n i f.1 f.2 (λ j h. f.3 j zero-le h))
