-- A kernel as the pick by rank searches it: each task's rank stands for its own number.
use Rattle.std.specs.Prelude.{ℕ, ◌<◌, ◌≡◌, length}
use Rattle.kernel.specs.declared.scheduler.Kernel.{Kernel}
use Rattle.kernel.specs.Kernel.{current}
use Rattle.kernel.specs.Rank.{priority_of, rank}
use Rattle.kernel.specs.Scheduler.{is_ready}

-- k' has k's current and k's Ready slots, and the numbers of its first n slots are their ranks in k
pub record Ranked (k k' : Kernel) (n : ℕ) : Type 0 where
  pub slots : length k'.tasks ≡ 16
  pub same_current : current k' ≡ current k
  pub ready : (i : ℕ) → is_ready k' i ≡ is_ready k i
  pub number : (i : ℕ) → i < n → priority_of k' i ≡ rank k i
