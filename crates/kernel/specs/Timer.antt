-- Milliseconds to ticks (timer.rs), and back (02, W-204).
use Rattle.std.specs.Prelude.{ℕ, ◌+◌, ◌*◌, ◌/◌, eqb, leb}
use Rattle.base.specs.Choice.{if◌then◌otherwise◌}
use Rattle.base.specs.Below.{largest_below}

-- 0 for 0, otherwise ms × hz / 1000 rounded up, and 1 where hz is 0
unfoldable pub ms_to_ticks : ℕ → ℕ → ℕ
ms_to_ticks ms hz =
    if eqb ms 0 then 0
    otherwise if eqb hz 0 then 1
    otherwise (ms * hz + 999) / 1000

-- the largest number of milliseconds whose tick count is at most t; none is above 1000 × t where hz is at least 1, as in every whole kernel
unfoldable pub ms_of_ticks : ℕ → ℕ → ℕ
ms_of_ticks t hz = largest_below (λ ms. leb (ms_to_ticks ms hz) t) (1000 * t + 1)
