-- Computed lists that meet the premises of the load guarantee (02, W-207): no tick since the start, a task that alone
-- was charged, and shares that do not add up to 1000.
use Rattle.std.specs.Prelude.{◌≡◌, List, [], ◌∷◌, map, ℕ}
use Rattle.kernel.specs.declared.scheduler.Kernel.{Kernel}
use Rattle.kernel.specs.declared.scheduler.Value.TheVariants.{Load}
use Rattle.kernel.specs.Kernel.{charge}
use Rattle.kernel.specs.Calls.{Call, start, tick, accepted, refused, init, init_number}
use Rattle.book_guarantees.specs.Lists.{Returned, end, ticks_after_start}
use Rattle.book_guarantees.specs.Loads.{share, Present, asked, of_present, Alone}
use Rattle.book_examples.specs.Examples.{played, task, leave}

abbrev pub final : List Call → Kernel
final cs = end (init 1000 2112).kernel (played cs)

-- the premises: an accepted fresh, what the calls returned, and so many ticks
pub record Played (cs : List Call) (ticks : ℕ) : Type 0 where
  pub fresh : init_number 1000 2112 ≡ 0
  pub returned : Returned (init 1000 2112).kernel (played cs)
  pub counted : ticks_after_start (played cs) ≡ ticks

-- a tick before the start
unfoldable pub no_tick_calls : List Call
no_tick_calls = task 1 128 ∷ tick ∷ start ∷ []

pub record NoTick : Type 0 where
  pub premises : Played no_tick_calls 0
  pub present : Present (final no_tick_calls) 1
  pub is_24 : asked (final no_tick_calls) 1 ≡ refused 24 (final no_tick_calls)

-- two tasks, and the first has both ticks
unfoldable pub alone_calls : List Call
alone_calls = task 1 128 ∷ task 2 128 ∷ start ∷ tick ∷ tick ∷ []

pub record AloneCharged : Type 0 where
  pub premises : Played alone_calls 2
  pub present : Present (final alone_calls) 1
  pub alone : Alone (final alone_calls) 1
  pub is_1000 : asked (final alone_calls) 1 ≡ accepted (Load 1000 0) (final alone_calls)

-- of three ticks the first has two, the second one
unfoldable pub thirds_calls : List Call
thirds_calls = task 1 128 ∷ task 2 128 ∷ start ∷ tick ∷ tick ∷ leave 1 ∷ tick ∷ []

pub record Thirds : Type 0 where
  pub premises : Played thirds_calls 3
  pub present : Present (final thirds_calls) 0 × Present (final thirds_calls) 1 × Present (final thirds_calls) 2
  pub charges : map (charge (final thirds_calls)) (0 ∷ 1 ∷ 2 ∷ []) ≡ 0 ∷ 2 ∷ 1 ∷ []
  pub of_0 : asked (final thirds_calls) 0 ≡ accepted (Load 0 0) (final thirds_calls)
  pub of_1 : asked (final thirds_calls) 1 ≡ accepted (Load 666 2) (final thirds_calls)
  pub of_2 : asked (final thirds_calls) 2 ≡ accepted (Load 333 1) (final thirds_calls)
  pub not_1000 : of_present (final thirds_calls) (share (final thirds_calls) 3) ≡ 999
