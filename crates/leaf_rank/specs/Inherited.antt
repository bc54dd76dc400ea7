-- What the arrays stand for on the way to the ranks.
use Rattle.std.specs.Prelude.{ℕ, ◌<◌, min, ◌≡◌, Bool, false, List, ltb, length, get_or, Option, Some, None, IfSome, unwrap_or, option_and_then}
use Rattle.std.specs.List.{position}
use Rattle.base.specs.Choice.{if◌then◌otherwise◌}
use Rattle.base.specs.Below.{smallest_below}
use Rattle.kernel.specs.declared.control.TaskControl.{TaskControl}
use Rattle.kernel.specs.declared.control.TaskState.TheVariants.{Blocked}
use Rattle.kernel.specs.declared.mutex.Mutex.{Mutex}
use Rattle.kernel.specs.Control.{holds_task}
use Rattle.kernel.specs.WaitQueue.{contains}
use Rattle.kernel.specs.Rank.{chain, is_in, leads_to}

-- ---- links: the slots that they go to, and `link` of a kernel that has these mutexes, with the slots of their owners at hand, so that no kernel is handed on for each slot

-- 16 is no slot
abbrev pub some_slot : ℕ → Option ℕ
some_slot i = if ltb i 16 then Some i otherwise None

-- by the lowest mutex at which it is queued
unfoldable pub link_of : TaskControl → List Mutex → List (Option ℕ) → Option ℕ
link_of t ms owners = if holds_task Blocked t then option_and_then (λ m. get_or owners m None) (position (λ m. contains m.waiters t.id) ms) otherwise None

-- ---- chains

-- each goes to a slot, or to none
pub record Slots (xs : List (Option ℕ)) : Type 0 where
  pub slots : (j : ℕ) → IfSome (get_or xs j None) (λ i. i < 16)

-- f of each of so many places
pub record Each (size : ℕ) (f : ℕ → ℕ) (xs : List ℕ) : Type 0 where
  pub long : length xs ≡ size
  pub each : (i : ℕ) → i < size → get_or xs i 0 ≡ f i

-- 16 for none, as `link` has it
abbrev pub link_at : List (Option ℕ) → ℕ → ℕ
link_at links j = unwrap_or (get_or links j None) 16

-- the rank of slot i once a number was passed on along a chain of at most so many links from slot j, past the slots met
unfoldable pub inherited_by : List (Option ℕ) → List Bool → List ℕ → ℕ → ℕ → ℕ → ℕ → ℕ
inherited_by links met ranks number j left i =
    if is_in i (chain (link_at links) left (λ x. get_or met x false) j) then min (get_or ranks i 0) number
    otherwise get_or ranks i 0

-- the same of the whole chain
unfoldable pub inherited_from : List (Option ℕ) → List ℕ → ℕ → ℕ → ℕ → ℕ
inherited_from links ranks number j i = if leads_to (link_at links) i j then min (get_or ranks i 0) number otherwise get_or ranks i 0

-- the ranks once the numbers of the first n slots were passed on
pub record Inherited (links : List (Option ℕ)) (own ranks : List ℕ) (n : ℕ) : Type 0 where
  pub long : length ranks ≡ 16
  pub each : (i : ℕ) → i < 16 → get_or ranks i 0 ≡ smallest_below (leads_to (link_at links) i) (λ j. get_or own j 0) (get_or own i 0) n
