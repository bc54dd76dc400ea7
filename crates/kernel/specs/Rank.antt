-- A Blocked task that is queued at a mutex passes its number on to the owner (02, W-205). Ranks are worked out from the kernel, and not kept in it.
use Rattle.std.specs.Prelude.{ℕ, zero, suc, Bool, false, ◌&&◌, ◌||◌, List, [], ◌∷◌, eqb, leb, ltb}
use Rattle.base.specs.Choice.{if◌then◌otherwise◌}
use Rattle.base.specs.Below.{all_below, lowest_below, smallest_below}
use Rattle.kernel.specs.Types.{TaskId, Option, None, Some, Blocked, Kernel}
use Rattle.kernel.specs.Control.{holds_task}
use Rattle.kernel.specs.WaitQueue.{contains, is_empty}
use Rattle.kernel.specs.Kernel.{slot, slot_of, mutex}

-- the own number of the task in slot i
abbrev pub priority_of : Kernel → ℕ → ℕ
priority_of k i = (slot k i).priority.0

-- ---- links

-- the slot of an owner; 16 where there is none, or where it is no present task
abbrev pub owner_slot : Kernel → Option TaskId → ℕ
owner_slot k None = 16
owner_slot k (Some a) = slot_of k a

-- the lowest mutex at which id a is queued; 4 where it is at none
abbrev pub queued_at : Kernel → TaskId → ℕ
queued_at k a = lowest_below (λ m. contains (mutex k m).waiters a) 4

-- "A link goes from a Blocked task queued at a mutex to that mutex's owner, and from the lowest such mutex if it is queued at several": the slot that the link from slot j
-- goes to; 16 where it goes to none. The owner may be in any state.
unfoldable pub link : Kernel → ℕ → ℕ
link k j =
    let m = queued_at k (slot k j).id in
    if holds_task Blocked (slot k j) && ltb m 4 then owner_slot k (mutex k m).owner otherwise 16

-- no mutex has a queue; then there are no links
unfoldable pub no_queues : Kernel → Bool
no_queues k = all_below (λ m. is_empty (mutex k m).waiters) 4

-- ---- chains

-- "Follow the chain from owner to owner, at most sixteen links, and end a ring where it meets itself": the slots that the chain from slot j leads to, in order, by at most n of the
-- links `to`; `met` are the slots that it has met.
unfoldable pub chain : (ℕ → ℕ) → ℕ → (ℕ → Bool) → ℕ → List ℕ
chain to zero met j = []
chain to (suc n) met j = if leb 16 (to j) || met (to j) then [] otherwise to j ∷ chain to n (λ i. met i || eqb i (to j)) (to j)

abbrev pub is_in : ℕ → List ℕ → Bool
is_in i [] = false
is_in i (x ∷ xs) = eqb x i || is_in i xs

-- a chain of at most sixteen links leads from slot j to slot i; at first it has met slot j
unfoldable pub leads_to : (ℕ → ℕ) → ℕ → ℕ → Bool
leads_to to i j = is_in i (chain to 16 (λ x. eqb x j) j)

-- ---- rank

-- "the smallest own number among itself and all present Blocked tasks from which a chain leads to it"; only a present Blocked task has a link
unfoldable pub rank : Kernel → ℕ → ℕ
rank k i = smallest_below (leads_to (link k) i) (priority_of k) (priority_of k i) 16
