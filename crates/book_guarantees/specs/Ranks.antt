-- What the book says of ranks (02, W-205), of every kernel.
use Rattle.std.specs.Prelude.{ℕ, ◌≤◌, ◌<◌, ◌≡◌, true, false, ◌&&◌, ◌⊎◌, List, eqb, length}
use Rattle.base.specs.Choice.{if◌then◌otherwise◌}
use Rattle.base.specs.Below.{tabulate}
use Rattle.kernel.specs.declared.control.TaskId.{TaskId}
use Rattle.kernel.specs.Types.{Some}
use Rattle.kernel.specs.declared.control.TaskState.TheVariants.{Running, Blocked}
use Rattle.kernel.specs.declared.scheduler.Kernel.{Kernel}
use Rattle.kernel.specs.Control.{state_number, holds_task, in_state}
use Rattle.kernel.specs.WaitQueue.{contains}
use Rattle.kernel.specs.Kernel.{slot, current, slot_of, is_present, mutex, whole}
use Rattle.kernel.specs.Rank.{priority_of, owner_slot, link, no_queues, chain, leads_to, rank}
use Rattle.kernel.specs.Scheduler.{slot_after, is_ready, next_task, save_context}
use Rattle.kernel.specs.Calls.{start, switch, step, value_number, pick_bytes}

-- the task of slot j is Blocked, and of the mutexes at which it is queued m is the lowest
pub record WaitsAt (k : Kernel) (j m : ℕ) : Type 0 where
  pub present : (slot k j).occupied ≡ true
  pub blocked : (slot k j).state ≡ Blocked
  pub queued : contains (mutex k m).waiters (slot k j).id ≡ true
  pub lowest : (n : ℕ) → n < m → contains (mutex k n).waiters (slot k j).id ≡ false

-- ---- the pick

-- slot s is Ready, no Ready slot has a smaller rank, and of those with that rank it is the first after current
pub record Best (k : Kernel) (s : ℕ) : Type 0 where
  pub ready : is_ready k s ≡ true
  pub smallest : (j : ℕ) → j < 16 → is_ready k j ≡ true → rank k s ≤ rank k j
  -- it is n slots on from the one after current; n is below 16, since the seventeenth is the first again
  pub n : ℕ
  pub place : slot_after (current k) n ≡ s
  pub first : (m : ℕ) → m < n → is_ready k (slot_after (current k) m) ≡ true → rank k s < rank k (slot_after (current k) m)

-- what the exported pick is lent for kernel k: the states, 6 for an empty slot, and the ranks
abbrev pub state_byte : Kernel → ℕ → ℕ
state_byte k i = if (slot k i).occupied then state_number (slot k i).state otherwise 6

abbrev pub state_bytes : Kernel → List ℕ
state_bytes k = tabulate (state_byte k) 16

abbrev pub rank_bytes : Kernel → List ℕ
rank_bytes k = tabulate (rank k) 16

-- for a switch, current's Running is given as Ready
abbrev pub switch_bytes : Kernel → List ℕ
switch_bytes k = tabulate (λ i. if eqb i (current k) && in_state Running (slot k i) then 0 otherwise state_byte k i) 16

-- ---- what is said

pub record Ranks (k : Kernel) : Type 0 where
  -- a task's rank is never above its own number, nor above that of a task from which a chain leads to it; and it is one of these numbers
  pub own : (i : ℕ) → rank k i ≤ priority_of k i
  pub led : (i j : ℕ) → j < 16 → leads_to (link k) i j ≡ true → rank k i ≤ priority_of k j
  pub one_of : (i : ℕ) → (rank k i ≡ priority_of k i) ⊎ ((j : ℕ) × (j < 16) × (leads_to (link k) i j ≡ true) × (rank k i ≡ priority_of k j))
  -- a link goes only from a Blocked task, only if it is queued, and by the lowest mutex even where its owner is no
  -- present task: it then leads nowhere
  pub blocked_only : (i j : ℕ) → holds_task Blocked (slot k j) ≡ false → leads_to (link k) i j ≡ false
  pub queued_only : (i j : ℕ) → ((m : ℕ) → m < 4 → contains (mutex k m).waiters (slot k j).id ≡ false)
      → leads_to (link k) i j ≡ false
  pub nowhere : (i j m : ℕ) → m < 4 → WaitsAt k j m → owner_slot k (mutex k m).owner ≡ 16 → leads_to (link k) i j ≡ false
  -- the owner of a mutex at which a Blocked task waits by its lowest one has a rank at most that task's
  pub owner : (j m : ℕ) (a : TaskId) → j < 16 → m < 4 → WaitsAt k j m → (mutex k m).owner ≡ Some a → is_present k a ≡ true → rank k (slot_of k a) ≤ rank k j
  -- with four mutexes a chain has at most four links, so sixteen never cuts one short: as many as one likes make no other chain
  pub four : (n j : ℕ) → length (chain (link k) n (λ i. eqb i j) j) ≤ 4
  pub uncut : (n j : ℕ) → 16 ≤ n → chain (link k) n (λ i. eqb i j) j ≡ chain (link k) 16 (λ i. eqb i j) j
  -- where no mutex has a queue, it is the own number
  pub alone : no_queues k ≡ true → (i : ℕ) → rank k i ≡ priority_of k i
  -- switch's own change of Running into Ready alters no rank
  pub saved : (sp i : ℕ) → rank (save_context sp k) i ≡ rank k i
  -- "the pick goes by rank"; none Ready, slot 0
  pub best : (i : ℕ) → i < 16 → is_ready k i ≡ true → Best k (next_task k)
  pub none_ready : ((i : ℕ) → i < 16 → is_ready k i ≡ false) → next_task k ≡ 0
  -- it is what start answers, and what switch answers once current is saved
  pub start_picks : (step k start).number ≡ 0 → value_number (step k start).value ≡ next_task k
  pub switch_picks : (arena : List ℕ) (sp : ℕ) → (step k (switch arena sp)).number ≡ 0
      → value_number (step k (switch arena sp)).value ≡ next_task (save_context sp k)
  -- the exported pick, lent the ranks for priorities, is that pick
  pub exported : current k < 16 → pick_bytes (state_bytes k) (rank_bytes k) (current k) ≡ next_task k
  pub exported_switch : whole k ≡ true → (sp : ℕ)
      → pick_bytes (switch_bytes k) (rank_bytes k) (current k) ≡ next_task (save_context sp k)

abbrev pub RankGuarantee : Type 0
RankGuarantee = (k : Kernel) → Ranks k
