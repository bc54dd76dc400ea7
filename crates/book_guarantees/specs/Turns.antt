-- The book's third sentence, clause by clause, in the request's words and 01's, by rank and of the task's own charge as 02 has it (W-205, W-206); and by priority number, as the request has it, where no mutex has a queue.
use Rattle.std.specs.Prelude.{◌≡◌, true, List, [], ◌∷◌, ◌++◌, ◌⊎◌, ◌≢◌, ℕ, ◌+◌, ◌-◌, ◌≤◌, eqb}
use Rattle.base.specs.Choice.{if◌then◌otherwise◌}
use Rattle.base.specs.Below.{sum_below}
use Rattle.kernel.specs.declared.control.TaskId.{TaskId}
use Rattle.kernel.specs.declared.control.TaskState.TheVariants.{Ready, Running}
use Rattle.kernel.specs.declared.scheduler.Kernel.{Kernel}
use Rattle.kernel.specs.Kernel.{slot, charge}
use Rattle.kernel.specs.Rank.{priority_of, no_queues, rank}
use Rattle.kernel.specs.Calls.{init, init_number, Reached}
use Rattle.book_guarantees.specs.Lists.{Entry, after, Each, EachNext, Returned, end, turn, tick, outcome, AcceptedSwitch, turns, ticks_while}

-- ---- the words of the sentence; `one` is the call that gives the first turn, `between` the calls after it and before the second

-- slot j holds the task of id a, Ready or Running
pub record Holds (j : ℕ) (a : TaskId) (k : Kernel) : Type 0 where
  pub present : (slot k j).occupied ≡ true
  pub named : (slot k j).id ≡ a
  pub state : ((slot k j).state ≡ Ready) ⊎ ((slot k j).state ≡ Running)

-- "A task stays Ready or Running if it is so, under one id, after the first turn and after each call between"
abbrev pub Stays : ℕ → TaskId → Entry → List Entry → Type 0
Stays j a one between = Each (λ e. Holds j a (after e)) (one ∷ between)

-- "a rise is what those calls add to a charge"; that they take nothing from it is part of `Rises`
abbrev pub rise : ℕ → Entry → List Entry → ℕ
rise j one between = charge (end (after one) between) j - charge (after one) j

-- `number k j` is what slot j's task goes by in kernel k, smaller is better: its rank, or its priority number.
module _ (number : Kernel → ℕ → ℕ) where
  -- "Let a task stay Ready or Running between two neighbouring turns of its own. Let no task with a smaller priority number have a turn between, and let
  -- each tick between that wants a switch be followed next by an accepted switch": task a of slot i, from turn `one` to turn `two`. A picked
  -- task's number is read after its turn, the first task's after the first turn.
  pub record Stretch (i : ℕ) (a : TaskId) (one : Entry) (between : List Entry) (two : Entry) : Type 0 where
    pub first_turn : outcome one ≡ turn i
    pub second_turn : outcome two ≡ turn i
    pub neighbouring : Each (λ e. outcome e ≢ turn i) between
    pub stays : Stays i a one between
    pub none_smaller : Each (λ e. (s : ℕ) → outcome e ≡ turn s → number (after one) i ≤ number (after e) s) between
    pub followed : EachNext (λ e f. outcome e ≡ tick true → AcceptedSwitch f) (between ++ two ∷ [])

  -- "every other task of equal priority that stayed Ready or Running too": task b of slot j, its number read after the first turn
  pub record Peer (i : ℕ) (one : Entry) (between : List Entry) (j : ℕ) (b : TaskId) : Type 0 where
    pub another : j ≢ i
    pub equal : number (after one) j ≡ number (after one) i
    pub stayed : Stays j b one between

  -- "unchanging .. from one turn to the next": slot j's number is the same after the first turn and after each call between
  abbrev pub Unchanging : ℕ → Entry → List Entry → Type 0
  Unchanging j one between = Each (λ e. number (after e) j ≡ number (after one) j) between

-- "The bound of 5 reads the task's own charge" (02, W-206): that of slot j, in which the task stays. It rises by just the accepted ticks made while the task was current, and these are at most 5.
pub record Rises (j : ℕ) (one : Entry) (between : List Entry) : Type 0 where
  pub five : rise j one between ≤ 5
  pub by_ticks : charge (end (after one) between) j ≡ charge (after one) j + ticks_while j (after one) between

-- "accepted ticks while others were current" (02, W-206): while any slot but i was, added up over the slots
abbrev pub ticks_while_others : ℕ → Entry → List Entry → ℕ
ticks_while_others i one between = sum_below (λ j. if eqb j i then 0 otherwise ticks_while j (after one) between) 16

-- "has exactly one turn between", and its charge "rises by at most 5. In every such stretch the charge" of the first task "also rises by at most 5"; "and the
-- bound of 75 counts accepted ticks while others were current" (02, W-206). `Peers j b` says that task b of slot j is a peer.
-- Idle's slice is 1: so where the first task is not idle, whose slot is 0, these ticks are at most 71.
pub record Fair (Peers : ℕ → TaskId → Type 0) (i : ℕ) (one : Entry) (between : List Entry) : Type 0 where
  pub one_turn : (j : ℕ) (b : TaskId) → Peers j b → turns j between ≡ 1
  pub peers : (j : ℕ) (b : TaskId) → Peers j b → Rises j one between
  pub own : Rises i one between
  pub others : ticks_while_others i one between ≤ 75
  pub not_idle : i ≢ 0 → ticks_while_others i one between ≤ 71

-- ---- the sentence

-- "every list of kernel calls from a fresh kernel, refused ones included, whatever words the arena holds at each call", and every two calls of it
abbrev pub InEveryList : (Entry → List Entry → Entry → Type 0) → Type 0
InEveryList P =
    (hz words : ℕ) → init_number hz words ≡ 0
    → (before between rest : List Entry) (one two : Entry) → Returned (init hz words).kernel (before ++ one ∷ (between ++ two ∷ rest))
    → P one between two

-- "Tasks with equal, unchanging rank from one turn to the next are those whom the fairness sentence covers, and a smaller rank takes the place of a smaller number" (02, W-205)
abbrev pub TurnGuarantee : Type 0
TurnGuarantee = InEveryList (λ one between two. (i : ℕ) (a : TaskId) → Stretch rank i a one between two → Unchanging rank i one between
    → Fair (λ j b. Peer rank i one between j b × Unchanging rank j one between) i one between)

-- Where no mutex has a queue after the first turn and after each call between, the sentence is by priority number, as the request has it: a task keeps its number.
abbrev pub TurnGuaranteeByPriority : Type 0
TurnGuaranteeByPriority = InEveryList (λ one between two. Each (λ e. no_queues (after e) ≡ true) (one ∷ between)
    → (i : ℕ) (a : TaskId) → Stretch priority_of i a one between two → Fair (Peer priority_of i one between) i one between)

-- ---- idle, on which the 71 rests: after every list of calls from fresh it is in slot 0, with a slice of 1

pub record Idle (k : Kernel) : Type 0 where
  pub present : (slot k 0).occupied ≡ true
  pub named : (slot k 0).id.0 ≡ 0
  pub slice : (slot k 0).time_slice ≡ 1

abbrev pub IdleGuarantee : Type 0
IdleGuarantee = (k : Kernel) → Reached k → Idle k
