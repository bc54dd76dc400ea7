-- What the book says of ranks, by the laws of crates/kernel/proofs/Rank.antt.
use Prim.Native.Nat.{ℕ, ◌≤◌, ◌<◌}
use native.Mathlib.Omega.{arith}
use mathlib.Core.Path.{◌≡◌, refl, sym, ap, subst, ◌∙◌}
use mathlib.Core.Bool.{Bool, true, false, ◌&&◌}
use mathlib.Core.List.{List}
use lib.Dec.{eqb, ltb}
use lib.ListN.{get_or}
use lib.Seq.{get_or-set_other}
use borrow.Author.Tests.{ltb-true, le-ltb, eqb-true, eqb-false}
use Rattle.base.specs.Choice.{if◌then◌otherwise◌}
use Rattle.base.specs.Below.{tabulate}
use Rattle.base.proofs.Choices.{and_right, either}
use Rattle.base.proofs.Loops.{any_false, lowest_none, smallest_at, smallest_is, tabulate_length, tabulate_at}
use Rattle.kernel.specs.declared.control.TaskId.{TaskId}
use Rattle.kernel.specs.Types.{Some}
use Rattle.kernel.specs.declared.control.TaskControl.{TaskControl}
use Rattle.kernel.specs.declared.control.TaskState.{TaskState}
use Rattle.kernel.specs.declared.control.TaskState.TheVariants.{Ready, Running, Blocked, Sleeping, Suspended, Terminated}
use Rattle.kernel.specs.declared.scheduler.Kernel.{Kernel}
use Rattle.kernel.specs.Update.{with_sp}
use Rattle.kernel.specs.Control.{state_number, in_state, entered, holds_task, blank_slot}
use Rattle.kernel.specs.WaitQueue.{contains}
use Rattle.kernel.specs.Kernel.{slot, current, current_task, slot_of, mutex, whole}
use Rattle.kernel.specs.Rank.{priority_of, owner_slot, queued_at, link, leads_to, rank}
use Rattle.kernel.specs.Scheduler.{pick, is_ready, next_task, context_saved, save_context}
use Rattle.kernel.specs.Calls.{start, switch, value, value_number, step, pick_bytes}
use Rattle.kernel.proofs.Pick.{pick_same, pick_none}
use Rattle.kernel.proofs.Whole.{Whole, is_whole}
use Rattle.kernel.proofs.Unlimited.{changed_here}
use Rattle.kernel.proofs.Rank.{leads_none, rank_le, rank_own, link_none, link_by, at_most_four, four_enough, rank_on, rank_saved}
use Rattle.book_guarantees.specs.Ranks.{WaitsAt, Best, state_byte, state_bytes, rank_bytes, switch_bytes, RankGuarantee}
use Rattle.book_guarantees.proofs.BestFirst.{pick_first}
use Rattle.book_guarantees.proofs.Wakings.{accepts, of_step}

link_is : (k : Kernel) (j m : ℕ) → m < 4 → WaitsAt k j m → link k j ≡ owner_slot k (mutex k m).owner
unfolding holds_task
link_is k j m h w = link_by k j m h (rw (w.present, w.blocked)) w.queued w.lowest

-- a task that is queued nowhere has none
link_unqueued : (k : Kernel) (j : ℕ) → ((m : ℕ) → m < 4 → contains (mutex k m).waiters (slot k j).id ≡ false) → link k j ≡ 16
unfolding link
link_unqueued k j f =
    either (λ n. n ≡ 16) (holds_task Blocked (slot k j) && ltb (queued_at k (slot k j).id) 4)
    (λ e. absurd (omega (arith, ltb-true (queued_at k (slot k j).id) 4 (and_right (holds_task Blocked (slot k j)) _ e), lowest_none (λ m. contains (mutex k m).waiters (slot k j).id) 4 f))) (λ _. refl)

to_owner : (k : Kernel) (j m : ℕ) (a : TaskId) → m < 4 → WaitsAt k j m → (mutex k m).owner ≡ Some a → link k j ≡ slot_of k a
to_owner k j m a h w o = link_is k j m h w ∙ rw o

-- ---- the exported pick

state_le : (s : TaskState) → state_number s ≤ 6
state_le Ready = omega arith
state_le Running = omega arith
state_le Blocked = omega arith
state_le Sleeping = omega arith
state_le Suspended = omega arith
state_le Terminated = omega arith

byte_le : (k : Kernel) (i : ℕ) → state_byte k i ≤ 6
byte_le k i = either (λ n. n ≤ 6) (slot k i).occupied (λ _. state_le (slot k i).state) (λ _. omega arith)

-- 6 is not Ready
occupied_ready : (b : Bool) (n : ℕ) → eqb (if b then n otherwise 6) 0 ≡ (b && eqb n 0)
unfolding if◌then◌otherwise◌
occupied_ready true n = refl
occupied_ready false n = refl

byte_ready : (k : Kernel) (i : ℕ) → eqb (state_byte k i) 0 ≡ is_ready k i
unfolding holds_task
byte_ready k i = occupied_ready (slot k i).occupied (state_number (slot k i).state)

-- on bytes that say who is Ready, and ranks
pick_bytes_lem : (states ranks ranks' : ℕ → ℕ) (ready : ℕ → Bool) (c : ℕ) → c < 16 → ((i : ℕ) → i < 16 → states i ≤ 6) → ((i : ℕ) → i < 16 → eqb (states i) 0 ≡ ready i) → ((i : ℕ) → ranks i ≡ ranks' i)
    → pick_bytes (tabulate states 16) (tabulate ranks 16) c ≡ pick ready ranks' c
unfolding pick_bytes if◌then◌otherwise◌
pick_bytes_lem states ranks ranks' ready c h few is same =
    let at : (i : ℕ) → i < 16 → get_or (tabulate states 16) i 0 ≡ states i = λ i l. tabulate_at states 0 16 i l in
    rw (tabulate_length states 16, tabulate_length ranks 16, any_false (λ i. ltb 6 (get_or (tabulate states 16) i 0)) 16 (λ i l. rw (at i l) (le-ltb 6 (states i) (few i l))), le-ltb 15 c (omega arith))
    (pick_same _ _ _ _ (λ i l. rw (at i l) (is i l)) (λ i l _. tabulate_at ranks 0 16 i l ∙ same i) c)

exported : (k : Kernel) → current k < 16 → pick_bytes (state_bytes k) (rank_bytes k) (current k) ≡ next_task k
exported k h = pick_bytes_lem (state_byte k) (rank k) (rank k) (is_ready k) (current k) h (λ i _. byte_le k i) (λ i _. byte_ready k i) (λ _. refl)

-- a Running current given as Ready is what switch makes of it
saved_ready : (sp : ℕ) (t : TaskControl) → t.occupied ≡ true → eqb (if in_state Running t then 0 otherwise if t.occupied then state_number t.state otherwise 6) 0 ≡ holds_task Ready (context_saved sp t)
unfolding context_saved holds_task if◌then◌otherwise◌
saved_ready sp t o = go (in_state Running t)
  where
    go : (b : Bool) → eqb (if b then 0 otherwise if t.occupied then state_number t.state otherwise 6) 0 ≡ holds_task Ready (if b then entered Ready (with_sp sp t) otherwise with_sp sp t)
    go true = sym (ap (λ (x : Bool). x && true) o)
    go false = occupied_ready t.occupied (state_number t.state)

switch_ready : (k : Kernel) → Whole k → (sp i : ℕ) → eqb (if eqb i (current k) && in_state Running (slot k i) then 0 otherwise state_byte k i) 0 ≡ is_ready (save_context sp k) i
unfolding if◌then◌otherwise◌
switch_ready k w sp i = go (eqb i (current k)) refl
  where
    go : (b : Bool) → eqb i (current k) ≡ b → eqb (if b && in_state Running (slot k i) then 0 otherwise state_byte k i) 0 ≡ is_ready (save_context sp k) i
    go true e = rw (eqb-true i (current k) e, changed_here k (current k) (context_saved sp) w.running) (saved_ready sp (current_task k) w.running)
    go false e = rw (get_or-set_other k.tasks (current k) i (context_saved sp (current_task k)) blank_slot (eqb-false i (current k) e)) (byte_ready k i)

exported_switch : (k : Kernel) → whole k ≡ true → (sp : ℕ) → pick_bytes (switch_bytes k) (rank_bytes k) (current k) ≡ next_task (save_context sp k)
exported_switch k h sp =
    let w = is_whole k h in
    pick_bytes_lem _ (rank k) (rank (save_context sp k)) (is_ready (save_context sp k)) (current k) w.current_slot (λ i _. either (λ n. n ≤ 6) (eqb i (current k) && in_state Running (slot k i)) (λ _. omega arith) (λ _. byte_le k i)) (λ i _. switch_ready k w sp i) (λ i. sym (rank_saved sp k i))

start_picks : (k : Kernel) → (step k start).number ≡ 0 → value_number (step k start).value ≡ next_task k
unfolding value value_number
start_picks k z = of_step (λ a. value_number a.value ≡ next_task k) k start (accepts k start z) refl

switch_picks : (k : Kernel) (arena : List ℕ) (sp : ℕ) → (step k (switch arena sp)).number ≡ 0 → value_number (step k (switch arena sp)).value ≡ next_task (save_context sp k)
unfolding value value_number
switch_picks k arena sp z = of_step (λ a. value_number a.value ≡ next_task (save_context sp k)) k (switch arena sp) (accepts k (switch arena sp) z) refl

-- ---- all of it

best : (k : Kernel) (i : ℕ) → i < 16 → is_ready k i ≡ true → Best k (next_task k)
best k i h e = let f = pick_first (is_ready k) (rank k) (current k) i h e in record { ready = f.is; smallest = f.smallest; n = f.n; place = f.here; first = f.first }

pub rank_guarantee : RankGuarantee
unfolding rank
rank_guarantee k = record {
  own = rank_le k;
  led = λ i j h e. smallest_at (leads_to (link k) i) (priority_of k) (priority_of k i) 16 j h e;
  one_of = λ i. smallest_is (leads_to (link k) i) (priority_of k) (priority_of k i) 16;
  blocked_only = λ i j e. leads_none (link k) i j (omega (arith, link_none k j e));
  queued_only = λ i j f. leads_none (link k) i j (omega (arith, link_unqueued k j f));
  nowhere = λ i j m h w e. leads_none (link k) i j (omega (arith, link_is k j m h w, e));
  owner = λ j m a h g w o p. subst (λ (s : ℕ). rank k s ≤ rank k j) (to_owner k j m a g w o) (rank_on k j h (rw (to_owner k j m a g w o) (ltb-true _ _ p)));
  four = λ n j. at_most_four k n (λ i. eqb i j) j;
  uncut = λ n j h. four_enough k n (λ i. eqb i j) j (omega arith) ∙ sym (four_enough k 16 (λ i. eqb i j) j (omega arith));
  alone = rank_own k;
  saved = λ sp i. rank_saved sp k i;
  best = best k;
  none_ready = λ f. sym (pick_none (is_ready k) (rank k) (current k) f);
  start_picks = start_picks k;
  switch_picks = switch_picks k;
  exported = exported k;
  exported_switch = exported_switch k;
}
