-- What holds of every kernel from fresh, and what an accepted call does in the terms of `Fairness`: a tick is `Tick`, a switch is `Turn`, by rank,
-- any other call of a started kernel is `Other`; and a tick of a started kernel adds one to current's charge, and so to the sum of all.
use mathlib.Core.Path.{◌≡◌, refl, sym, ap, ◌∙◌}
use mathlib.Core.Bool.{Bool, true, false, not, ◌&&◌, ◌||◌}
use mathlib.Core.List.{List}
use mathlib.Core.Logic.{inl, inr}
use Prim.Native.Nat.{ℕ, zero, suc, ◌+◌, ◌-◌, max, ◌≤◌, ◌<◌}
use native.Mathlib.Decide.{ℕ_discrete}
use native.Mathlib.Nat.{le_refl}
use native.Mathlib.Omega.{arith}
use lib.Dec.{eqb}
use lib.ListN.{get_or, set, length}
use lib.Seq.{get_or-set_same, get_or-set_other}
use borrow.Author.Tests.{eqb-true, eqb-false}
use Rattle.base.specs.Choice.{if◌then◌otherwise◌}
use Rattle.base.specs.Below.{any_below, sum_below}
use Rattle.base.proofs.Choices.{and_right, either, taken, left}
use Rattle.base.proofs.Loops.{set_each, sum_but}
use Rattle.kernel.specs.declared.control.TaskControl.{TaskControl}
use Rattle.kernel.specs.declared.control.TaskState.TheVariants.{Ready, Running}
use Rattle.kernel.specs.declared.scheduler.Kernel.{Kernel}
use Rattle.kernel.specs.Update.{with_remaining}
use Rattle.kernel.specs.Control.{state_number, holds_task, has_limit, entered, blank_slot, new_task}
use Rattle.kernel.specs.Kernel.{slot, charge, charge_sum, at, current, current_task, fresh_kernel}
use Rattle.kernel.specs.Rank.{rank}
use Rattle.kernel.specs.Scheduler.{is_ready, next_task, next_id, lowest_empty, is_due, is_limit_due, woken, spent, clocked, advanced, current_runs, sliced, wants, wants_switch, context_saved, reloaded, save_context}
use Rattle.kernel.specs.Scheduler
use Rattle.kernel.specs.Calls.{Kind, plain, ticking, init_number}
use Rattle.kernel.proofs.Pick.{pick_lt}
use Rattle.kernel.proofs.Rank.{rank_saved, rank_dispatched}
use Rattle.kernel.proofs.Unlimited.{woken_ahead}
use Rattle.kernel.proofs.Walk.{walked_beside, walked_before}
use Rattle.kernel.proofs.Changes.{same, state, passed, charged, Change, task, begins, clock, permits, flag, handoff, owner, added, reaped, begun, turned, owner_each, first_empty, Changes, carry, SlotChange, by}
use Rattle.kernel.proofs.Owned.{all_default}
use Rattle.book_guarantees.proofs.BestFirst.{clash, Rather, pick_is}
use Rattle.book_guarantees.proofs.Fairness.{runs, Live, most, allowance, budget, some_tick, Tick, Other, Turn}
use Rattle.book_guarantees.proofs.Account.{Account, fresh_account, change_account}
use Rattle.book_guarantees.proofs.Kept.{SliceFits, slice_same, IsOther, TaskKept, task_kept, reloaded_kept, each_kept, kept, NoLonger, no_longer}

-- ---- the invariant

-- only current's task runs, and none before the start
abbrev OnlyCurrent : Kernel → Type 0
OnlyCurrent k = (j : ℕ) → runs (slot k j) ≡ true → (j ≡ current k) × (k.started ≡ true)

-- slices are at most 5, and idle's is 1
abbrev Slices : Kernel → Type 0
Slices k = (j : ℕ) → SliceFits j (slot k j)

pub record Invariant (k : Kernel) : Type 0 where
  pub account : Account k
  pub slices : Slices k
  pub running : OnlyCurrent k

one_slot : (k : Kernel) → Slices k → (i : ℕ) (u : TaskControl) → SliceFits i u → (j : ℕ) → SliceFits j (get_or (set k.tasks i u) j blank_slot)
one_slot k f i u h = set_each SliceFits blank_slot k.tasks i u h f

same_slice : (k : Kernel) → Slices k → (i : ℕ) (u : TaskControl) → u.id ≡ (slot k i).id → u.time_slice ≡ (slot k i).time_slice → u.remaining_slice ≡ (slot k i).remaining_slice → (j : ℕ) → SliceFits j (get_or (set k.tasks i u) j blank_slot)
same_slice k f i u n s r = one_slot k f i u (slice_same i (slot k i) u n s (omega (arith, r)) (f i))

-- idle's slot is neither given nor emptied
not_idles : (j : ℕ) (t : TaskControl) → (j ≡ 0 → ⊥) → SliceFits 1 t → SliceFits j t
not_idles zero t n f = absurd (n refl)
not_idles (suc j) t n f = f

change_slices : {g : Kind} (k k' : Kernel) → Change g k k' → Account k → Slices k → Slices k'
unfolding Scheduler.add
change_slices k k' (task i u h c) a f = one_slot k f i u ((task_kept c).slices i (f i))
change_slices k k' (begins o n h b g p s) a f = same_slice k f (current k) _ refl refl refl
change_slices k k' (clock l b) a f = f
change_slices k k' (permits s n q h c) a f = f
change_slices k k' (flag v n q h c) a f = f
change_slices k k' (handoff m h q l c) a f = f
change_slices k k' (owner m l from to h q r d c) a f = owner_each Slices (λ x i n _ e. same_slice x e i _ refl refl refl) from to k f
change_slices k k' (added p r free region) a f = one_slot k f _ _ (not_idles (lowest_empty k) (new_task (next_id k) p r) (λ e. clash a.sound.is.idle (rw e at (first_empty k free))) (omega arith))
change_slices k k' (reaped i h idle running on) a f = one_slot k f i blank_slot (not_idles i blank_slot (λ e. idle (sym e)) (omega arith))
change_slices k k' (begun x h o) a f = same_slice k f (next_task k) _ refl refl refl
change_slices k k' (turned x h o) a f = let t = slot k (next_task k) in one_slot k f (next_task k) _ (slice_same (next_task k) (reloaded t) (entered Running (reloaded t)) refl refl (le_refl _) ((reloaded_kept t).2 (next_task k) (f (next_task k))))

pub invariant_kept : {g : Kind} {k k' : Kernel} → Changes g k k' → Invariant k → OnlyCurrent k' → Invariant k'
invariant_kept {g} cs i r =
    let c = carry (λ x. Account x × Slices x) (λ x y d p. (change_account g x y d p.0, change_slices x y d p.0 p.1)) cs (i.account, i.slices) in
    record { account = c.0; slices = c.1; running = r }

pub fresh_invariant : (hz words : ℕ) → init_number hz words ≡ 0 → Invariant (fresh_kernel hz words)
unfolding fresh_kernel
fresh_invariant hz words e = record { account = fresh_account hz words e; slices = λ j. (slots j).0; running = λ j r. clash r (slots j).1 }
  where
    slots : (j : ℕ) → SliceFits j (slot (fresh_kernel hz words) j) × (runs (slot (fresh_kernel hz words) j) ≡ false)
    slots zero = ((refl, omega arith, refl), refl)
    slots (suc j) = rw (all_default blank_slot 15 j) (omega arith, refl)

-- ---- how many ticks a task may have

some_slice : (j : ℕ) → 1 ≤ most j
some_slice zero = omega arith
some_slice (suc j) = omega arith

within : (j : ℕ) (t : TaskControl) → SliceFits j t → max 1 t.remaining_slice ≤ most j
within zero t f = omega (arith, f.1)
within (suc j) t f = omega (arith, f.1)

pub slice_ticks : {k : Kernel} → Invariant k → budget k ≤ most (current k)
unfolding allowance
slice_ticks {k} i = either (λ n. n ≤ most (current k)) (runs (current_task k)) (λ _. within (current k) (current_task k) (i.slices (current k))) (λ _. some_slice (current k))

while_running : (t : TaskControl) → runs t ≡ true → allowance t ≡ max 1 t.remaining_slice
unfolding allowance
while_running t e = sym (taken _ _ _ _ e refl)

allowance_falls : (t u : TaskControl) → NoLonger t u → allowance u ≤ allowance t
unfolding allowance
allowance_falls t u q = either (λ n. n ≤ allowance t) (runs u) (λ e. let r = q e in omega (arith, while_running t r.0, r.1)) (λ _. some_tick t)

-- ---- calls that give no turn and no tick

module _ {g : Kind} {k k' : Kernel} (x : IsOther g) (cs : Changes g k k') where
  pub other_invariant : Invariant k → Invariant k'
  other_invariant i = invariant_kept cs i (λ j e. let r = i.running j (no_longer x cs j e).0 in (r.0 ∙ sym (kept x cs).stay, (kept x cs).on ∙ r.1))

  pub other_step : Other k k'
  other_step = record { stay = (kept x cs).stay; slice = rw (kept x cs).stay (allowance_falls _ _ (no_longer x cs (current k))) }

-- ---- ticks

slot_runs : (t u : TaskControl) → SlotChange ticking t u → runs u ≡ true → runs t ≡ true
slot_runs t u (by c) = (task_kept c).running

woken_kept : (now : ℕ) (t : TaskControl) → TaskKept plain t (woken now t)
unfolding woken
woken_kept now t = either (TaskKept plain t) (is_limit_due now t) (λ _. task_kept passed) (λ _. either (TaskKept plain t) (is_due now t) (λ _. task_kept (state Ready refl)) (λ _. task_kept same))

-- a started kernel's tick that wants no switch
none_wanted : (s c w d : Bool) → s ≡ true → (if not s then false otherwise if not c then true otherwise (w || d)) ≡ false → (c ≡ true) × (d ≡ false)
unfolding if◌then◌otherwise◌
none_wanted true true true d o e = clash refl e
none_wanted true true false d o e = (refl, e)
none_wanted true false w d o e = clash refl e
none_wanted false c w d o e = clash o refl

-- a task that runs on after a tick has one tick less before it
spent_falls : (t u : TaskControl) → TaskKept plain t u → runs u ≡ true → eqb (u.remaining_slice - 1) 0 ≡ false → suc (allowance (spent u)) ≤ allowance t
spent_falls t u h r d =
    let v : TaskControl = with_remaining (u.remaining_slice - 1) u in
    let n = eqb-false (u.remaining_slice - 1) 0 d in
    rw (← left _ _ _ v d refl) (omega (arith, while_running v r, while_running t (h.running r), h.remaining tt, n))

-- a limit that the task has ends after now
abbrev pub LimitAhead : ℕ → TaskControl → Type 0
LimitAhead now t = t.occupied ≡ true → has_limit t ≡ true → now < t.limit_tick

spent_ahead : {now : ℕ} (t : TaskControl) → LimitAhead now t → LimitAhead now (spent t)
spent_ahead {now} t h = either (LimitAhead now) (eqb (t.remaining_slice - 1) 0) (λ _. h) (λ _. h)

-- two choices by one test
both : {A B : Type 0} (P : A → B → Type 0) (b : Bool) {x y : A} {u v : B} → P x u → P y v → P (if b then x otherwise y) (if b then u otherwise v)
unfolding if◌then◌otherwise◌
both P true p q = p
both P false p q = q

module _ (k : Kernel) where
  advanced_still : (current (advanced k) ≡ current k) × ((advanced k).started ≡ k.started) × ((advanced k).charges ≡ charged k) × ((advanced k).retired_charge ≡ k.retired_charge)
  unfolding advanced clocked
  advanced_still = let f = (walked_beside (k.tick_count + 1) 16 k).form in (ap (λ (x : Kernel). current x) f, ap (λ (x : Kernel). x.started) f, ap (λ (x : Kernel). charged x) f, ap (λ (x : Kernel). x.retired_charge) f)

  still : (current (Scheduler.tick k) ≡ current k) × ((Scheduler.tick k).started ≡ k.started) × ((Scheduler.tick k).charges ≡ charged k) × ((Scheduler.tick k).retired_charge ≡ k.retired_charge)
  unfolding Scheduler.tick sliced
  still = either (λ (x : Kernel). (current x ≡ current k) × (x.started ≡ k.started) × (x.charges ≡ charged k) × (x.retired_charge ≡ k.retired_charge)) ((advanced k).started && current_runs (advanced k)) (λ _. advanced_still) (λ _. advanced_still)

  -- tick_count rises by one, and every limit lies ahead then
  pub tick_clock : (Scheduler.tick k).tick_count ≡ k.tick_count + 1
  unfolding Scheduler.tick sliced advanced clocked
  tick_clock = let up = ap (λ (x : Kernel). x.tick_count + 1) (walked_beside (k.tick_count + 1) 16 k).form in either (λ (x : Kernel). x.tick_count ≡ k.tick_count + 1) ((advanced k).started && current_runs (advanced k)) (λ _. up) (λ _. up)

  pub tick_ahead : (j : ℕ) → j < 16 → LimitAhead (k.tick_count + 1) (slot (Scheduler.tick k) j)
  unfolding Scheduler.tick sliced advanced clocked
  tick_ahead =
      let walked_ahead : (j : ℕ) → j < 16 → LimitAhead (k.tick_count + 1) (slot (advanced k) j) = λ j h. rw (walked_before (k.tick_count + 1) 16 k j h) (woken_ahead (k.tick_count + 1) (slot k j)) in
      either (λ (x : Kernel). (j : ℕ) → j < 16 → LimitAhead (k.tick_count + 1) (slot x j)) ((advanced k).started && current_runs (advanced k))
      (λ _. set_each (λ j t. j < 16 → LimitAhead (k.tick_count + 1) t) blank_slot (advanced k).tasks (current (advanced k)) _ (λ h. spent_ahead (current_task (advanced k)) (walked_ahead (current (advanced k)) h)) walked_ahead) (λ _. walked_ahead)

  -- a slot that the walk leaves at rest is as the walk left it
  pub tick_slot : (j : ℕ) → j < 16 → runs (woken (k.tick_count + 1) (slot k j)) ≡ false → slot (Scheduler.tick k) j ≡ woken (k.tick_count + 1) (slot k j)
  unfolding Scheduler.tick sliced advanced clocked
  tick_slot j h rest =
      let walk : slot (advanced k) j ≡ woken (k.tick_count + 1) (slot k j) = walked_before (k.tick_count + 1) 16 k j h in
      either (λ (x : Kernel). slot x j ≡ woken (k.tick_count + 1) (slot k j)) ((advanced k).started && current_runs (advanced k))
      (λ on. get_or-set_other (advanced k).tasks (current (advanced k)) j (spent (current_task (advanced k))) blank_slot (λ e. clash (and_right (advanced k).started _ on) (rw (← e) (ap runs walk ∙ rest))) ∙ walk) (λ _. walk)

  pub tick_started : (Scheduler.tick k).started ≡ k.started
  tick_started = still.1

  pub tick_invariant : Changes ticking k (Scheduler.tick k) → Invariant k → Invariant (Scheduler.tick k)
  tick_invariant cs i = invariant_kept cs i
      (λ j e. let r = i.running j (each_kept (λ t u. runs u ≡ true → runs t ≡ true) (λ _ e. e) (λ _ _ _ p q e. p (q e)) slot_runs cs j e) in (r.0 ∙ sym still.0, still.1 ∙ r.1))

  -- the sum of all charges and the retired one
  pub tick_sum : Invariant k → charge_sum (Scheduler.tick k) ≡ charge_sum k + (if k.started then 1 otherwise 0)
  tick_sum i =
      let c = current k in
      let n = charge k c + 1 in
      let inside = i.account.sound.is.current_slot in
      let raised = sum_but (charge k) (λ j. get_or (set k.charges c n) j 0) 16 c inside (λ j e. get_or-set_other k.charges c j n 0 e) in
      let here = get_or-set_same k.charges c n 0 (omega (arith, i.account.slots, inside)) in
      let all : sum_below (λ j. get_or (charged k) j 0) 16 ≡ sum_below (charge k) 16 + (if k.started then 1 otherwise 0) =
      both (λ l m. sum_below (λ j. get_or l j 0) 16 ≡ sum_below (charge k) 16 + m) k.started (omega (arith, raised, here)) (omega arith) in
      omega (arith, ap (λ (l : List ℕ). sum_below (λ j. get_or l j 0) 16) still.2, still.3, all)

  module _ (i : Invariant k) (on : k.started ≡ true) where
    pub tick_account : (j : ℕ) → charge (Scheduler.tick k) j ≡ charge k j + (if eqb (current k) j then 1 otherwise 0)
    tick_account j =
        let c = current k in
        let n = charge k c + 1 in
        ap (λ (l : List ℕ). get_or l j 0) (still.2 ∙ sym (taken _ _ _ _ on refl))
        ∙ either (λ m. get_or (set k.charges c n) j 0 ≡ charge k j + m) (eqb c j)
        (λ q. rw (← eqb-true c j q) (get_or-set_same k.charges c n 0 (omega (arith, i.account.slots, i.account.sound.is.current_slot))))
        (λ q. rw (get_or-set_other k.charges c j n 0 (λ e. eqb-false c j q (sym e))) (omega arith))

    -- the current task once the slots are walked
    abbrev t : TaskControl
    t = current_task (advanced k)

    walk_current : t ≡ woken (k.tick_count + 1) (current_task k)
    unfolding advanced clocked
    walk_current = rw (ap (λ (x : Kernel). current x) (walked_beside (k.tick_count + 1) 16 k).form) (walked_before (k.tick_count + 1) 16 k (current k) i.account.sound.is.current_slot)

    advanced_kept : TaskKept plain (current_task k) t
    advanced_kept = rw walk_current (woken_kept (k.tick_count + 1) (current_task k))

    -- it runs on, and its slice does not end
    unwanted : wants_switch k ≡ false → (runs t ≡ true) × (eqb (t.remaining_slice - 1) 0 ≡ false)
    unfolding wants_switch wants
    unwanted e = none_wanted (advanced k).started (runs t) (any_below (λ j. is_limit_due (k.tick_count + 1) (slot k j) || is_due (k.tick_count + 1) (slot k j)) 16) (eqb (t.remaining_slice - 1) 0) (advanced_still.1 ∙ on) e

    advanced_size : length (advanced k).tasks ≡ length k.tasks
    unfolding advanced clocked
    advanced_size = (walked_beside (k.tick_count + 1) 16 k).tasks

    tick_current : runs t ≡ true → current_task (Scheduler.tick k) ≡ spent t
    unfolding Scheduler.tick sliced
    tick_current r =
        ap current_task (sym (taken ((advanced k).started && runs t) (at (current (advanced k)) spent (advanced k)) (advanced k) _ (ap (λ (b : Bool). b && runs t) (advanced_still.1 ∙ on) ∙ r) refl))
        ∙ get_or-set_same (advanced k).tasks (current (advanced k)) (spent t) blank_slot (omega (arith, advanced_size, advanced_still.0, i.account.sound.owned.slots, i.account.sound.is.current_slot))

    -- a task that the walk leaves as it was, and that runs, has one tick less
    pub tick_spent : runs (current_task k) ≡ true → current_task k ≡ woken (k.tick_count + 1) (current_task k) → slot (Scheduler.tick k) (current k) ≡ spent (current_task k)
    tick_spent r w = let same : t ≡ current_task k = walk_current ∙ sym w in ap (slot (Scheduler.tick k)) (sym still.0) ∙ (tick_current (ap runs same ∙ r) ∙ ap spent same)

    pub tick_tick : Tick k (wants_switch k) (Scheduler.tick k)
    tick_tick = record { stay = still.0; fall = λ e. let f = unwanted e in rw (tick_current f.0) (spent_falls (current_task k) t advanced_kept f.0 f.1) }

-- ---- turns

-- a slot's task t as it stands at the pick, which was a: not Running, and Ready if a was Ready or Running
record Yielded (a t : TaskControl) : Type 0 where
  rest : runs t ≡ false
  ready : Live a → holds_task Ready t ≡ true

same_yielded : (a : TaskControl) → runs a ≡ false → Yielded a a
unfolding holds_task
same_yielded a n = record { rest = n; ready = go }
  where
    go : Live a → holds_task Ready a ≡ true
    go (o, inl z) = rw (o, z)
    go (o, inr z) = clash (ap (λ s. eqb (state_number s) 1) z) n

saved_yielded : (sp : ℕ) (a : TaskControl) → Yielded a (context_saved sp a)
unfolding context_saved holds_task
saved_yielded sp a = either (Yielded a) (runs a) (λ e. record { rest = refl; ready = λ v. rw v.0 }) (λ e. let y = same_yielded a e in record { rest = e; ready = y.ready })

-- slot s of a table in which nobody runs is made Running
only : (l : List TaskControl) (s : ℕ) (u : TaskControl) → ((j : ℕ) → runs (get_or l j blank_slot) ≡ false) → (j : ℕ) → runs (get_or (set l s u) j blank_slot) ≡ true → j ≡ s
only l s u f = set_each (λ j t. runs t ≡ true → j ≡ s) blank_slot l s u (λ _. refl) (λ j e. clash e (f j))

module _ (sp : ℕ) (k : Kernel) (i : Invariant k) where
  at_pick : (j : ℕ) → Yielded (slot k j) (slot (save_context sp k) j)
  at_pick j = go (ℕ_discrete j (current k)) (runs (slot k j)) refl
    where
      go : Dec (j ≡ current k) → (b : Bool) → runs (slot k j) ≡ b → Yielded (slot k j) (slot (save_context sp k) j)
      go (yes e) b r = rw e (rw (get_or-set_same k.tasks (current k) _ blank_slot (omega (arith, i.account.sound.owned.slots, i.account.sound.is.current_slot))) (saved_yielded sp (current_task k)))
      go (no n) true r = absurd (n (i.running j r).0)
      go (no n) false r = rw (get_or-set_other k.tasks (current k) j _ blank_slot n) (same_yielded (slot k j) r)

  pub switch_only : (j : ℕ) → runs (slot (Scheduler.switch sp k) j) ≡ true → j ≡ next_task (save_context sp k)
  unfolding Scheduler.switch
  switch_only = only (save_context sp k).tasks _ _ (λ j. (at_pick j).rest)

  -- a switch is a turn of the best slot
  pub switch_turn : Invariant (Scheduler.switch sp k) → Turn rank k (next_task (save_context sp k)) (Scheduler.switch sp k)
  unfolding Scheduler.switch
  switch_turn i' = record {
    inside = pick_lt _ _ _;
    best = λ j h v. omega (arith, (rather j h v).best, rank_saved sp k j, rank_saved sp k s);
    first = λ j h v e. (rather j h v).first (omega (arith, e, rank_saved sp k j, rank_saved sp k s));
    kept = λ j h v. rank_dispatched s (save_context sp k) (rather j h v).is s ∙ rank_saved sp k s;
    now = refl;
    slice = slice_ticks i';
  }
    where
      s : ℕ
      s = next_task (save_context sp k)

      rather : (j : ℕ) → j < 16 → Live (slot k j) → Rather (is_ready (save_context sp k)) (rank (save_context sp k)) (current k) s j
      rather j h v = pick_is (is_ready (save_context sp k)) (rank (save_context sp k)) (current k) i.account.sound.is.current_slot j h ((at_pick j).ready v)

pub start_only : (k : Kernel) → Invariant k → k.started ≡ false → (j : ℕ) → runs (slot (Scheduler.start k) j) ≡ true → j ≡ next_task k
unfolding Scheduler.start
start_only k i off = only k.tasks _ _ (λ j. resting j (runs (slot k j)) refl)
  where
    resting : (j : ℕ) (b : Bool) → runs (slot k j) ≡ b → runs (slot k j) ≡ false
    resting j true e = clash (i.running j e).1 off
    resting j false e = e
