-- The third sentence, proved: each call is a step of `Fairness` that keeps the invariant (`Fact`), so a list from fresh is a chain of such steps, and what
-- `Fairness` says of ticks is said of the charges of tasks that stay. Where no mutex has a queue, ranks are priorities, which a present task keeps.
use mathlib.Core.Path.{◌≡◌, refl, sym, ap, subst, ◌∙◌}
use mathlib.Core.Bool.{Bool, true, false, ◌&&◌, ◌||◌}
use mathlib.Core.List.{List, [], ◌∷◌, ◌++◌}
use mathlib.Core.Logic.{◌≢◌}
use Prim.Native.Nat.{ℕ, zero, suc, ◌+◌, ◌≤◌, ◌<◌}
use native.Mathlib.Decide.{dec_lt}
use native.Mathlib.Omega.{arith}
use lib.Dec.{eqb}
use lib.ListN.{get_or-eq_default}
use borrow.Author.Tests.{eqb-true, eqb-false}
use Rattle.base.specs.Choice.{if◌then◌otherwise◌}
use Rattle.base.specs.Below.{sum_below}
use Rattle.base.proofs.Choices.{either}
use Rattle.base.proofs.Loops.{sum_mono, sum_but}
use Rattle.kernel.specs.declared.control.TaskControl.{TaskControl}
use Rattle.kernel.specs.declared.control.TaskId.{TaskId}
use Rattle.kernel.specs.declared.scheduler.Kernel.{Kernel}
use Rattle.kernel.specs.declared.scheduler.Answer.{Answer}
use Rattle.kernel.specs.declared.scheduler.Value.TheVariants.{Nothing}
use Rattle.kernel.specs.Control.{blank_slot}
use Rattle.kernel.specs.Kernel.{slot, charge, charge_sum, current}
use Rattle.kernel.specs.Rank.{priority_of, rank}
use Rattle.kernel.specs.Scheduler.{wants_switch}
use Rattle.kernel.specs.Scheduler
use Rattle.kernel.specs.Calls.{Call, add, start, switch, current_id, status, block, sleep, wake, exit, wait, reap, reap_one, result, lock, try_lock, unlock, acquire, acquire_within, try_acquire, release, event_wait, event_wait_within, signal, list, ticks_to_ms, load, Kind, plain, kind, number, value, effect, value_number, step, init, init_number, Reached}
use Rattle.kernel.specs.Calls
use Rattle.kernel.proofs.Accepted.{start_off, switch_on}
use Rattle.kernel.proofs.Pick.{pick_lt}
use Rattle.kernel.proofs.Changes.{Changes, none}
use Rattle.kernel.proofs.MadeOf.{made_of}
use Rattle.kernel.proofs.Reached.{init_kernel, reached}
use Rattle.book_guarantees.specs.Lists.{Entry, after, Each, EachNext, Returned, end, Outcome, turn, tick, other, outcome_of, outcome, AcceptedSwitch, turns, tick_of, ticks_while, accepted_tick, starts, is_start}
use Rattle.book_guarantees.specs.Turns.{Stays, Peer, Unchanging, Rises, TurnGuarantee, ticks_while_others, IdleGuarantee}
use Rattle.book_guarantees.proofs.BestFirst.{clash}
use Rattle.book_guarantees.proofs.Fairness.{most, budget, IsTurn, answered, Step, Steps, At, each_at, fair}
use Rattle.book_guarantees.proofs.Kept.{IsOther, priority_kept, charge_kept, kept}
use Rattle.book_guarantees.proofs.Account.{sum_kept}
use Rattle.book_guarantees.proofs.Invariant.{Invariant, invariant_kept, fresh_invariant, slice_ticks, other_invariant, other_step, LimitAhead, tick_clock, tick_ahead, tick_started, tick_invariant, tick_sum, tick_account, tick_tick, switch_only, switch_turn, start_only}

no_turn : {A : Type 0} {s : ℕ} → other ≡ turn s → A
no_turn q = let y : ◌≡◌ {A = ℕ} 0 1 = cc in let o : ⊥ = omega (arith, y) in absurd o

tick_no_turn : {A : Type 0} {s : ℕ} {w : Bool} → tick w ≡ turn s → A
tick_no_turn q = let y : ◌≡◌ {A = ℕ} 0 1 = cc in let o : ⊥ = omega (arith, y) in absurd o

no_tick : {A : Type 0} {w : Bool} → other ≡ tick w → A
no_tick q = let y : ◌≡◌ {A = ℕ} 0 1 = cc in let o : ⊥ = omega (arith, y) in absurd o

same_turn : {s t : ℕ} → s < 16 → turn s ≡ turn t → (s ≡ t) × (t < 16)
same_turn {s} {t} h e = let q : s ≡ t = cc in (q, omega (arith, q))

or_false : (b : Bool) → (b || false) ≡ b
or_false true = refl
or_false false = refl

or_true : (b : Bool) → (b || true) ≡ true
or_true true = refl
or_true false = refl

yes_or_no : (b : Bool) → eqb (if b then 1 otherwise 0) 1 ≡ b
unfolding if◌then◌otherwise◌
yes_or_no true = refl
yes_or_no false = refl

-- ---- one call

-- what an outcome v that leads from k to k' is; b says whether it is an accepted start
pub record Fact (k : Kernel) (b : Bool) (v : Outcome) (k' : Kernel) : Type 0 where
  pub invariant : Invariant k'
  pub on : k'.started ≡ (k.started || b)
  step : k.started ≡ true → Step rank k v k'
  -- the charge of a task that is there before and after, and the sum of all with the retired one
  account : k.started ≡ true → (j : ℕ) → (slot k j).occupied ≡ true → (slot k' j).occupied ≡ true → charge k' j ≡ charge k j + tick_of j k v
  pub sum : charge_sum k' ≡ charge_sum k + (if k.started then accepted_tick v otherwise 0)
  begun : (s : ℕ) → v ≡ turn s → (current k' ≡ s) × (s < 16) × (k'.started ≡ true)
  pub priority : (j : ℕ) → (slot k j).occupied ≡ true → (slot k' j).occupied ≡ true → priority_of k' j ≡ priority_of k j
  -- tick_count rises by the accepted ticks, and with such a tick every limit lies ahead
  pub clock : k'.tick_count ≡ k.tick_count + accepted_tick v
  pub ahead : (w : Bool) → v ≡ tick w → (j : ℕ) → j < 16 → LimitAhead k'.tick_count (slot k' j)

same_priority : {g : Kind} {k k' : Kernel} → Changes g k k' → (j : ℕ) → (slot k j).occupied ≡ true → (slot k' j).occupied ≡ true → priority_of k' j ≡ priority_of k j
same_priority cs j o p = ap (λ x. x.0) (priority_kept cs j o p)

-- nothing is added
no_more : (b : Bool) → ◌≡◌ {A = ℕ} (if b then 0 otherwise 0) 0
no_more b = either (λ n. n ≡ 0) b (λ _. refl) (λ _. refl)

other_fact : {g : Kind} {k k' : Kernel} → IsOther g → Invariant k → Changes g k k' → Fact k false other k'
other_fact {k = k} x i cs = record {
  invariant = other_invariant x cs i;
  on = (kept x cs).on ∙ sym (or_false k.started);
  step = λ _. other_step x cs;
  account = λ _ j o p. omega (arith, charge_kept x cs j o p);
  sum = omega (arith, sum_kept x cs i.account, no_more k.started);
  begun = λ s e. no_turn e;
  priority = same_priority cs;
  clock = omega (arith, (kept x cs).clock);
  ahead = λ w e. no_tick e;
}

pub accepted_fact : (k : Kernel) (c : Call) → Invariant k → number k c ≡ 0 → Changes (kind c) k (effect k c) → Fact k (starts (kind c)) (outcome_of (kind c) (value k c)) (effect k c)
unfolding outcome_of value effect value_number Scheduler.start Scheduler.switch
accepted_fact k start i m cs =
    let off = start_off k m in
    let i' : Invariant (Scheduler.start k) = invariant_kept cs i (λ j e. (start_only k i off j e, refl)) in
    record {
      invariant = i';
      on = sym (or_true k.started);
      step = λ o. clash o off;
      account = λ _ j _ _. omega arith;
      sum = omega (arith, no_more k.started);
      begun = λ s e. let q = same_turn (pick_lt _ _ _) e in (q.0, q.1, refl);
      priority = same_priority cs;
      clock = omega arith;
      ahead = λ w e. tick_no_turn (sym e);
    }
accepted_fact k Calls.tick i m cs = record {
  invariant = tick_invariant k cs i;
  on = tick_started k ∙ sym (or_false k.started);
  step = λ o. rw (yes_or_no (wants_switch k)) (tick_tick k i o);
  account = λ o j _ _. tick_account k i o j;
  sum = tick_sum k i;
  begun = λ s e. tick_no_turn e;
  priority = same_priority cs;
  clock = tick_clock k;
  ahead = λ w _ j h. rw (tick_clock k) (tick_ahead k j h);
}
accepted_fact k (switch arena sp) i m cs =
    let on = switch_on k arena sp m in
    let i' : Invariant (Scheduler.switch sp k) = invariant_kept cs i (λ j e. (switch_only sp k i j e, on)) in
    record {
      invariant = i';
      on = sym (or_false k.started);
      step = λ _. switch_turn sp k i i';
      account = λ _ j _ _. omega arith;
      sum = omega (arith, no_more k.started);
      begun = λ s e. let q = same_turn (pick_lt _ _ _) e in (q.0, q.1, on);
      priority = same_priority cs;
      clock = omega arith;
      ahead = λ w e. tick_no_turn (sym e);
    }
accepted_fact k (add arena q r) i m cs = other_fact tt i cs
accepted_fact k current_id i m cs = other_fact tt i cs
accepted_fact k (status s) i m cs = other_fact tt i cs
accepted_fact k block i m cs = other_fact tt i cs
accepted_fact k (sleep ticks) i m cs = other_fact tt i cs
accepted_fact k (wake a) i m cs = other_fact tt i cs
accepted_fact k exit i m cs = other_fact tt i cs
accepted_fact k (wait a) i m cs = other_fact tt i cs
accepted_fact k (reap a) i m cs = other_fact tt i cs
accepted_fact k reap_one i m cs = other_fact tt i cs
accepted_fact k (result a r) i m cs = other_fact tt i cs
accepted_fact k (lock n) i m cs = other_fact tt i cs
accepted_fact k (try_lock n) i m cs = other_fact tt i cs
accepted_fact k (unlock n) i m cs = other_fact tt i cs
accepted_fact k (acquire n) i m cs = other_fact tt i cs
accepted_fact k (acquire_within n ticks) i m cs = other_fact tt i cs
accepted_fact k (try_acquire n) i m cs = other_fact tt i cs
accepted_fact k (release n) i m cs = other_fact tt i cs
accepted_fact k (event_wait n) i m cs = other_fact tt i cs
accepted_fact k (event_wait_within n ticks) i m cs = other_fact tt i cs
accepted_fact k (signal n) i m cs = other_fact tt i cs
accepted_fact k (list arena records) i m cs = other_fact tt i cs
accepted_fact k (ticks_to_ms ticks) i m cs = other_fact tt i cs
accepted_fact k (load a) i m cs = other_fact tt i cs

-- the invariant of every kernel from fresh
pub reached_invariant : {k : Kernel} → Reached k → Invariant k
reached_invariant = reached Invariant fresh_invariant (λ k c e i. (accepted_fact k c i e (made_of k c e)).invariant)

-- an answer is what its call does on the kernel before it, refused or not
answer_fact : (k : Kernel) (c : Call) → Invariant k → Fact k (is_start (record { call = c; answer = step k c })) (outcome (record { call = c; answer = step k c })) (step k c).kernel
unfolding step outcome is_start if◌then◌otherwise◌
answer_fact k c i =
    either (λ (a : Answer). Fact k (eqb a.number 0 && starts (kind c)) (if eqb a.number 0 then outcome_of (kind c) a.value otherwise other) a.kernel) (eqb (number k c) 0)
    (λ q. let m = eqb-true (number k c) 0 q in accepted_fact k c i m (made_of k c m))
    (λ q. subst (λ (b : Bool). Fact k (b && starts (kind c)) (if b then outcome_of (kind c) Nothing otherwise other) k) (sym q) (other_fact {g = plain} tt i none))

pub entry_fact : (k : Kernel) (e : Entry) → Invariant k → e.answer ≡ step k e.call → Fact k (is_start e) (outcome e) (after e)
entry_fact k e i r = subst (λ (a : Answer). Fact k (is_start (record { call = e.call; answer = a })) (outcome (record { call = e.call; answer = a })) a.kernel) (sym r) (answer_fact k e.call i)

-- ---- a list of calls

abbrev pub Chain : List Entry → Type 0
Chain es = EachNext (λ e f. Fact (after e) (is_start f) (outcome f) (after f)) es

chain : (e : Entry) (es : List Entry) → Invariant (after e) → Returned (after e) es → Chain (e ∷ es)
chain e [] i r = tt
chain e (f ∷ fs) i r = let x = entry_fact (after e) f i r.0 in (x, chain f fs x.invariant r.1)

-- from an entry of a list on
pub chain_from : (k : Kernel) (es : List Entry) (one : Entry) (fs : List Entry) → Invariant k → Returned k (es ++ one ∷ fs) → (k₀ : Kernel) × Fact k₀ (is_start one) (outcome one) (after one) × Chain (one ∷ fs)
chain_from k [] one fs i r = let x = entry_fact k one i r.0 in (k, x, chain one fs x.invariant r.1)
chain_from k (e ∷ es) one fs i r = chain_from (after e) es one fs (entry_fact k e i r.0).invariant r.1

-- the calls between and the second turn; the charge of a task that stays rises by the ticks made while its slot was current
record Between (e : Entry) (es : List Entry) (two : Entry) : Type 0 where
  steps : Steps rank (e ∷ es)
  second : Step rank (end (after e) es) (outcome two) (after two)
  account : (j : ℕ) (b : TaskId) → Stays j b e es → charge (end (after e) es) j ≡ charge (after e) j + ticks_while j (after e) es

between_of : (e : Entry) (es : List Entry) (two : Entry) (fs : List Entry) → (after e).started ≡ true → Chain (e ∷ (es ++ two ∷ fs)) → Between e es two
between_of e [] two fs o c = record { steps = tt; second = c.0.step o; account = λ j b s. omega arith }
between_of e (f ∷ es) two fs o c =
    let x = between_of f es two fs (c.0.on ∙ rw o) c.1 in
    record { steps = (c.0.step o, x.steps); second = x.second; account = λ j b s. omega (arith, x.account j b s.1, c.0.account o j s.0.present s.1.0.present) }

switch_is_turn : (e : Entry) → AcceptedSwitch e → IsTurn (outcome e)
unfolding outcome outcome_of if◌then◌otherwise◌
switch_is_turn e s = rw (s.1, s.0) tt

five : (j : ℕ) → most j ≤ 5
five zero = omega arith
five (suc j) = omega arith

-- a slice of each slot but i: idle's 1 and fifteen fives, less that of i
slices : (f : ℕ → ℕ) (i : ℕ) → i < 16 → ((j : ℕ) → j < 16 → f j ≤ most j) → sum_below (λ j. if eqb j i then 0 otherwise f j) 16 + most i ≤ 76
unfolding sum_below if◌then◌otherwise◌
slices f i h g =
    let others = sum_mono (λ j. if eqb j i then 0 otherwise f j) (λ j. if eqb j i then 0 otherwise most j) 16 (λ j l. within j (eqb j i) (g j l)) in
    let all = sum_but most (λ j. if eqb j i then 0 otherwise most j) 16 i h (λ j n. either (λ x. x ≡ most j) (eqb j i) (λ e. absurd (n (eqb-true j i e))) (λ _. refl)) in
    let here : (if eqb i i then 0 otherwise most i) ≡ 0 = either (λ x. x ≡ 0) (eqb i i) (λ _. refl) (λ e. absurd (eqb-false i i e refl)) in
    let total : sum_below most 16 ≡ 76 = refl in
    omega (arith, others, all, here, total)
  where
    within : (j : ℕ) (b : Bool) → f j ≤ most j → (if b then 0 otherwise f j) ≤ (if b then 0 otherwise most j)
    within j true l = omega arith
    within j false l = l

-- in slot 0 stands idle
less_slice : (i n : ℕ) → n + most i ≤ 76 → (n ≤ 75) × (i ≢ 0 → n ≤ 71)
less_slice zero n h = (omega arith, λ e. absurd (e refl))
less_slice (suc i) n h = (omega arith, λ _. omega arith)

charge_rises : (j : ℕ) (one : Entry) (between : List Entry) → ticks_while j (after one) between ≤ most j → charge (end (after one) between) j ≡ charge (after one) j + ticks_while j (after one) between → Rises j one between
charge_rises j one between few e = record { five = omega (arith, few, five j, e); by_ticks = e }

-- an occupied slot is one of the sixteen
occupied_inside : {k : Kernel} → Invariant k → (j : ℕ) → (slot k j).occupied ≡ true → j < 16
occupied_inside {k} i j o = go (dec_lt j 16)
  where
    go : Dec (j < 16) → j < 16
    go (yes h) = h
    go (no n) = clash o (ap (λ (t : TaskControl). t.occupied) (get_or-eq_default k.tasks blank_slot (omega (arith, i.account.sound.owned.slots, n))))

pub init_invariant : (hz words : ℕ) → init_number hz words ≡ 0 → Invariant (init hz words).kernel
init_invariant hz words e = subst Invariant (init_kernel hz words e) (fresh_invariant hz words e)

-- ---- the sentence

pub turn_guarantee : TurnGuarantee
turn_guarantee hz words accepted before between rest one two returned i a s u = record {
  one_turn = λ j b q. f.0 j (inside j b q) q.0.another (each_at rank r j b (one ∷ between) q.0.stayed (subst (λ (x : ℕ). Each (λ e. rank (after e) j ≡ x) (one ∷ between)) q.0.equal (refl, q.1)));
  peers = λ j b q. charge_rises j one between (f.1 j (inside j b q)) (y.account j b q.0.stayed);
  own = charge_rises i one between (f.1 i begun.1) (y.account i a s.stays);
  others = ticks.0;
  not_idle = ticks.1;
}
  where
    r : ℕ
    r = rank (after one) i

    c : (k : Kernel) × Fact k (is_start one) (outcome one) (after one) × Chain (one ∷ (between ++ two ∷ rest))
    c = chain_from (init hz words).kernel before one (between ++ two ∷ rest) (init_invariant hz words accepted) returned

    begun : (current (after one) ≡ i) × (i < 16) × ((after one).started ≡ true)
    begun = c.1.begun i s.first_turn

    y : Between one between two
    y = between_of one between two rest begun.2 c.2

    inside : (j : ℕ) (b : TaskId) → Peer rank i one between j b × Unchanging rank j one between → j < 16
    inside j b q = occupied_inside c.1.invariant j q.0.stayed.0.present

    f : ((j : ℕ) → j < 16 → j ≢ i → Each (At rank r j) (one ∷ between) → turns j between ≡ 1) × ((j : ℕ) → j < 16 → ticks_while j (after one) between ≤ most j)
    f = fair rank i r begun.1 between one (after two) begun.0 (subst (λ (x : ℕ). budget (after one) ≤ most x) begun.0 (slice_ticks c.1.invariant)) y.steps (each_at rank r i a (one ∷ between) s.stays (refl, u)) s.neighbouring s.none_smaller
        (answered switch_is_turn between two s.followed) (subst (λ (v : Outcome). Step rank (end (after one) between) v (after two)) s.second_turn y.second)

    ticks : (ticks_while_others i one between ≤ 75) × (i ≢ 0 → ticks_while_others i one between ≤ 71)
    ticks = less_slice i _ (slices (λ j. ticks_while j (after one) between) i begun.1 f.1)

pub idle_guarantee : IdleGuarantee
idle_guarantee k r = let i = reached_invariant r in record { present = i.account.sound.is.idle; named = (i.slices 0).2; slice = (i.slices 0).0 }
