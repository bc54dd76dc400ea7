-- The claims of specs/Waits.antt: the figures by computation, the conclusions by the guarantees.
use mathlib.Core.Path.{◌≡◌, refl, sym, subst}
use mathlib.Core.Bool.{true, false}
use mathlib.Core.List.{List, [], ◌∷◌, ◌++◌}
use Prim.Native.Nat.{ℕ, zero, suc, ◌+◌, min, ◌≤◌, ◌<◌}
use native.Mathlib.Omega.{arith}
use lib.ListN.{take, drop}
use borrow.Author.Tests.{eqb-true, ltb-true, leb-true}
use Rattle.base.proofs.Choices.{and_left, and_right}
use Rattle.kernel.specs.declared.control.LimitObject.{LimitObject}
use Rattle.kernel.specs.declared.control.LimitObject.TheVariants.{AtSemaphore, AtEvent}
use Rattle.kernel.specs.declared.scheduler.Kernel.{Kernel}
use Rattle.kernel.specs.declared.scheduler.Answer.{Answer}
use Rattle.kernel.specs.declared.scheduler.Value.TheVariants.{YesNo}
use Rattle.kernel.specs.Control.{has_limit}
use Rattle.kernel.specs.WaitQueue.{removed}
use Rattle.kernel.specs.Kernel.{slot, current}
use Rattle.kernel.specs.Scheduler.{drop_heads}
use Rattle.kernel.specs.Semaphore
use Rattle.kernel.specs.Event
use Rattle.kernel.specs.Calls.{Call, tick, acquire_within, event_wait_within, release, signal, step, init, init_number, Reached, fresh, called}
use Rattle.book_guarantees.specs.Lists.{Entry, after, Returned, accepted_ticks}
use Rattle.book_guarantees.specs.Wakings.{OneReady, OneWoken, releasing, signalling, Wakings}
use Rattle.book_guarantees.specs.Limits.{last_tick, WithLimit, acquiring, waiting, Keeps, EndsWithin, LimitEndsAt}
use Rattle.book_guarantees.proofs.TurnGuarantee.{turn_guarantee}
use Rattle.book_guarantees.proofs.Wakings.{wake_guarantee}
use Rattle.book_guarantees.proofs.Limits.{limit_guarantee}
use Rattle.book_examples.specs.Tests.{each, entry, between}
use Rattle.book_examples.specs.Examples.{run, played, id}
use Rattle.book_examples.specs.Waits.{kernel, keeps, own_tick_calls, own_tick, before, OwnTick, earlier_calls, earlier, Earlier, LimitMet, OwnTickLimit, EarlierLimit, AtItsTick, EventTick, wakings_calls, wakings, after_entry, acquirers, WakeAnswers, WakingsMet, limit_between_calls, limit_between, one, calls, two, LimitBetween, LimitBetweenFair}
use Rattle.book_examples.proofs.Checked.{each_is, stretch_is, unchanging_is, peer_is, peer_unchanging_is}
use Rattle.book_examples.proofs.Examples.{computed, run_returned}

-- what the figures are computed with
waits_computed : Unit {0}
unfolding computed own_tick own_tick_calls earlier earlier_calls wakings wakings_calls limit_between limit_between_calls removed drop_heads Semaphore.acquire Semaphore.acquire_within Semaphore.release Event.event_wait Event.event_wait_within Event.signal
waits_computed = tt

-- ---- the figures

pub own_tick_is : OwnTick
unfolding waits_computed
own_tick_is = record { kept_ticks = refl; all_ticks = refl; wants = refl; slice_left = refl; states_before = refl; states_after = refl; limits_before = refl; limits_after = refl; marks_before = refl; marks_after = refl; queue_before = refl; queue_after = refl; other_before = refl; other_after = refl; accepted = refl; due = record { limited = record { present = refl; limit = refl }; reached = leb-true _ _ refl }; object = refl; named = refl; not_due = (record { present = refl; limit = refl }, ltb-true _ _ refl); left = record { present = refl; limit = refl }; sleeper = record { present = refl; sleeping = refl; reached = leb-true _ _ refl }; runs = refl }

pub earlier_is : Earlier
unfolding waits_computed
earlier_is = record { kept_ticks = refl; all_ticks = refl; woke = refl; states_at = refl; limits_at = refl; queue_at = refl; mark_at = refl; wants = refl }

pub wake_answers : WakeAnswers
unfolding waits_computed
wake_answers = record { wake_yes = refl; wake_no = refl; wake_none = refl; wakes = (refl, refl); woken_slot = refl; release_yes = refl; release_no = refl; released = (refl, refl); queued = refl; lengths = (refl, refl); counts = refl; signal_yes = refl; signal_no = refl; signalled = (refl, refl); waited = refl; flags = refl; states_woken = refl; states_released = refl; states_signalled = refl }

pub limit_between_is : LimitBetween
unfolding waits_computed
limit_between_is = record { fresh = refl; stretch = refl; a_peer = refl; wants = refl; states_at = refl; limits_at = refl; mark_at = refl; peer_turn = (refl, refl) }

-- ---- of every list that is played

accepted : init_number 1000 2112 ≡ 0
unfolding waits_computed
accepted = refl

reached_from : (k : Kernel) (cs : List Call) (m : ℕ) → Reached k → Reached (kernel (run k cs) m)
reached_from k [] m r = fresh 1000 2112 accepted
reached_from k (c ∷ cs) zero r = called c r
reached_from k (c ∷ cs) (suc m) r = reached_from (step k c).kernel cs m (called c r)

reached_at : (cs : List Call) (m : ℕ) → Reached (kernel (played cs) m)
reached_at cs m = reached_from (init 1000 2112).kernel cs m (fresh 1000 2112 accepted)

returned_first : (k : Kernel) (es : List Entry) (n : ℕ) → Returned k es → Returned k (take n es)
returned_first k es zero r = tt
returned_first k [] (suc n) r = tt
returned_first k (e ∷ es) (suc n) r = (r.0, returned_first (after e) es n r.1)

returned_from : (k : Kernel) (cs : List Call) (m n : ℕ) → Returned (kernel (run k cs) m) (between (run k cs) m n)
returned_from k [] m zero = tt
returned_from k [] m (suc n) = tt
returned_from k (c ∷ cs) zero n = returned_first (step k c).kernel (run (step k c).kernel cs) n (run_returned (step k c).kernel cs)
returned_from k (c ∷ cs) (suc m) n = returned_from (step k c).kernel cs m n

-- ---- waits with a limit

keeps_is : (i t : ℕ) (k : Kernel) → keeps i t k ≡ true → Keeps i t k
keeps_is i t k e =
    let f = and_right (slot k i).occupied _ e in
    record {
      limited = record { present = and_left (slot k i).occupied _ e; limit = and_left (has_limit (slot k i)) _ f };
      until = eqb-true _ t (and_right (has_limit (slot k i)) _ f);
    }

-- what is computed of the call and of the entries after it, and what follows
limit_met : (cs : List Call) (m i n : ℕ) (o : LimitObject) (c : Call) (t x y : ℕ) → (entry (played cs) (suc m)).answer ≡ step (kernel (played cs) m) c → WithLimit n o c → (step (kernel (played cs) m) c).value ≡ YesNo false
    → current (kernel (played cs) m) ≡ i → min ((kernel (played cs) m).tick_count + n) last_tick ≡ t → each (λ e. keeps i t (after e)) (between (played cs) (suc m) x) ≡ true → t < last_tick → n ≤ accepted_ticks (between (played cs) (suc m) y)
    → LimitMet (played cs) m i n o c t x y
limit_met cs m i n o c t x y call limit value at until kept below enough =
    let es = played cs in
    let r = reached_at cs m in
    let back : (z : ℕ) → Returned (kernel es (suc m)) (between es (suc m) z) = returned_from (init 1000 2112).kernel cs (suc m) in
    let ends : EndsWithin (kernel es (suc m)) i n o t =
    subst (λ (a : Answer). EndsWithin a.kernel i n o t) (sym call) (subst (λ (j : ℕ). EndsWithin (step (kernel es m) c).kernel j n o t) at
    (subst (λ (u : ℕ). EndsWithin (step (kernel es m) c).kernel (current (kernel es m)) n o u) until (limit_guarantee.ends (kernel es m) r n o c limit value))) in
    let all = each_is _ _ (λ e. keeps_is i t (after e)) (between es (suc m) x) kept in
    record {
      reached = r;
      called = call;
      with_limit_lem = limit;
      says_no = value;
      ends = ends;
      reached_after = reached_at cs (suc m);
      limited = ends.begins.limited;
      waits = limit_guarantee.kept (kernel es (suc m)) (reached_at cs (suc m)) i ends.begins.limited;
      returned = back;
      kept = all;
      fewer = ends.fewer (between es (suc m) x) (back x) all;
      below = below;
      enough = enough;
      over = ends.over below (between es (suc m) y) (back y) enough;
    }

own_tick_call : (entry own_tick 12).answer ≡ step (kernel own_tick 11) (acquire_within 0 3)
unfolding own_tick own_tick_calls
own_tick_call = refl

pub own_tick_limit : OwnTickLimit
unfolding waits_computed
own_tick_limit = limit_met own_tick_calls 11 3 3 (AtSemaphore 0) (acquire_within 0 3) 4 9 10 own_tick_call (acquiring 0) refl refl refl refl (ltb-true _ _ refl) (leb-true _ _ refl)

earlier_call : (entry earlier 7).answer ≡ step (kernel earlier 6) (event_wait_within 1 2)
unfolding earlier earlier_calls
earlier_call = refl

pub earlier_limit : EarlierLimit
unfolding waits_computed
earlier_limit = limit_met earlier_calls 6 1 2 (AtEvent 1) (event_wait_within 1 2) 3 2 5 earlier_call (waiting 1) refl refl refl refl (ltb-true _ _ refl) (leb-true _ _ refl)

pub at_its_tick : AtItsTick
unfolding own_tick own_tick_calls
at_its_tick =
    let f = own_tick_is in
    let r = reached_at own_tick_calls 21 in
    let at = limit_guarantee.at_tick before r f.accepted in
    let out : LimitEndsAt before (AtSemaphore 0) (id 3) = record { i = 3; due = f.due; object = f.object; named = f.named } in
    record {
      reached = r;
      wait_due = limit_guarantee.kept before r 3 f.due.limited;
      wait_not_due = limit_guarantee.kept before r 4 f.not_due.0;
      ends = out;
      at_tick = at;
      ended = at.due 3 f.due;
      same = at.not_due 4 f.not_due.0 f.not_due.1;
      ahead = at.ahead 4 f.left;
      woken = at.sleeper 6 f.sleeper;
      slice = (at.slice 1 f.runs).1;
      out = (at.semaphores 0).left (id 3) out;
      wants = at.wants 3 f.due;
    }

event_ends : LimitEndsAt (kernel earlier 4) (AtEvent 1) (id 1) × ((step (kernel earlier 4) tick).number ≡ 0)
unfolding waits_computed
event_ends = (record { i = 1; due = record { limited = record { present = refl; limit = refl }; reached = leb-true _ _ refl }; object = refl; named = refl }, refl)

pub event_tick : EventTick
unfolding earlier earlier_calls
event_tick =
    let r = reached_at earlier_calls 4 in
    let e = event_ends in
    let at = limit_guarantee.at_tick (kernel earlier 4) r e.1 in
    record { reached = r; accepted = e.1; ends = e.0; at_tick = at; out = (at.events 1).left (id 1) e.0 }

-- ---- wake, release and signal

wakings_of : (m : ℕ) → Wakings (after_entry m)
unfolding wakings
wakings_of m = wake_guarantee (after_entry m) (reached_at wakings_calls m)

first_release : OneWoken (after_entry 13) (after_entry 14) (acquirers 13) (acquirers 14)
unfolding wakings wakings_calls
first_release = (wakings_of 13).yes (release 0) _ (releasing 0) wake_answers.release_yes

pub wakings_met : WakingsMet
unfolding wakings wakings_calls
wakings_met =
    let f = wake_answers in
    record {
      reached = reached_at wakings_calls;
      guarantee = wakings_of;
      wake_yes = subst (OneReady (after_entry 10) (after_entry 11)) f.woken_slot ((wakings_of 10).wake_yes (id 1) f.wake_yes);
      wake_no = (wakings_of 11).wake_no (id 1) f.wake_no;
      wake_none = (wakings_of 12).wake_no (id 9) f.wake_none;
      release_yes = first_release;
      release_place = omega (arith, first_release.shorter, f.lengths.0, f.lengths.1);
      release_no = (wakings_of 15).no (release 0) _ (releasing 0) f.release_no;
      count_yes = (wakings_of 13).count 0 f.released.0;
      count_no = (wakings_of 15).count 0 f.released.1;
      signal_yes = (wakings_of 19).yes (signal 2) _ (signalling 2) f.signal_yes;
      signal_no = (wakings_of 23).no (signal 2) _ (signalling 2) f.signal_no;
      set = (wakings_of 23).set 2 f.signal_no;
      kept_yes = (wakings_of 19).kept 2 f.signalled.0;
      kept_no = (wakings_of 23).kept 2 f.signalled.1;
    }

-- ---- a limited wait in a stretch

split : limit_between ≡ take 3 limit_between ++ one ∷ (calls ++ two ∷ drop 11 limit_between)
unfolding limit_between limit_between_calls
split = refl

limit_between_returned : Returned (init 1000 2112).kernel (take 3 limit_between ++ one ∷ (calls ++ two ∷ drop 11 limit_between))
unfolding limit_between
limit_between_returned = subst (Returned (init 1000 2112).kernel) split (run_returned (init 1000 2112).kernel limit_between_calls)

pub limit_between_fair : LimitBetweenFair
limit_between_fair =
    let f = limit_between_is in
    let s = stretch_is limit_between 3 6 1 (id 1) f.stretch in
    let u = unchanging_is limit_between 3 6 1 (id 1) f.stretch in
    record {
      fresh = f.fresh;
      returned = limit_between_returned;
      stretch = s;
      unchanging = u;
      a_peer = (peer_is limit_between 3 6 1 3 (id 3) f.a_peer, peer_unchanging_is limit_between 3 6 1 3 (id 3) f.a_peer);
      fair = turn_guarantee 1000 2112 f.fresh (take 3 limit_between) calls (drop 11 limit_between) one two limit_between_returned 1 (id 1) s u;
    }
