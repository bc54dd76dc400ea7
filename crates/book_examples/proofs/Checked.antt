-- Each test tells its condition: so a computed list is shown to be a stretch, with a peer, by `refl`.
use mathlib.Core.Path.{◌≡◌, refl, ap, subst, ◌∙◌}
use mathlib.Core.Bool.{Bool, true, false}
use mathlib.Core.List.{List, [], ◌∷◌, ◌++◌}
use mathlib.Core.Logic.{◌⊎◌, inl, inr, ◌≢◌}
use Prim.Native.Nat.{ℕ, ◌≤◌}
use lib.Dec.{eqb, leb}
use borrow.Author.Tests.{eqb-true, eqb-false, leb-true, not-true, eq-eqb}
use Rattle.base.specs.Choice.{every}
use Rattle.base.proofs.Choices.{and_left, and_right, implied, every_at}
use Rattle.kernel.specs.declared.control.TaskId.{TaskId}
use Rattle.kernel.specs.declared.control.TaskState.{TaskState}
use Rattle.kernel.specs.declared.control.TaskState.TheVariants.{Ready, Running, Blocked, Sleeping, Suspended, Terminated}
use Rattle.kernel.specs.declared.scheduler.Kernel.{Kernel}
use Rattle.kernel.specs.Control.{state_number, same_id}
use Rattle.kernel.specs.Kernel.{slot}
use Rattle.kernel.specs.Rank.{rank}
use Rattle.kernel.specs.Calls.{Kind, adding, reaping, starting, switching, ticking, owning, plain, kind}
use Rattle.book_guarantees.specs.Lists.{Entry, after, Each, EachNext, Outcome, turn, tick, other, outcome, AcceptedSwitch}
use Rattle.book_guarantees.specs.Turns.{Holds, Stretch, Peer, Unchanging}
use Rattle.book_guarantees.proofs.BestFirst.{clash}
use Rattle.book_examples.specs.Tests.{each, each_next, holds, is_turn, not_smaller, wants, switches, accepted_switch, entry, between, second, conditions, peer}

pub each_is : (p : Entry → Bool) (P : Entry → Type 0) → ((e : Entry) → p e ≡ true → P e) → (es : List Entry) → each p es ≡ true → Each P es
each_is p P f [] q = tt
each_is p P f (e ∷ es) q = (f e (and_left (p e) _ q), each_is p P f es (and_right (p e) _ q))

each_next_is : (r : Entry → Entry → Bool) (R : Entry → Entry → Type 0) → ((e f : Entry) → r e f ≡ true → R e f) → (es : List Entry) → each_next r es ≡ true → EachNext R es
each_next_is r R h [] q = tt
each_next_is r R h (e ∷ []) q = tt
each_next_is r R h (e ∷ f ∷ es) q = (h e f (and_left (r e f) _ q), each_next_is r R h (f ∷ es) (and_right (r e f) _ q))

awake_is : (s : TaskState) → leb (state_number s) 1 ≡ true → (s ≡ Ready) ⊎ (s ≡ Running)
awake_is Ready e = inl refl
awake_is Running e = inr refl
awake_is Blocked e = clash e refl
awake_is Sleeping e = clash e refl
awake_is Suspended e = clash e refl
awake_is Terminated e = clash e refl

holds_is : (j : ℕ) (a : TaskId) (k : Kernel) → holds j a k ≡ true → Holds j a k
holds_is j a k e =
    let f = and_right (slot k j).occupied _ e in
    record {
      present = and_left (slot k j).occupied _ e;
      named = ap (λ (n : ℕ). record { 0 = n }) (eqb-true (slot k j).id.0 a.0 (and_left (same_id (slot k j).id a) _ f));
      state = awake_is (slot k j).state (and_right (same_id (slot k j).id a) _ f);
    }

turn_is : (i : ℕ) (v : Outcome) → is_turn i v ≡ true → v ≡ turn i
turn_is i (turn s) q = ap turn (eqb-true s i q)
turn_is i (tick w) q = clash q refl
turn_is i other q = clash q refl

apart_is : (i : ℕ) (v : Outcome) → is_turn i v ≡ false → v ≢ turn i
apart_is i v q e = clash (ap (is_turn i) e ∙ eq-eqb i i refl) q

not_smaller_is : (r : ℕ) (k : Kernel) (v : Outcome) → not_smaller r k v ≡ true → (s : ℕ) → v ≡ turn s → r ≤ rank k s
not_smaller_is r k v q s e = leb-true r (rank k s) (subst (λ (x : Outcome). not_smaller r k x ≡ true) e q)

wants_is : (v : Outcome) → v ≡ tick true → wants v ≡ true
wants_is v e = rw e

switches_is : (g : Kind) → switches g ≡ true → g ≡ switching
switches_is adding q = clash q refl
switches_is reaping q = clash q refl
switches_is starting q = clash q refl
switches_is switching q = refl
switches_is ticking q = clash q refl
switches_is owning q = clash q refl
switches_is plain q = clash q refl

switch_is : (e : Entry) → accepted_switch e ≡ true → AcceptedSwitch e
switch_is e q = (switches_is (kind e.call) (and_left (switches (kind e.call)) _ q), eqb-true _ _ (and_right (switches (kind e.call)) _ q))

pub stretch_is : (es : List Entry) (m n i : ℕ) (a : TaskId) → every (conditions es m n i a) ≡ true → Stretch rank i a (entry es m) (between es m n) (second es m n)
stretch_is es m n i a q = record {
  first_turn = turn_is i _ (every_at _ 0 q);
  second_turn = turn_is i _ (every_at _ 1 q);
  neighbouring = each_is _ _ (λ e x. apart_is i (outcome e) (not-true _ x)) (between es m n) (every_at _ 2 q);
  stays = each_is _ _ (λ e. holds_is i a (after e)) (entry es m ∷ between es m n) (every_at _ 3 q);
  none_smaller = each_is _ _ (λ e. not_smaller_is _ (after e) (outcome e)) (between es m n) (every_at _ 4 q);
  followed = each_next_is _ _ (λ e f x w. switch_is f (implied (wants (outcome e)) _ (wants_is (outcome e) w) x)) (between es m n ++ second es m n ∷ []) (every_at _ 5 q);
}

same_each : (k : Entry) (j : ℕ) (es : List Entry) → each (λ e. eqb (rank (after e) j) (rank (after k) j)) es ≡ true → Unchanging rank j k es
same_each k j = each_is _ _ (λ e. eqb-true _ _)

pub unchanging_is : (es : List Entry) (m n i : ℕ) (a : TaskId) → every (conditions es m n i a) ≡ true → Unchanging rank i (entry es m) (between es m n)
unchanging_is es m n i a q = same_each (entry es m) i (between es m n) (every_at _ 6 q)

pub peer_unchanging_is : (es : List Entry) (m n i j : ℕ) (b : TaskId) → every (peer es m n i j b) ≡ true → Unchanging rank j (entry es m) (between es m n)
peer_unchanging_is es m n i j b q = same_each (entry es m) j (between es m n) (every_at _ 3 q)

pub peer_is : (es : List Entry) (m n i j : ℕ) (b : TaskId) → every (peer es m n i j b) ≡ true → Peer rank i (entry es m) (between es m n) j b
peer_is es m n i j b q = record {
  another = eqb-false j i (not-true _ (every_at _ 0 q));
  equal = eqb-true _ _ (every_at _ 1 q);
  stayed = each_is _ _ (λ e. holds_is j b (after e)) (entry es m ∷ between es m n) (every_at _ 2 q);
}
