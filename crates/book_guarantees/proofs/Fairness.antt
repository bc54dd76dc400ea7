-- The third sentence from a few facts of each call (`Turn`, `Tick`, `Other`), for any rank: exactly one turn, and at most a slice's ticks of a slot. By
-- induction on the calls between: a turn between moves current forward in the ring, short of the first task's slot.
use mathlib.Core.Path.{◌≡◌, refl, sym, ap, ◌∙◌}
use mathlib.Core.Bool.{Bool, true, false}
use mathlib.Core.Logic.{◌⊎◌, inl, inr, ◌≢◌}
use mathlib.Core.List.{List, [], ◌∷◌, ◌++◌}
use Prim.Native.Nat.{ℕ, zero, suc, ◌+◌, max, ◌≤◌, ◌<◌}
use native.Mathlib.Decide.{dec_lt, ℕ_discrete}
use native.Mathlib.Omega.{arith}
use lib.Dec.{eqb}
use borrow.Author.Tests.{eqb-true, eqb-false}
use Rattle.base.specs.Choice.{if◌then◌otherwise◌}
use Rattle.base.proofs.Choices.{either}
use Rattle.kernel.specs.declared.control.TaskControl.{TaskControl}
use Rattle.kernel.specs.declared.control.TaskId.{TaskId}
use Rattle.kernel.specs.declared.control.TaskState.TheVariants.{Ready, Running}
use Rattle.kernel.specs.declared.scheduler.Kernel.{Kernel}
use Rattle.kernel.specs.Control.{in_state}
use Rattle.kernel.specs.Kernel.{slot, current, current_task}
use Rattle.book_guarantees.specs.Lists.{Entry, after, Each, EachNext, end, Outcome, turn, tick, other, outcome, AcceptedSwitch, turn_of, turns, tick_of, ticks_while}
use Rattle.book_guarantees.specs.Turns.{Holds}
use Rattle.book_guarantees.proofs.Ring.{ahead, rounds, ahead_self, ahead_other, through, nearer, same_place}

-- ---- what is read of a kernel

-- the task is Running
abbrev pub runs : TaskControl → Bool
runs t = in_state Running t

-- occupied, by a task that is Ready or Running
abbrev pub Live : TaskControl → Type 0
Live t = (t.occupied ≡ true) × ((t.state ≡ Ready) ⊎ (t.state ≡ Running))

-- the slice of the task in a slot, at most: idle's is 1
abbrev pub most : ℕ → ℕ
most zero = 1
most (suc j) = 5

-- how many ticks a task may have until one of them wants a switch
unfoldable pub allowance : TaskControl → ℕ
allowance t = if runs t then max 1 t.remaining_slice otherwise 1

abbrev pub budget : Kernel → ℕ
budget k = allowance (current_task k)

pub some_tick : (t : TaskControl) → 1 ≤ allowance t
unfolding allowance
some_tick t = either (λ n. 1 ≤ n) (runs t) (λ _. omega arith) (λ _. omega arith)

-- ---- what is asked of a call that leads from k to k'

pub record Tick (k : Kernel) (w : Bool) (k' : Kernel) : Type 0 where
  pub stay : current k' ≡ current k
  pub fall : w ≡ false → suc (budget k') ≤ budget k

pub record Other (k : Kernel) (k' : Kernel) : Type 0 where
  pub stay : current k' ≡ current k
  pub slice : budget k' ≤ budget k

-- of a list: each entry that wants a switch is followed next by a turn; a turn comes after the list
abbrev pub IsTurn : Outcome → Type 0
IsTurn (turn s) = Unit {0}
IsTurn (tick w) = ⊥
IsTurn other = ⊥

abbrev Next : List Entry → Type 0
Next [] = Unit {0}
Next (e ∷ es) = IsTurn (outcome e)

abbrev Answered : List Entry → Type 0
Answered [] = Unit {0}
Answered (e ∷ es) = (outcome e ≡ tick true → Next es) × Answered es

pub answered : ((e : Entry) → AcceptedSwitch e → IsTurn (outcome e)) → (es : List Entry) (two : Entry) → EachNext (λ e f. outcome e ≡ tick true → AcceptedSwitch f) (es ++ two ∷ []) → Answered es
answered is [] two h = tt
answered is (e ∷ []) two h = (λ _. tt, tt)
answered is (e ∷ f ∷ es) two h = (λ w. is f (h.0 w), answered is (f ∷ es) two h.1)

module _ (rank : Kernel → ℕ → ℕ) where
  -- a turn of slot s: of the live slots the one of the smallest rank, and of those the first from current + 1 on
  pub record Turn (k : Kernel) (s : ℕ) (k' : Kernel) : Type 0 where
    pub inside : s < 16
    pub best : (j : ℕ) → j < 16 → Live (slot k j) → rank k s ≤ rank k j
    pub first : (j : ℕ) → j < 16 → Live (slot k j) → rank k s ≡ rank k j → ahead (current k) s ≤ ahead (current k) j
    pub kept : (j : ℕ) → j < 16 → Live (slot k j) → rank k' s ≡ rank k s
    pub now : current k' ≡ s
    pub slice : budget k' ≤ most s

  abbrev pub Step : Kernel → Outcome → Kernel → Type 0
  Step k (turn s) k' = Turn k s k'
  Step k (tick w) k' = Tick k w k'
  Step k other k' = Other k k'

  abbrev pub Steps : List Entry → Type 0
  Steps es = EachNext (λ e f. Step (after e) (outcome f) (after f)) es

  -- slot j's task is Ready or Running and of rank r
  pub record At (r j : ℕ) (e : Entry) : Type 0 where
    pub live : Live (slot (after e) j)
    pub rank_is : rank (after e) j ≡ r

  pub each_at : (r j : ℕ) (a : TaskId) (es : List Entry) → Each (λ e. Holds j a (after e)) es → Each (λ e. rank (after e) j ≡ r) es → Each (At r j) es
  each_at r j a [] h q = tt
  each_at r j a (e ∷ es) h q = (record { live = (h.0.present, h.0.state); rank_is = q.0 }, each_at r j a es h.1 q.1)

  module _ (i r : ℕ) (hi : i < 16) where
    -- of the calls between: none gives i a turn, and none gives one to a smaller rank
    abbrev Apart : List Entry → Type 0
    Apart ms = Each (λ f. outcome f ≢ turn i) ms

    abbrev NoneSmaller : List Entry → Type 0
    NoneSmaller ms = Each (λ f. (s : ℕ) → outcome f ≡ turn s → r ≤ rank (after f) s) ms

    -- a turn between goes forward, short of i
    forward : {e : Entry} {k' : Kernel} {s : ℕ} → Turn (after e) s k' → current (after e) < 16 → At r i e → r ≤ rank k' s → s ≢ i
        → (ahead s i + ahead (current (after e)) s ≡ ahead (current (after e)) i) × (rank (after e) s ≡ r)
    forward {e} {k'} {s} t hc a nb ne =
        let q : rank (after e) s ≡ rank (after e) i = omega (arith, t.kept i hi a.live, t.best i hi a.live, a.rank_is) in
        (through i (current (after e)) s hi hc t.inside ne (t.first i hi a.live q), q ∙ a.rank_is)

    -- What a list may still hold, from a kernel with current c: b ticks of c, a slice of a slot that is still to come on the way to i, and none of one
    -- that is past; n j are those that it does hold.
    record Bound (b c : ℕ) (n : ℕ → ℕ) : Type 0 where
      own : n c ≤ b
      coming : (j : ℕ) → j < 16 → j ≢ c → ahead j i < ahead c i → n j ≤ most j
      gone : (j : ℕ) → j < 16 → j ≢ c → ahead c i ≤ ahead j i → n j ≤ 0

    -- the list starts with a turn, or b is enough for the ticks up to the next one
    abbrev Enough : ℕ → Entry → List Entry → Type 0
    Enough b e ms = (budget (after e) ≤ b) ⊎ Next ms

    bound_turn : (b c s : ℕ) (n : ℕ → ℕ) → c < 16 → s < 16 → ahead s i < ahead c i → Bound (most s) s n → Bound b c n
    bound_turn b c s n hc hs l h = record {
      own = let x = h.gone c hc (λ q. apart c q l) (omega arith) in omega arith;
      coming = λ j hj ne m. later j hj (ℕ_discrete j s) (dec_lt (ahead j i) (ahead s i));
      gone = λ j hj ne m. h.gone j hj (λ q. apart j q (omega arith)) (omega arith);
    }
      where
        apart : (x : ℕ) → x ≡ s → (ahead s i < ahead x i → ⊥)
        apart x q m = let z : ahead s i < ahead s i = rw q at m in omega arith

        later : (j : ℕ) → j < 16 → Dec (j ≡ s) → Dec (ahead j i < ahead s i) → n j ≤ most j
        later j hj (yes q) d = rw q h.own
        later j hj (no ne) (yes m) = h.coming j hj ne m
        later j hj (no ne) (no m) = let x = h.gone j hj ne (omega arith) in omega arith

    bound_tick : (b b' c : ℕ) (k : Kernel) (w : Bool) (n : ℕ → ℕ) → current k ≡ c → suc b' ≤ b → Bound b' c n → Bound b c (λ j. tick_of j k (tick w) + n j)
    bound_tick b b' c k w n ec l h = record {
      own = either (λ x. x + n c ≤ b) (eqb (current k) c) (λ _. omega (arith, h.own)) (λ _. omega (arith, h.own));
      coming = λ j hj ne m. apart j ne (h.coming j hj ne m);
      gone = λ j hj ne m. apart j ne (h.gone j hj ne m);
    }
      where
        apart : (j : ℕ) {x : ℕ} → j ≢ c → n j ≤ x → tick_of j k (tick w) + n j ≤ x
        apart j {x} ne m = either (λ y. y + n j ≤ x) (eqb (current k) j) (λ q. absurd (ne (sym (eqb-true (current k) j q) ∙ ec))) (λ _. omega arith)

    bounds : (ms : List Entry) (b c : ℕ) (e : Entry) → current (after e) ≡ c → c < 16 → Steps (e ∷ ms) → Each (At r i) (e ∷ ms) → Apart ms → NoneSmaller ms → Answered ms
        → Enough b e ms → Bound b c (λ j. ticks_while j (after e) ms)
    bounds [] b c e ec hc st al nt nb an en = record { own = omega arith; coming = λ j hj ne l. omega arith; gone = λ j hj ne l. omega arith }
    bounds (m ∷ ms) b c e ec hc st al nt nb an en =
        go (outcome m) st.0 nt.0 nb.0 an.0 en (λ b' c' e' h' en'. bounds ms b' c' m e' h' st.1 al.1 nt.1 nb.1 an.1 en')
      where
        n : ℕ → ℕ
        n j = ticks_while j (after m) ms

        same : {b' : ℕ} → Bound b' c n → Bound b' c (λ j. 0 + n j)
        same h = record { own = omega (arith, h.own); coming = λ j hj ne l. omega (arith, h.coming j hj ne l); gone = λ j hj ne l. omega (arith, h.gone j hj ne l) }

        go : (v : Outcome) → Step (after e) v (after m) → v ≢ turn i → ((s : ℕ) → v ≡ turn s → r ≤ rank (after m) s) → (v ≡ tick true → Next ms) → (budget (after e) ≤ b) ⊎ IsTurn v
            → ((b' c' : ℕ) → current (after m) ≡ c' → c' < 16 → Enough b' m ms → Bound b' c' n) → Bound b c (λ j. tick_of j (after e) v + n j)
        go (turn s) t ne f w g rec =
            let y : ahead s i + ahead c s ≡ ahead c i = rw ec at (forward t (rw ec hc) al.0 (f s refl) (λ q. ne (ap turn q))).0 in
            same (bound_turn b c s n hc t.inside (omega (arith, rounds c s hc t.inside)) (rec (most s) s t.now t.inside (inl t.slice)))
        go (tick true) t ne f w (inl g) rec = bound_tick b 0 c (after e) true n ec (omega (arith, some_tick (current_task (after e)))) (rec 0 c (t.stay ∙ ec) hc (inr (w refl)))
        go (tick false) t ne f w (inl g) rec = bound_tick b (budget (after m)) c (after e) false n ec (omega (arith, t.fall refl)) (rec (budget (after m)) c (t.stay ∙ ec) hc (inl (omega arith)))
        go (tick true) t ne f w (inr g) rec = absurd g
        go (tick false) t ne f w (inr g) rec = absurd g
        go other t ne f w (inl g) rec = same (rec b c (t.stay ∙ ec) hc (inl (omega (arith, t.slice))))
        go other t ne f w (inr g) rec = absurd g

    -- slot j, live and of rank r all along: it has one turn if it is still to come on the way to i, and none if it is past
    module _ (j : ℕ) (hj : j < 16) (jne : j ≢ i) where
      record Count (c n : ℕ) : Type 0 where
        coming : ahead j i < ahead c i → n ≡ 1
        past : ahead c i ≤ ahead j i → n ≡ 0

      count_turn : (c s n : ℕ) → c < 16 → s < 16 → ahead s i + ahead c s ≡ ahead c i → ahead c s ≤ ahead c j → Count s n → Count c (turn_of j (turn s) + n)
      count_turn c s n hc hs y l h = either (λ x. Count c (x + n)) (eqb s j) (λ q. here (eqb-true s j q)) (λ q. elsewhere (eqb-false s j q))
        where
          p : 1 ≤ ahead c s
          p = (rounds c s hc hs).1

          here : s ≡ j → Count c (1 + n)
          here q =
              let z : ahead s i ≡ ahead j i = ap (λ x. ahead x i) q in
              record { coming = λ m. omega (arith, h.past (omega arith)); past = λ m. omega (arith, p) }

          elsewhere : s ≢ j → Count c (0 + n)
          elsewhere ne =
              let v : ahead s i ≢ ahead j i = λ e. ne (same_place i s j hi hs hj e) in
              record {
                coming = λ m. let u = nearer i c j hi hc hj m in let x = h.coming (omega arith) in omega arith;
                past = λ m. let x = h.past (omega (arith, p)) in omega arith;
              }

      counts : (ms : List Entry) (last : Kernel) (c : ℕ) (e : Entry) → current (after e) ≡ c → c < 16 → Steps (e ∷ ms) → Each (At r i) (e ∷ ms) → Each (At r j) (e ∷ ms)
          → Apart ms → NoneSmaller ms → Turn (end (after e) ms) i last → Count c (turns j ms)
      counts [] last c e ec hc st al bl nt nb z =
          let f : ahead c i ≤ ahead c j = rw ec at (z.first j hj bl.0.live (al.0.rank_is ∙ sym bl.0.rank_is)) in
          record { coming = λ m. let u = nearer i c j hi hc hj m in omega (arith, rounds j i hj hi); past = λ m. refl }
      counts (m ∷ ms) last c e ec hc st al bl nt nb z =
          go (outcome m) st.0 nt.0 nb.0 (λ c' e' h'. counts ms last c' m e' h' st.1 al.1 bl.1 nt.1 nb.1 z)
        where
          go : (v : Outcome) → Step (after e) v (after m) → v ≢ turn i → ((s : ℕ) → v ≡ turn s → r ≤ rank (after m) s)
              → ((c' : ℕ) → current (after m) ≡ c' → c' < 16 → Count c' (turns j ms)) → Count c (turn_of j v + turns j ms)
          go (turn s) t ne f rec =
              let fw = forward t (rw ec hc) al.0 (f s refl) (λ q. ne (ap turn q)) in
              let y : ahead s i + ahead c s ≡ ahead c i = rw ec at fw.0 in
              let l : ahead c s ≤ ahead c j = rw ec at (t.first j hj bl.0.live (fw.1 ∙ sym bl.0.rank_is)) in
              count_turn c s (turns j ms) hc t.inside y l (rec s t.now t.inside)
          go (tick w) t ne f rec = let x = rec c (t.stay ∙ ec) hc in record { coming = λ m. omega (arith, x.coming m); past = λ m. omega (arith, x.past m) }
          go other t ne f rec = let x = rec c (t.stay ∙ ec) hc in record { coming = λ m. omega (arith, x.coming m); past = λ m. omega (arith, x.past m) }

    -- `one` gives slot i the first turn, ms are the calls between, and last is the kernel after the second turn
    pub fair : (ms : List Entry) (one : Entry) (last : Kernel) → current (after one) ≡ i → budget (after one) ≤ most i → Steps (one ∷ ms) → Each (At r i) (one ∷ ms) → Apart ms → NoneSmaller ms → Answered ms
        → Turn (end (after one) ms) i last
        → ((j : ℕ) → j < 16 → j ≢ i → Each (At r j) (one ∷ ms) → turns j ms ≡ 1) × ((j : ℕ) → j < 16 → ticks_while j (after one) ms ≤ most j)
    fair ms one last here slice st al nt nb an z = (λ j hj ne bl. (counts j hj ne ms last i one here hi st al bl nt nb z).coming (near j hj ne), λ j hj. go j hj (ℕ_discrete j i))
      where
        near : (j : ℕ) → j < 16 → j ≢ i → ahead j i < ahead i i
        near j hj ne = omega (arith, ahead_self i hi, ahead_other j i hj hi ne)

        b : Bound (most i) i (λ j. ticks_while j (after one) ms)
        b = bounds ms (most i) i one here hi st al nt nb an (inl slice)

        go : (j : ℕ) → j < 16 → Dec (j ≡ i) → ticks_while j (after one) ms ≤ most j
        go j hj (yes q) = rw q b.own
        go j hj (no ne) = b.coming j hj ne (near j hj ne)
