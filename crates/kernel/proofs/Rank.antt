-- Ranks: at most the own number, and it where no mutex has a queue; at most that of a task whose link leads to it; the same where queues, owners, ids, own numbers and
-- who is Blocked are the same. Each link goes to the owner of one of four mutexes and none is met twice, so a chain has at most four links.
use Prim.Native.Nat.{ℕ, zero, suc, ◌≤◌, ◌<◌, zero-le}
use native.Mathlib.Omega.{arith}
use native.Mathlib.Decide.{ℕ_discrete}
use mathlib.Core.Path.{◌≡◌, refl, sym, ap, subst, ◌∙◌}
use mathlib.Core.Bool.{Bool, true, false, ◌&&◌, ◌||◌, not, false≢true}
use mathlib.Core.List.{List, [], ◌∷◌}
use mathlib.Core.Logic.{◌⊎◌, inl, inr}
use lib.Dec.{eqb, leb, ltb}
use lib.ListN.{length}
use borrow.Author.Tests.{leb-false, le-leb, lt-leb, eqb-true, eq-eqb, ne_eqb, ltb-true, lt-ltb, le-ltb}
use Rattle.base.specs.Choice.{if◌then◌otherwise◌}
use Rattle.base.specs.Below.{count_below, lowest_below, smallest_below}
use Rattle.base.proofs.Choices.{either, and_right, or_left, or_right}
use Rattle.base.proofs.Loops.{all_at, count_le, count_fewer, lowest_only, lowest_same, lowest_none, smallest_le, smallest_at, smallest_least, smallest_same, smallest_none, set_each}
use Rattle.kernel.specs.Types.{TaskId, Option, None, Some, Ready, Running, Blocked, TaskControl, WaitQueue, Kernel}
use Rattle.kernel.specs.Control.{state_number, in_state, holds_task, entered, blank_slot}
use Rattle.kernel.specs.WaitQueue.{position, waits_at, contains, is_empty}
use Rattle.kernel.specs.Kernel.{slot, current, slot_of, mutex}
use Rattle.kernel.specs.Scheduler.{context_saved, reloaded, save_context, dispatched}
use Rattle.kernel.specs.Rank.{priority_of, queued_at, owner_slot, link, no_queues, chain, is_in, leads_to, rank}

clash : {A : Type 0} {b : Bool} → b ≡ true → b ≡ false → A
clash e f = absurd (false≢true (sym f ∙ e))

-- ---- chains by any links

-- one link of a chain: it ends, or goes on
pub chain_ends : (to : ℕ → ℕ) (n : ℕ) (met : ℕ → Bool) (j : ℕ) → (leb 16 (to j) || met (to j)) ≡ true → chain to n met j ≡ []
unfolding chain if◌then◌otherwise◌
chain_ends to zero met j e = refl
chain_ends to (suc n) met j e = rw e

pub chain_more : (to : ℕ → ℕ) (n : ℕ) (met : ℕ → Bool) (j : ℕ) → (leb 16 (to j) || met (to j)) ≡ false → chain to (suc n) met j ≡ to j ∷ chain to n (λ i. met i || eqb i (to j)) (to j)
unfolding chain if◌then◌otherwise◌
chain_more to n met j e = rw e

pub chain_none : (to : ℕ → ℕ) (n : ℕ) (met : ℕ → Bool) (j : ℕ) → 16 ≤ to j → chain to n met j ≡ []
chain_none to n met j h = chain_ends to n met j (rw (le-leb 16 (to j) h))

ends_or_goes_on : (P : List ℕ → Type 0) (to : ℕ → ℕ) (n : ℕ) (met : ℕ → Bool) (j : ℕ) → P [] → (to j < 16 → met (to j) ≡ false → P (to j ∷ chain to n (λ i. met i || eqb i (to j)) (to j))) → P (chain to (suc n) met j)
unfolding chain
ends_or_goes_on P to n met j p q = either P (leb 16 (to j) || met (to j)) (λ _. p) (λ e. q (leb-false 16 (to j) (or_left _ _ e)) (or_right (leb 16 (to j)) _ e))

pub chain_zero : (to : ℕ → ℕ) (met : ℕ → Bool) (j : ℕ) → chain to 0 met j ≡ []
unfolding chain
chain_zero to met j = refl

or_on : (b : Bool) → (b || true) ≡ true
or_on true = refl
or_on false = refl

or_cases : (a b : Bool) → (a || b) ≡ true → (a ≡ true) ⊎ (b ≡ true)
or_cases true b e = inl refl
or_cases false b e = inr e

-- its first slot, unless that was met
chain_first : (to : ℕ → ℕ) (n : ℕ) (met : ℕ → Bool) (j : ℕ) → 0 < n → to j < 16 → (is_in (to j) (chain to n met j) ≡ true) ⊎ (met (to j) ≡ true)
chain_first to zero met j z h = absurd (omega arith)
chain_first to (suc n) met j z h = go (met (to j)) refl
  where
    go : (b : Bool) → met (to j) ≡ b → (is_in (to j) (chain to (suc n) met j) ≡ true) ⊎ (b ≡ true)
    go true e = inr refl
    go false e = inl (rw (chain_more to n met j (rw (lt-leb 16 (to j) h, e)), eq-eqb (to j) (to j) refl))

-- two chains that end at the same place, and go on alike
alike : (b : Bool) (x : ℕ) {xs ys : List ℕ} → (b ≡ false → xs ≡ ys) → (if b then [] otherwise x ∷ xs) ≡ (if b then [] otherwise x ∷ ys)
unfolding if◌then◌otherwise◌
alike true x f = refl
alike false x f = ap (λ c. x ∷ c) (f refl)

ends_alike : (o : ℕ) (b b' : Bool) → (o < 16 → b ≡ b') → (leb 16 o || b) ≡ (leb 16 o || b')
ends_alike o b b' f = go (leb 16 o) refl
  where
    go : (c : Bool) → leb 16 o ≡ c → (c || b) ≡ (c || b')
    go true e = refl
    go false e = f (leb-false 16 o e)

-- links and met slots that agree below 16
pub chain_same : (to to' : ℕ → ℕ) (n : ℕ) (met met' : ℕ → Bool) (j : ℕ) → ((x : ℕ) → x < 16 → to x ≡ to' x) → ((x : ℕ) → x < 16 → met x ≡ met' x) → j < 16 → chain to n met j ≡ chain to' n met' j
unfolding chain
chain_same to to' zero met met' j f g h = refl
chain_same to to' (suc n) met met' j f g h =
    rw (f j h, ends_alike (to' j) (met (to' j)) (met' (to' j)) (g (to' j)))
    (alike (leb 16 (to' j) || met' (to' j)) (to' j) (λ e. chain_same to to' n (λ i. met i || eqb i (to' j)) (λ i. met' i || eqb i (to' j)) (to' j) f (λ x m. ap (λ b. b || eqb x (to' j)) (g x m)) (leb-false 16 (to' j) (or_left _ _ e))))

pub leads_same : (to to' : ℕ → ℕ) (i j : ℕ) → ((x : ℕ) → x < 16 → to x ≡ to' x) → j < 16 → leads_to to i j ≡ leads_to to' i j
unfolding leads_to
leads_same to to' i j f h = ap (is_in i) (chain_same to to' 16 (λ x. eqb x j) (λ x. eqb x j) j f (λ _ _. refl) h)

pub leads_none : (to : ℕ → ℕ) (i j : ℕ) → 16 ≤ to j → leads_to to i j ≡ false
unfolding leads_to
leads_none to i j h = ap (is_in i) (chain_none to 16 (λ x. eqb x j) j h)

-- ---- each link goes to the owner of one of four mutexes

module _ (to owners : ℕ → ℕ) (owned : (j : ℕ) → to j < 16 → (m : ℕ) × (m < 4) × (owners m ≡ to j)) where
  -- mutex m has an owner whom the chain has not met
  abbrev unmet : (ℕ → Bool) → ℕ → Bool
  unmet met m = not (leb 16 (owners m) || met (owners m))

  -- with each link they are fewer
  fewer : (met : ℕ → Bool) (j : ℕ) → to j < 16 → met (to j) ≡ false → count_below (unmet (λ i. met i || eqb i (to j))) 4 < count_below (unmet met) 4
  fewer met j h e =
      let m = owned j h in
      count_fewer (unmet met) (unmet (λ i. met i || eqb i (to j))) 4 m.0 m.1 (rw (m.2, lt-leb 16 (to j) h, e)) (rw (m.2, eq-eqb (to j) (to j) refl) (or_true (leb 16 (to j)) (met (to j))))
      (λ i q. still (leb 16 (owners i)) (met (owners i)) (eqb (owners i) (to j)) q)
    where
      or_true : (a b : Bool) → not (a || (b || true)) ≡ false
      or_true true b = refl
      or_true false true = refl
      or_true false false = refl

      still : (a b c : Bool) → not (a || (b || c)) ≡ true → not (a || b) ≡ true
      still true b c q = q
      still false true c q = q
      still false false c q = refl

  pub chain_short : (n : ℕ) (met : ℕ → Bool) (j : ℕ) → length (chain to n met j) ≤ count_below (unmet met) 4
  chain_short zero met j = rw (chain_zero to met j) zero-le
  chain_short (suc n) met j = ends_or_goes_on (λ c. length c ≤ count_below (unmet met) 4) to n met j zero-le (λ h e. let s = chain_short n (λ i. met i || eqb i (to j)) (to j) in omega (arith, s, fewer met j h e))

  all_met : (n : ℕ) (met : ℕ → Bool) (j : ℕ) → count_below (unmet met) 4 ≤ 0 → chain to n met j ≡ []
  all_met zero met j h = chain_zero to met j
  all_met (suc n) met j h = ends_or_goes_on (λ c. c ≡ []) to n met j refl (λ l e. let f = fewer met j l e in absurd (omega (arith, f, h)))

  -- so many links are enough: more do not make a chain longer
  pub chain_whole : (n n' : ℕ) (met : ℕ → Bool) (j : ℕ) → count_below (unmet met) 4 ≤ n → count_below (unmet met) 4 ≤ n' → chain to n met j ≡ chain to n' met j
  unfolding chain
  chain_whole zero n' met j h g = sym (all_met n' met j h)
  chain_whole (suc n) zero met j h g = all_met (suc n) met j g
  chain_whole (suc n) (suc n') met j h g =
      alike (leb 16 (to j) || met (to j)) (to j)
      (λ e. let f = fewer met j (leb-false 16 (to j) (or_left _ _ e)) (or_right (leb 16 (to j)) _ e) in
      chain_whole n n' (λ i. met i || eqb i (to j)) (to j) (omega (arith, f, h)) (omega (arith, f, g)))

  -- a chain that leads to j leads on to where j's link goes, or has met that slot
  chain_on : (n : ℕ) (met : ℕ → Bool) (x j : ℕ) → count_below (unmet met) 4 < n → to j < 16 → is_in j (chain to n met x) ≡ true → (is_in (to j) (chain to n met x) ≡ true) ⊎ (met (to j) ≡ true)
  chain_on zero met x j c h = absurd (omega arith)
  chain_on (suc n) met x j c h =
      ends_or_goes_on (λ xs. is_in j xs ≡ true → (is_in (to j) xs ≡ true) ⊎ (met (to j) ≡ true)) to n met x (λ e. clash e refl)
      (λ l e q. let f = fewer met x l e in met_or_in (ℕ_discrete (to x) j) (omega (arith, f, c)) q (chain_on n (λ i. met i || eqb i (to x)) (to x) j (omega (arith, f, c)) h))
    where
      rest : List ℕ
      rest = chain to n (λ i. met i || eqb i (to x)) (to x)

      -- in the rest, met before, or met just now
      before : (met (to j) ≡ true) ⊎ (eqb (to j) (to x) ≡ true) → (is_in (to j) (to x ∷ rest) ≡ true) ⊎ (met (to j) ≡ true)
      before (inl m) = inr m
      before (inr m) = inl (rw (eq-eqb (to x) (to j) (sym (eqb-true (to j) (to x) m))))

      one_of : (is_in (to j) rest ≡ true) ⊎ ((met (to j) || eqb (to j) (to x)) ≡ true) → (is_in (to j) (to x ∷ rest) ≡ true) ⊎ (met (to j) ≡ true)
      one_of (inl i) = inl (rw i (or_on (eqb (to x) (to j))))
      one_of (inr i) = before (or_cases (met (to j)) _ i)

      met_or_in : Dec (to x ≡ j) → 0 < n → is_in j (to x ∷ rest) ≡ true → (is_in j rest ≡ true → (is_in (to j) rest ≡ true) ⊎ ((met (to j) || eqb (to j) (to x)) ≡ true)) → (is_in (to j) (to x ∷ rest) ≡ true) ⊎ (met (to j) ≡ true)
      met_or_in (yes p) z q ih = one_of (subst (λ (y : ℕ). (is_in (to y) rest ≡ true) ⊎ ((met (to y) || eqb (to y) (to x)) ≡ true)) p (chain_first to n (λ i. met i || eqb i (to x)) (to x) z (rw p h)))
      met_or_in (no p) z q ih = one_of (ih (rw (ne_eqb (to x) j p) at q))

  -- so the smallest of any numbers, taken over a slot and those that lead to it, is at most as large for the slot that the link goes to
  pub smallest_on : (own : ℕ → ℕ) (j : ℕ) → j < 16 → to j < 16 → smallest_below (leads_to to (to j)) own (own (to j)) 16 ≤ smallest_below (leads_to to j) own (own j) 16
  unfolding leads_to
  smallest_on own j h l = smallest_least _ _ own (own j) 16 (from j h (chain_first to 16 (λ x. eqb x j) j (omega arith) l)) (λ x g e. from x g (chain_on 16 (λ y. eqb y x) x j (enough (λ y. eqb y x)) l e))
    where
      enough : (met : ℕ → Bool) → count_below (unmet met) 4 < 16
      enough met = let c : count_below (unmet met) 4 ≤ 4 = count_le (unmet met) 4 in omega (arith, c)

      from : (x : ℕ) → x < 16 → (is_in (to j) (chain to 16 (λ y. eqb y x) x) ≡ true) ⊎ (eqb (to j) x ≡ true) → smallest_below (leads_to to (to j)) own (own (to j)) 16 ≤ own x
      from x g (inl e) = smallest_at (leads_to to (to j)) own (own (to j)) 16 x g e
      from x g (inr e) = let q : to j ≡ x = eqb-true (to j) x e in rw (← q) (smallest_le (leads_to to (to j)) own (own (to j)) 16)

-- ---- of a kernel

pub rank_le : (k : Kernel) (i : ℕ) → rank k i ≤ priority_of k i
unfolding rank
rank_le k i = smallest_le (leads_to (link k) i) (priority_of k) (priority_of k i) 16

empty_contains : (q : WaitQueue) (a : TaskId) → is_empty q ≡ true → contains q a ≡ false
unfolding position
empty_contains q a e =
    let n : lowest_below (waits_at q a) 8 ≡ 8 = lowest_none (waits_at q a) 8 (λ j h. rw (le-ltb j q.len (omega (arith, eqb-true q.len 0 e)))) in
    rw n

no_link : (k : Kernel) → no_queues k ≡ true → (j : ℕ) → link k j ≡ 16
unfolding link if◌then◌otherwise◌ no_queues
no_link k e j =
    let n : queued_at k (slot k j).id ≡ 4 = lowest_none _ 4 (λ m h. empty_contains (mutex k m).waiters (slot k j).id (all_at _ 4 m e h)) in
    rw n (off (holds_task Blocked (slot k j)) _)
  where
    off : (b : Bool) (x : ℕ) → (if b && false then x otherwise 16) ≡ 16
    off true x = refl
    off false x = refl

pub rank_own : (k : Kernel) → no_queues k ≡ true → (i : ℕ) → rank k i ≡ priority_of k i
unfolding rank
rank_own k e i = smallest_none (leads_to (link k) i) (priority_of k) (priority_of k i) 16 (λ j _. leads_none (link k) i j (omega (arith, no_link k e j)))

-- a link goes only from a Blocked task
pub link_none : (k : Kernel) (j : ℕ) → holds_task Blocked (slot k j) ≡ false → link k j ≡ 16
unfolding link if◌then◌otherwise◌
link_none k j e = rw e

-- and by mutex m, the lowest at which it is queued
pub link_by : (k : Kernel) (j m : ℕ) → m < 4 → holds_task Blocked (slot k j) ≡ true → contains (mutex k m).waiters (slot k j).id ≡ true → ((n : ℕ) → n < m → contains (mutex k n).waiters (slot k j).id ≡ false)
    → link k j ≡ owner_slot k (mutex k m).owner
unfolding link if◌then◌otherwise◌
link_by k j m h b e f =
    let q : queued_at k (slot k j).id ≡ m = lowest_only (λ n. contains (mutex k n).waiters (slot k j).id) 4 m h e f in
    rw (q, b, lt-ltb m 4 h)

-- a link goes to an owner
link_owned : (k : Kernel) (j : ℕ) → link k j < 16 → (m : ℕ) × (m < 4) × (owner_slot k (mutex k m).owner ≡ link k j)
unfolding link
link_owned k j =
    let m = queued_at k (slot k j).id in
    either (λ o. o < 16 → (m : ℕ) × (m < 4) × (owner_slot k (mutex k m).owner ≡ o)) (holds_task Blocked (slot k j) && ltb m 4) (λ e _. (m, ltb-true m 4 (and_right (holds_task Blocked (slot k j)) _ e), refl)) (λ _ h. absurd (omega arith))

module _ (k : Kernel) where
  abbrev owners : ℕ → ℕ
  owners m = owner_slot k (mutex k m).owner

  pub at_most_four : (n : ℕ) (met : ℕ → Bool) (j : ℕ) → length (chain (link k) n met j) ≤ 4
  at_most_four n met j =
      let s = chain_short (link k) owners (link_owned k) n met j in
      let l : count_below (unmet (link k) owners (link_owned k) met) 4 ≤ 4 = count_le (unmet (link k) owners (link_owned k) met) 4 in
      omega (arith, s, l)

  pub four_enough : (n : ℕ) (met : ℕ → Bool) (j : ℕ) → 4 ≤ n → chain (link k) n met j ≡ chain (link k) 4 met j
  four_enough n met j h =
      let l : count_below (unmet (link k) owners (link_owned k) met) 4 ≤ 4 = count_le (unmet (link k) owners (link_owned k) met) 4 in
      chain_whole (link k) owners (link_owned k) n 4 met j (omega (arith, l)) l

  pub rank_on : (j : ℕ) → j < 16 → link k j < 16 → rank k (link k j) ≤ rank k j
  unfolding rank
  rank_on = smallest_on (link k) owners (link_owned k) (priority_of k)

-- ---- kernels of the same ranks

-- what ranks read of a task
record SameTask (t t' : TaskControl) : Type 0 where
  occupied : t'.occupied ≡ t.occupied
  id : t'.id ≡ t.id
  blocked : in_state Blocked t' ≡ in_state Blocked t
  number : t'.priority.0 ≡ t.priority.0

same_task : (t : TaskControl) → SameTask t t
same_task t = record { occupied = refl; id = refl; blocked = refl; number = refl }

module _ (k k' : Kernel) (mutexes : k'.mutexes ≡ k.mutexes) (each : (j : ℕ) → SameTask (slot k j) (slot k' j)) where
  same_slot : (a : TaskId) → slot_of k' a ≡ slot_of k a
  unfolding slot_of
  same_slot a = lowest_same _ _ 16 (λ j h. rw ((each j).occupied, (each j).id))

  same_owner : (o : Option TaskId) → owner_slot k' o ≡ owner_slot k o
  same_owner None = refl
  same_owner (Some a) = same_slot a

  same_link : (j : ℕ) → link k' j ≡ link k j
  unfolding link holds_task
  same_link j = rw (same_owner, (each j).occupied, (each j).id, (each j).blocked, mutexes)

  rank_same : (i : ℕ) → rank k' i ≡ rank k i
  unfolding rank
  rank_same i = rw (each i).number (smallest_same _ _ _ _ (priority_of k i) 16 (λ j h. leads_same (link k') (link k) i j (λ x _. same_link x) h) (λ j _. (each j).number))

not_blocked : (t : TaskControl) (n : ℕ) → eqb (state_number t.state) n ≡ true → (n ≡ 2 → ⊥) → in_state Blocked t ≡ false
not_blocked t n e f = go (in_state Blocked t) refl
  where
    go : (b : Bool) → in_state Blocked t ≡ b → b ≡ false
    go true q = absurd (f (sym (eqb-true _ _ e) ∙ eqb-true _ _ q))
    go false q = refl

-- switch's own change of the task that leaves: its sp, and Running into Ready
saved_same : (sp : ℕ) (t : TaskControl) → SameTask t (context_saved sp t)
unfolding context_saved
saved_same sp t =
    either (SameTask t) (in_state Running t) (λ e. record { occupied = refl; id = refl; blocked = sym (not_blocked t 1 e (λ q. omega arith)); number = refl }) (λ _. record { occupied = refl; id = refl; blocked = refl; number = refl })

pub rank_saved : (sp : ℕ) (k : Kernel) (i : ℕ) → rank (save_context sp k) i ≡ rank k i
rank_saved sp k = rank_same k (save_context sp k) refl (set_each (λ j t. SameTask (slot k j) t) blank_slot k.tasks (current k) _ (saved_same sp _) (λ j. same_task _))

-- and the pick's, where it found a Ready task
run_same : (t : TaskControl) → holds_task Ready t ≡ true → SameTask t (entered Running (reloaded t))
unfolding reloaded holds_task
run_same t e =
    let n = not_blocked t 0 (and_right t.occupied _ e) (λ q. omega arith) in
    either (λ x. SameTask t (entered Running x)) (eqb t.remaining_slice 0) (λ _. record { occupied = refl; id = refl; blocked = sym n; number = refl }) (λ _. record { occupied = refl; id = refl; blocked = sym n; number = refl })

pub rank_dispatched : (s : ℕ) (k : Kernel) → holds_task Ready (slot k s) ≡ true → (i : ℕ) → rank (dispatched s reloaded k) i ≡ rank k i
rank_dispatched s k e = rank_same k (dispatched s reloaded k) refl (set_each (λ j t. SameTask (slot k j) t) blank_slot k.tasks s _ (run_same (slot k s) e) (λ j. same_task _))
