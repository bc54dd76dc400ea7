-- The walk: each link passes the number on to one slot more, and the rest of the chain goes on with that slot met. Then every slot's walk, and the links.
use Prim.Native.Nat.{ℕ, zero, suc, ◌+◌, ◌-◌, ◌≤◌, ◌<◌, min}
use native.Mathlib.Omega.{arith}
use native.Mathlib.Nat.{le_refl}
use native.Mathlib.Decide.{ℕ_discrete, dec_lt}
use native.Mathlib.Numerals.{add-one, sub-one}
use mathlib.Core.Path.{◌≡◌, refl, sym, ap, ◌∙◌}
use mathlib.Core.Bool.{Bool, true, false, false≢true, cond, ◌&&◌, ◌||◌}
use mathlib.Core.List.{List, []}
use lib.Dec.{eqb, leb, ltb}
use lib.ListN.{length, get_or, set, replicate, get_or-eq_default}
use lib.Seq.{get_or-set_same, get_or-set_other}
use borrow.Author.Tests.{ltb-true, lt-ltb, le-ltb, le-leb, lt-leb, eq-eqb, ne_eqb}
use Rattle.base.specs.Choice.{if◌then◌otherwise◌}
use Rattle.base.specs.Below.{smallest_below, tabulate}
use Rattle.base.proofs.Choices.{either}
use Rattle.base.proofs.Lists.{position_is}
use Rattle.kernel.specs.WaitQueue.{contains}
use Rattle.base.proofs.Loops.{lowest_le, smallest_same, tabulate_length, tabulate_at}
use Rattle.kernel.specs.declared.control.TaskId.{TaskId}
use Rattle.kernel.specs.Types.{Option, None, Some}
use Rattle.std.specs.Option.{is_some, unwrap_or, option_and_then, IfSome}
use Rattle.std.specs.List.{position}
use Rattle.kernel.specs.declared.control.TaskState.TheVariants.{Blocked}
use Rattle.kernel.specs.declared.scheduler.Kernel.{Kernel}
use Rattle.kernel.specs.Control.{holds_task}
use Rattle.kernel.specs.Kernel.{slot, slot_of, holds_id, mutex}
use Rattle.kernel.specs.Rank.{priority_of, queued_at, owner_slot, link, chain, is_in, leads_to, rank}
use Rattle.kernel.proofs.Rank.{chain_ends, chain_more, chain_zero, chain_same, leads_same, leads_none}
use Rattle.leaf_rank.specs.Inherited.{some_slot, link_of, Slots, Each, link_at, inherited_by, inherited_from, Inherited}

-- ---- the walk

-- one more slot met
met_more : (met : List Bool) (y x : ℕ) → y < length met → get_or (set met y true) x false ≡ (get_or met x false || eqb x y)
met_more met y x h = go (ℕ_discrete x y)
  where
    on : (b : Bool) → true ≡ (b || true)
    on true = refl
    on false = refl

    off : (b : Bool) → b ≡ (b || false)
    off true = refl
    off false = refl

    go : Dec (x ≡ y) → get_or (set met y true) x false ≡ (get_or met x false || eqb x y)
    go (yes e) = rw (e, get_or-set_same met y true false h, eq-eqb y y refl) (on (get_or met y false))
    go (no n) = rw (get_or-set_other met y x true false n, ne_eqb x y n) (off (get_or met x false))

-- a walk that ends passes on to nobody
module _ (links : List (Option ℕ)) (met : List Bool) (ranks : List ℕ) (number j left i : ℕ) where
  walk_ends : chain (link_at links) left (λ x. get_or met x false) j ≡ [] → get_or ranks i 0 ≡ inherited_by links met ranks number j left i
  unfolding if◌then◌otherwise◌ inherited_by
  walk_ends e = rw e

  pub walk_none : left ≡ 0 → get_or ranks i 0 ≡ inherited_by links met ranks number j left i
  walk_none e = walk_ends (rw e (chain_zero (link_at links) (λ x. get_or met x false) j))

  pub walk_out : ((x : ℕ) → get_or links j None ≡ Some x → ⊥) → get_or ranks i 0 ≡ inherited_by links met ranks number j left i
  walk_out f = walk_ends (chain_ends (link_at links) left (λ x. get_or met x false) j (rw (le-leb 16 (link_at links j) (none_at (get_or links j None) f))))
    where
      none_at : (o : Option ℕ) → ((x : ℕ) → o ≡ Some x → ⊥) → 16 ≤ unwrap_or o 16
      none_at None g = le_refl 16
      none_at (Some x) g = absurd (g x refl)

  pub walk_met : (to : ℕ) → get_or links j None ≡ Some to → get_or met to false ≡ true → get_or ranks i 0 ≡ inherited_by links met ranks number j left i
  walk_met to s e = walk_ends (chain_ends (link_at links) left (λ x. get_or met x false) j (rw (s, e) (on (leb 16 to))))
    where
      on : (b : Bool) → (b || true) ≡ true
      on true = refl
      on false = refl

-- the number taken once or twice
twice : (b : Bool) (x n : ℕ) → (if b then min (min x n) n otherwise min x n) ≡ min x n
unfolding if◌then◌otherwise◌
twice true x n = omega arith
twice false x n = refl

pub walk_more : (links : List (Option ℕ)) (met : List Bool) (ranks : List ℕ) (number j left i y to : ℕ) → Slots links → get_or links j None ≡ Some to → y ≡ min (get_or ranks to 0) number → length met ≡ 16 → length ranks ≡ 16 → (left ≡ 0 → ⊥) → get_or met to false ≡ false
    → inherited_by links (set met to true) (set ranks to y) number to (left - 1) i ≡ inherited_by links met ranks number j left i
unfolding if◌then◌otherwise◌ inherited_by
walk_more links met ranks number j zero i y to ls s q lm lr f e = absurd (f refl)
walk_more links met ranks number j (suc n) i y to ls s q lm lr f e =
    let h : to < 16 = rw s at (ls.slots j) in
    rw (chain_more (link_at links) n (λ x. get_or met x false) j (rw (s, lt-leb 16 to h, e)), s, sub-one (suc n), chain_same (link_at links) (link_at links) n (λ x. get_or (set met to true) x false) (λ x. get_or met x false || eqb x to) to (λ _ _. refl) (λ x _. met_more met to x (omega arith)) h)
    (go h (is_in i (chain (link_at links) n (λ x. get_or met x false || eqb x to) to)) (ℕ_discrete i to))
  where
    go : to < 16 → (rest : Bool) → Dec (i ≡ to) → (if rest then min (get_or (set ranks to y) i 0) number otherwise get_or (set ranks to y) i 0) ≡ (if eqb to i || rest then min (get_or ranks i 0) number otherwise get_or ranks i 0)
    go h rest (yes g) = rw (← g, get_or-set_same ranks i y 0 (omega arith), eq-eqb i i refl, q, ← g) (twice rest (get_or ranks i 0) number)
    go h rest (no g) = rw (get_or-set_other ranks to i y 0 g, ne_eqb to i (λ s. g (sym s)))

-- ---- the walk from slot j, and every slot's

all_false : (n x : ℕ) → get_or (replicate n false) x false ≡ false
all_false zero x = refl
all_false (suc n) zero = refl
all_false (suc n) (suc x) = all_false n x

pub walk_from : (links : List (Option ℕ)) (ranks : List ℕ) (number j i r : ℕ) → j < 16 → r ≡ inherited_by links (set (replicate 16 false) j true) ranks number j 16 i → r ≡ inherited_from links ranks number j i
unfolding inherited_by inherited_from leads_to
walk_from links ranks number j i r h e =
    e ∙ ap (λ c. if is_in i c then min (get_or ranks i 0) number otherwise get_or ranks i 0)
    (chain_same (link_at links) (link_at links) 16 _ (λ x. eqb x j) j (λ _ _. refl) (λ x _. met_more (replicate 16 false) j x (omega arith) ∙ ap (λ b. b || eqb x j) (all_false 16 x)) h)

pub no_walk : (links : List (Option ℕ)) (ranks : List ℕ) (number j i : ℕ) → is_some (get_or links j None) ≡ false → get_or ranks i 0 ≡ inherited_from links ranks number j i
unfolding inherited_from if◌then◌otherwise◌
no_walk links ranks number j i e = rw (leads_none (link_at links) i j (none (get_or links j None) e))
  where
    none : (o : Option ℕ) → is_some o ≡ false → 16 ≤ unwrap_or o 16
    none None g = le_refl 16
    none (Some x) g = absurd (false≢true (sym g))

pub inherited_none : (links : List (Option ℕ)) (own : List ℕ) → length own ≡ 16 → Inherited links own own 0
unfolding smallest_below
inherited_none links own e = record { long = e; each = λ i h. refl }

pub inherited_more : (links : List (Option ℕ)) (own ranks next : List ℕ) (n : ℕ) → Inherited links own ranks n → Each 16 (inherited_from links ranks (get_or own n 0) n) next → Inherited links own next (n + 1)
unfolding smallest_below inherited_from
inherited_more links own ranks next n l f = record { long = f.long; each = λ i g. f.each i g ∙ rw (add-one n, l.each i g) }

pub inherited_done : (links : List (Option ℕ)) (own ranks : List ℕ) (n : ℕ) → n ≤ 16 → Inherited links own ranks n → 16 ≤ n → Inherited links own ranks 16
inherited_done links own ranks n b l h = let e : n ≡ 16 = omega arith in rw e at l

-- ---- of a kernel

some_below : (n : ℕ) → IfSome (some_slot n) (λ i. i < 16)
unfolding if◌then◌otherwise◌
some_below n =
    elim (dec_lt n 16) [
      | yes h ↦ rw (lt-ltb n 16 h) h
      | no h ↦ rw (le-ltb n 16 (omega arith)) tt
    ]

some_place : (n : ℕ) → n ≤ 16 → unwrap_or (some_slot n) 16 ≡ n
unfolding if◌then◌otherwise◌
some_place n l =
    elim (dec_lt n 16) [
      | yes h ↦ rw (lt-ltb n 16 h) refl
      | no h ↦ rw (le-ltb n 16 (omega arith)) (omega arith)
    ]

-- an answer that says which slot, or none for 16
pub some_is : (r : Option ℕ) (n : ℕ) → unwrap_or r 16 ≡ n → IfSome r (λ i. i < 16) → r ≡ some_slot n
unfolding if◌then◌otherwise◌
some_is None n e b = rw (← e)
some_is (Some i) n e b = rw (← e, lt-ltb i 16 b)

owner_le : (k : Kernel) (o : Option TaskId) → owner_slot k o ≤ 16
unfolding slot_of
owner_le k None = le_refl 16
owner_le k (Some a) = lowest_le (λ i. holds_id a (slot k i)) 16

link_le : (k : Kernel) (j : ℕ) → link k j ≤ 16
unfolding link
link_le k j = either (λ o. o ≤ 16) (holds_task Blocked (slot k j) && ltb (queued_at k (slot k j).id) 4) (λ _. owner_le k (mutex k (queued_at k (slot k j).id)).owner) (λ _. le_refl 16)

pub links_slots : (k : Kernel) (links : List (Option ℕ)) → links ≡ tabulate (λ j. some_slot (link k j)) 16 → Slots links
links_slots k links e = record { slots = λ j. rw e (go j (dec_lt j 16)) }
  where
    f : ℕ → Option ℕ
    f j = some_slot (link k j)

    go : (j : ℕ) → Dec (j < 16) → IfSome (get_or (tabulate f 16) j None) (λ i. i < 16)
    go j (yes h) = rw (tabulate_at f None 16 j h) (some_below (link k j))
    go j (no n) = rw (get_or-eq_default (tabulate f 16) None {n = j} (omega (arith, tabulate_length f 16, n))) tt

-- the link of slot j, by the slots of the owners
pub link_is : (k : Kernel) (j : ℕ) (owners : List (Option ℕ)) → length k.mutexes ≡ 4 → owners ≡ tabulate (λ m. some_slot (owner_slot k (mutex k m).owner)) 4 → link_of (slot k j) k.mutexes owners ≡ some_slot (link k j)
unfolding link link_of if◌then◌otherwise◌
link_is k j owners l e =
    let at : position (λ m. contains m.waiters (slot k j).id) k.mutexes ≡ cond (ltb (queued_at k (slot k j).id) 4) (Some (queued_at k (slot k j).id)) None = position_is _ k.mutexes _ 4 l in
    rw at (go (queued_at k (slot k j).id) (holds_task Blocked (slot k j)) (ltb (queued_at k (slot k j).id) 4) refl)
  where
    go : (m : ℕ) (h x : Bool) → ltb m 4 ≡ x → (if h then option_and_then (λ o. get_or owners o None) (cond x (Some m) None) otherwise None) ≡ some_slot (if h && x then owner_slot k (mutex k m).owner otherwise 16)
    go m true true b = rw e (tabulate_at (λ o. some_slot (owner_slot k (mutex k o).owner)) None 4 m (ltb-true _ _ b))
    go m true false b = refl
    go m false x b = refl

pub ranks_are : (k : Kernel) (links : List (Option ℕ)) (own ranks : List ℕ) → links ≡ tabulate (λ j. some_slot (link k j)) 16 → own ≡ tabulate (priority_of k) 16 → Inherited links own ranks 16 → Each 16 (rank k) ranks
unfolding rank
ranks_are k links own ranks a o l = record {
  long = l.long;
  each = λ i h. l.each i h ∙ rw (numbers i h) (smallest_same (leads_to (link_at links) i) (leads_to (link k) i) (λ j. get_or own j 0) (priority_of k) (priority_of k i) 16 (λ j g. leads_same (link_at links) (link k) i j to g) numbers);
}
  where
    to : (j : ℕ) → j < 16 → link_at links j ≡ link k j
    to j g = rw (a, tabulate_at (λ x. some_slot (link k x)) None 16 j g) (some_place (link k j) (link_le k j))

    numbers : (j : ℕ) → j < 16 → get_or own j 0 ≡ priority_of k j
    numbers j g = rw o (tabulate_at (priority_of k) 0 16 j g)
