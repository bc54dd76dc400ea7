-- The turn guarantee where no mutex has a queue: a task that stays keeps its priority, which is its rank.
use mathlib.Core.Path.{◌≡◌, refl, sym, ◌∙◌}
use mathlib.Core.List.{List, [], ◌∷◌, ◌++◌}
use Prim.Native.Nat.{ℕ}
use native.Mathlib.Omega.{arith}
use Rattle.kernel.specs.declared.control.TaskId.{TaskId}
use Rattle.kernel.specs.Rank.{priority_of, rank}
use Rattle.kernel.specs.Calls.{init}
use Rattle.kernel.proofs.Rank.{rank_own}
use Rattle.book_guarantees.specs.Lists.{Entry, after, Each}
use Rattle.book_guarantees.specs.Turns.{Holds, Stays, Stretch, Peer, Unchanging, TurnGuaranteeByPriority}
use Rattle.book_guarantees.proofs.TurnGuarantee.{turn_guarantee, init_invariant, Chain, chain_from}

-- ---- where no mutex has a queue

-- a task that stays keeps its priority
stays_priority : (r j : ℕ) (a : TaskId) (e : Entry) (es fs : List Entry) → Chain (e ∷ (es ++ fs)) → Each (λ x. Holds j a (after x)) (e ∷ es) → priority_of (after e) j ≡ r
    → Each (λ x. priority_of (after x) j ≡ r) es
stays_priority r j a e [] fs c h q = tt
stays_priority r j a e (f ∷ es) fs c h q = let x = c.0.priority j h.0.present h.1.0.present ∙ q in (x, stays_priority r j a f es fs c.1 h.1 x)

each_with : {P Q R : Entry → Type 0} → ((e : Entry) → P e → Q e → R e) → (es : List Entry) → Each P es → Each Q es → Each R es
each_with f [] p q = tt
each_with f (e ∷ es) p q = (f e p.0 q.0, each_with f es p.1 q.1)

pub turn_guarantee_by_priority : TurnGuaranteeByPriority
turn_guarantee_by_priority hz words accepted before between rest one two returned empty i a s =
    let f = turn_guarantee hz words accepted before between rest one two returned i a by_rank (same i a s.stays) in
    record { one_turn = λ j b q. f.one_turn j b (peer j b q); peers = λ j b q. f.peers j b (peer j b q); own = f.own; others = f.others; not_idle = f.not_idle }
  where
    own : (j : ℕ) → rank (after one) j ≡ priority_of (after one) j
    own = rank_own (after one) empty.0

    by_rank : Stretch rank i a one between two
    by_rank = record {
      first_turn = s.first_turn;
      second_turn = s.second_turn;
      neighbouring = s.neighbouring;
      stays = s.stays;
      none_smaller = each_with (λ e z h t q. let l = h t q in omega (arith, l, own i, rank_own (after e) z t)) between empty.1 s.none_smaller;
      followed = s.followed;
    }

    same : (j : ℕ) (b : TaskId) → Stays j b one between → Unchanging rank j one between
    same j b h = each_with (λ e z q. rank_own (after e) z j ∙ q ∙ sym (own j)) between empty.1
        (stays_priority _ j b one between (two ∷ rest) (chain_from (init hz words).kernel before one (between ++ two ∷ rest) (init_invariant hz words accepted) returned).2 h refl)

    peer : (j : ℕ) (b : TaskId) → Peer priority_of i one between j b → Peer rank i one between j b × Unchanging rank j one between
    peer j b q = (record { another = q.another; equal = own j ∙ q.equal ∙ sym (own i); stayed = q.stayed }, same j b q.stayed)
