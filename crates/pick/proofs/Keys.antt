-- A search of the keys is the pick: the slots of the smallest key below 256 are the best ones, and with no such key none is Ready.
use Prim.Native.Nat.{ℕ, zero, suc, ◌+◌, ◌≤◌, ◌<◌, zero-le, min}
use native.Mathlib.Omega.{arith}
use mathlib.Core.Path.{◌≡◌, refl, sym, ◌∙◌}
use mathlib.Core.Bool.{Bool, true, false, ◌&&◌, ◌||◌, not}
use mathlib.Core.List.{List, [], ◌∷◌}
use lib.Dec.{eqb, ltb}
use lib.ListN.{get_or}
use denote.Param.Members.{Mut, Called}
use Rattle.std.specs.Array.{IsFromFnResult}
use Rattle.std.specs.List.{list_any, fold}
use native.Mathlib.Nat.{le_refl}
use native.Mathlib.Decide.{dec_lt}
use borrow.Author.Tests.{lt-ltb, le-ltb, ltb-false, eqb-true, eq-eqb, ne_eqb}
use borrow.Author.Count.{below_more}
use Rattle.base.specs.Choice.{if◌then◌otherwise◌}
use Rattle.base.specs.Below.{all_below, lowest_below}
use Rattle.base.proofs.Choices.{and_right, same_test}
use Rattle.base.proofs.Loops.{all_at, all_each, lowest_same, lowest_is, lowest_next, lowest_here, Upto, search_start, search_more, search_found, search_done}
use Rattle.kernel.specs.Scheduler.{slot_after, is_best, pick}
use Rattle.kernel.proofs.Pick.{around_lt, pick_same}
use Rattle.leaf_rank.proofs.Made.{each_made}
use Rattle.pick.specs.Keys.{IsKey, IsLeast, key_distance, first_from}

-- no key yet, and one more
pub least_none : (keys : List ℕ) → IsLeast keys 0 256
least_none keys = record { low = λ i h. absurd (omega arith); reached = λ h. absurd (omega arith) }

pub least_more : (keys : List ℕ) (i best : ℕ) → IsLeast keys i best → IsLeast keys (i + 1) (min best (get_or keys i 0))
least_more keys i best l =
    elim (dec_lt (get_or keys i 0) best) [
      | yes h ↦
          let e : min best (get_or keys i 0) ≡ get_or keys i 0 = omega arith in
          rw e record {
            low = below_more (λ j. get_or keys i 0 ≤ get_or keys j 0) i (λ j g. omega (arith, l.low j g)) (le_refl _);
            reached = λ _. lowest_here (λ j. eqb (get_or keys j 0) (get_or keys i 0)) i (eq-eqb (get_or keys i 0) (get_or keys i 0) refl);
          }
      | no h ↦
          let e : min best (get_or keys i 0) ≡ best = omega arith in
          rw e record {
            low = below_more (λ j. best ≤ get_or keys j 0) i l.low (omega arith);
            reached = λ g. lowest_next (λ j. eqb (get_or keys j 0) best) i (l.reached g);
          }
    ]

module _ (keys : List ℕ) (best : ℕ) (least : IsLeast keys 16 best) where
  abbrev key_at : ℕ → ℕ
  key_at i = get_or keys i 0

  abbrev ready : ℕ → Bool
  ready i = ltb (key_at i) 256

  pub none_ready : 256 ≤ best → (i : ℕ) → i < 16 → ready i ≡ false
  none_ready h i g = le-ltb (key_at i) 256 (omega (arith, least.low i g))

  -- the smallest key stands at a Ready slot
  reached_at : best < 256 → key_at (lowest_below (λ i. eqb (key_at i) best) 16) ≡ best
  reached_at h = eqb-true _ _ (lowest_is (λ i. eqb (key_at i) best) 16 (least.reached h))

  no_less : (i j : ℕ) → not (ltb (key_at j) 256 && ltb (key_at j) (key_at i)) ≡ true → key_at j < 256 → key_at i ≤ key_at j
  no_less i j e h = ltb-false _ _ (go (ltb (key_at j) 256) (ltb (key_at j) (key_at i)) (lt-ltb _ _ h) e)
    where
      go : (p q : Bool) → p ≡ true → not (p && q) ≡ true → q ≡ false
      go true true h e = sym e
      go true false h e = refl
      go false q h e = absurd (omega (arith, clash h))
        where
          clash : false ≡ true → ◌≡◌ {A = ℕ} 0 1
          clash f = cc

  best_is : best < 256 → (i : ℕ) → i < 16 → eqb (key_at i) best ≡ is_best ready key_at i
  unfolding is_best
  best_is h i g = same_test _ _ there back
    where
      there : eqb (key_at i) best ≡ true → (ready i && all_below (λ j. not (ready j && ltb (key_at j) (key_at i))) 16) ≡ true
      there e =
          let s : key_at i ≡ best = eqb-true _ _ e in
          rw (lt-ltb (key_at i) 256 (omega arith)) (all_each _ 16 (λ j m. rw (le-ltb (key_at j) (key_at i) (omega (arith, least.low j m))) (both (ltb (key_at j) 256))))
        where
          both : (b : Bool) → not (b && false) ≡ true
          both true = refl
          both false = refl

      back : (ready i && all_below (λ j. not (ready j && ltb (key_at j) (key_at i))) 16) ≡ true → eqb (key_at i) best ≡ true
      back e =
          let j : ℕ = lowest_below (λ m. eqb (key_at m) best) 16 in
          let s : key_at j ≡ best = reached_at h in
          let u : key_at i ≤ key_at j = no_less i j (all_at (λ m. not (ready m && ltb (key_at m) (key_at i))) 16 j (and_right (ready i) _ e) (least.reached h)) (omega arith) in
          eq-eqb (key_at i) best (omega (arith, least.low i g))

  pub first_is : best < 256 → (c : ℕ) → first_from keys c best ≡ pick ready key_at c
  unfolding first_from pick
  first_is h c =
      let e : key_distance keys c best ≡ lowest_below (λ n. is_best ready key_at (slot_after c n)) 16 = lowest_same _ _ 16 (λ n g. best_is h (slot_after c n) (around_lt c n)) in
      rw e

-- ---- the search from current + 1

module _ (keys : List ℕ) (c best : ℕ) where
  -- nothing among the first n
  pub Searched : ℕ → Type 0
  Searched n = Upto (lowest_below (λ m. eqb (get_or keys (slot_after c m) 0) best)) 16 n n

  pub from_start : Searched 0
  unfolding Searched
  from_start = search_start _ 16

  pub from_next : (n at : ℕ) → Searched n → n < 16 → at ≡ slot_after c n → (get_or keys at 0 ≡ best → ⊥) → Searched (n + 1)
  unfolding Searched
  from_next n at u h s e = search_more _ 16 n u h (rw (← s) (ne_eqb _ _ e))

  pub from_found : (n at : ℕ) → Searched n → n < 16 → at ≡ slot_after c n → get_or keys at 0 ≡ best → at ≡ first_from keys c best
  unfolding first_from if◌then◌otherwise◌ Searched
  from_found n at u h s e =
      let d : n ≡ key_distance keys c best = search_found _ 16 n u h (rw (← s) (eq-eqb _ _ e)) in
      rw (← d, lt-ltb n 16 h) s

  pub from_none : (n : ℕ) → Searched n → 16 ≤ n → 0 ≡ first_from keys c best
  unfolding first_from if◌then◌otherwise◌ Searched
  from_none n u h =
      let d : 16 ≡ key_distance keys c best = search_done _ 16 n u h in
      rw (← d)

-- ---- a test of each byte, taken up without a way out

or_more : (a b c : Bool) → ((a || b) || c) ≡ (a || (b || c))
or_more true b c = refl
or_more false b c = refl

or_none : (a : Bool) → a ≡ (a || false)
or_none true = refl
or_none false = refl

folded : {A : Type 0} (p : A → Bool) (xs : List A) (a : Bool) → fold (λ b x. b || p x) a xs ≡ (a || list_any p xs)
folded p [] a = or_none a
folded p (x ∷ xs) a = folded p xs (a || p x) ∙ or_more a (p x) (list_any p xs)

pub any_folded : {A : Type 0} (p : A → Bool) (xs : List A) → fold (λ b x. b || p x) false xs ≡ list_any p xs
any_folded p xs = folded p xs false

-- ---- the keys, made slot by slot

-- a closure that stays as it is, and whose results at each number have P
module _ {F : Type 0} (g : Mut F (ℕ × Unit {0}) ℕ) (f : F) (P : ℕ → ℕ → Type 0) (makes : (i y : ℕ) (q : F) → Called g f (i, tt) y q → (q ≡ f) × P i y) where
  pub made : (ys : List ℕ) (n : ℕ) → IsFromFnResult g f ys n → (i : ℕ) → i < n → P i (get_or ys i 0)
  made ys n m i h = each_made g f 0 P makes ys n m i h

-- a pick by the keys is the pick of the table
pub keys_pick : (ready : ℕ → Bool) (rank : ℕ → ℕ) (keys : List ℕ) → ((i : ℕ) → i < 16 → IsKey (ready i) (rank i) (get_or keys i 0)) → (c : ℕ) → pick (λ i. ltb (get_or keys i 0) 256) (λ i. get_or keys i 0) c ≡ pick ready rank c
keys_pick ready rank keys k c = pick_same _ _ _ _ (λ i h. (k i h).shown) (λ i h r. (k i h).same r) c
