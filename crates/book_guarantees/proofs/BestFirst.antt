-- The pick gives, of the Ready slots, one of the smallest rank, and of those the first from c + 1 on in the ring.
use mathlib.Core.Path.{◌≡◌, refl, ap, ◌∙◌}
use mathlib.Core.Bool.{Bool, true, false, ◌&&◌, not}
use Prim.Native.Nat.{ℕ, suc, ◌+◌, ◌-◌, ◌*◌, ◌%◌, ◌≤◌, ◌<◌}
use native.Mathlib.Decide.{dec_lt}
use native.Mathlib.Omega.{arith}
use lib.Dec.{eqb, ltb}
use borrow.Author.Tests.{le-ltb, lt-ltb, ltb-false, eqb-true, eq-eqb}
use Rattle.base.specs.Below.{any_below, lowest_below}
use Rattle.base.proofs.Choices.{taken, and_left, and_right}
use Rattle.base.proofs.Loops.{all_at, all_each, any_some, any_at, lowest_at, lowest_is, lowest_before}
use Rattle.kernel.specs.Scheduler.{slot_after, is_best, distance, pick}
use Rattle.book_guarantees.proofs.Ring.{ahead, rounds, ahead_after, after_ahead}

pub clash : {A : Type 0} {b : Bool} → b ≡ true → b ≡ false → A
clash p q = let y : ◌≡◌ {A = ℕ} 0 1 = cc in let o : ⊥ = omega (arith, y) in absurd o

-- s is picked rather than j
pub record Rather (ready : ℕ → Bool) (rank : ℕ → ℕ) (c s j : ℕ) : Type 0 where
  pub is : ready s ≡ true
  pub best : rank s ≤ rank j
  pub first : rank s ≡ rank j → ahead c s ≤ ahead c j

-- s is Ready, none has a smaller rank, and of those with that rank it is the first from c + 1 on
pub record First (ready : ℕ → Bool) (rank : ℕ → ℕ) (c s : ℕ) : Type 0 where
  pub is : ready s ≡ true
  pub smallest : (j : ℕ) → j < 16 → ready j ≡ true → rank s ≤ rank j
  pub n : ℕ
  pub here : slot_after c n ≡ s
  pub first : (m : ℕ) → m < n → ready (slot_after c m) ≡ true → rank s < rank (slot_after c m)

module _ (ready : ℕ → Bool) (rank : ℕ → ℕ) where
  -- ---- one of the Ready slots is best

  not_less : (j i : ℕ) (b : Bool) → (b ≡ true → rank i ≤ rank j) → not (b && ltb (rank j) (rank i)) ≡ true
  not_less j i true f = rw (le-ltb (rank j) (rank i) (f refl))
  not_less j i false f = refl

  best_by : (i : ℕ) → ready i ≡ true → ((j : ℕ) → j < 16 → ready j ≡ true → rank i ≤ rank j) → is_best ready rank i ≡ true
  unfolding is_best
  best_by i e f = rw (e, all_each (λ j. not (ready j && ltb (rank j) (rank i))) 16 (λ j h. not_less j i (ready j) (f j h)))

  best_ready : (i : ℕ) → is_best ready rank i ≡ true → ready i ≡ true
  unfolding is_best
  best_ready i e = and_left (ready i) _ e

  less_not : (b x : Bool) → b ≡ true → not (b && x) ≡ true → x ≡ false
  less_not true true p q = clash q refl
  less_not true false p q = refl
  less_not false x p q = clash p refl

  best_low : (i : ℕ) → is_best ready rank i ≡ true → (j : ℕ) → j < 16 → ready j ≡ true → rank i ≤ rank j
  unfolding is_best
  best_low i e j h r = ltb-false (rank j) (rank i) (less_not (ready j) _ r (all_at (λ x. not (ready x && ltb (rank x) (rank i))) 16 j (and_right (ready i) _ e) h))

  -- of the ranks that a Ready slot has, the lowest is that of a best one
  some_best : (j : ℕ) → j < 16 → ready j ≡ true → (i : ℕ) × (i < 16) × (is_best ready rank i ≡ true)
  some_best j hj r =
      let x = any_at (λ i. ready i && eqb (rank i) low) 16 (lowest_is has (suc (rank j)) (omega (arith, below j hj r))) in
      (x.0, x.1, best_by x.0 (and_left (ready x.0) _ x.2) (λ y hy ry. omega (arith, below y hy ry, eqb-true (rank x.0) low (and_right (ready x.0) _ x.2))))
    where
      has : ℕ → Bool
      has v = any_below (λ i. ready i && eqb (rank i) v) 16

      low : ℕ
      low = lowest_below has (suc (rank j))

      below : (i : ℕ) → i < 16 → ready i ≡ true → low ≤ rank i
      below i h e = lowest_at has (suc (rank j)) (rank i) (any_some (λ x. ready x && eqb (rank x) (rank i)) 16 i h (rw (e, eq-eqb (rank i) (rank i) refl)))

  -- ---- the pick

  pick_at : (c : ℕ) → distance ready rank c < 16 → slot_after c (distance ready rank c) ≡ pick ready rank c
  unfolding pick
  pick_at c l = taken _ _ _ _ (lt-ltb (distance ready rank c) 16 l) refl

  -- a best slot comes within one round, whatever c is
  near : (c j : ℕ) → j < 16 → ready j ≡ true → distance ready rank c < 16
  near c j hj r =
      let m = some_best j hj r in
      let back : slot_after c ((m.0 + 15 * (c + 1)) % 16) ≡ m.0 = omega (arith, m.1) in
      omega (arith, lowest_at (λ n. is_best ready rank (slot_after c n)) 16 ((m.0 + 15 * (c + 1)) % 16) (ap (is_best ready rank) back ∙ m.2))

  at_distance : (c : ℕ) → distance ready rank c < 16 → is_best ready rank (slot_after c (distance ready rank c)) ≡ true
  at_distance c l = lowest_is (λ n. is_best ready rank (slot_after c n)) 16 l

  -- of the slots of that rank none that is nearer is Ready
  pub pick_first : (c j : ℕ) → j < 16 → ready j ≡ true → First ready rank c (pick ready rank c)
  pick_first c j hj r = rw (← pick_at c l) (record {
    is = best_ready s e;
    smallest = best_low s e;
    n = distance ready rank c;
    here = refl;
    first = λ m h q.
        elim (dec_lt (rank s) (rank (slot_after c m))) [
          | yes g ↦ g
          | no g ↦ clash (best_by (slot_after c m) q (λ x hx rx. omega (arith, best_low s e x hx rx, g))) (lowest_before (λ n. is_best ready rank (slot_after c n)) 16 m h)
        ];
  })
    where
      l : distance ready rank c < 16
      l = near c j hj r

      s : ℕ
      s = slot_after c (distance ready rank c)

      e : is_best ready rank s ≡ true
      e = at_distance c l

  pub pick_is : (c : ℕ) → c < 16 → (j : ℕ) → j < 16 → ready j ≡ true → Rather ready rank c (pick ready rank c) j
  pick_is c hc j hj r = rw (← pick_at c l) (record {
    is = best_ready s e;
    best = low j hj r;
    first = λ q. omega (arith, ahead_after c d hc l, at j hj (best_by j r (λ x hx rx. omega (arith, low x hx rx, q))), rounds c j hc hj);
  })
    where
      d : ℕ
      d = distance ready rank c

      at : (x : ℕ) → x < 16 → is_best ready rank x ≡ true → d ≤ ahead c x - 1
      at x hx e = lowest_at (λ n. is_best ready rank (slot_after c n)) 16 (ahead c x - 1) (ap (is_best ready rank) (after_ahead c x hc hx) ∙ e)

      l : d < 16
      l = near c j hj r

      s : ℕ
      s = slot_after c d

      e : is_best ready rank s ≡ true
      e = at_distance c l

      low : (x : ℕ) → x < 16 → ready x ≡ true → rank s ≤ rank x
      low = best_low s e
