-- The pick goes by which slots are Ready and by the ranks of those alone; and it is the first slot of a best key.
use Prim.Native.Nat.{ℕ, ◌<◌}
use native.Mathlib.Omega.{arith}
use mathlib.Core.Path.{◌≡◌, refl}
use mathlib.Core.Bool.{Bool, true, false, ◌&&◌, not}
use lib.Dec.{ltb}
use Rattle.base.specs.Choice.{if◌then◌otherwise◌}
use Rattle.base.specs.Below.{all_below}
use Rattle.base.proofs.Choices.{either}
use Rattle.base.proofs.Loops.{all_same, lowest_same, lowest_none}
use Rattle.kernel.specs.Scheduler.{slot_after, is_best, distance, pick}

pub around_lt : (c n : ℕ) → slot_after c n < 16
around_lt c n = omega arith

-- two tables that agree on what the pick reads
module _ (ready ready' : ℕ → Bool) (rank rank' : ℕ → ℕ) (same-ready : (i : ℕ) → i < 16 → ready i ≡ ready' i) (same_rank : (i : ℕ) → i < 16 → ready' i ≡ true → rank i ≡ rank' i) where
  not_less : (i j : ℕ) → i < 16 → j < 16 → ready' i ≡ true → (b : Bool) → ready' j ≡ b → not (b && ltb (rank j) (rank i)) ≡ not (b && ltb (rank' j) (rank' i))
  not_less i j h g r true e = rw (same_rank i h r, same_rank j g e)
  not_less i j h g r false e = refl

  best_same : (i : ℕ) → i < 16 → is_best ready rank i ≡ is_best ready' rank' i
  unfolding is_best
  best_same i h = rw (same-ready i h) (go (ready' i) refl)
    where
      go : (b : Bool) → ready' i ≡ b → (b && all_below (λ j. not (ready j && ltb (rank j) (rank i))) 16) ≡ (b && all_below (λ j. not (ready' j && ltb (rank' j) (rank' i))) 16)
      go true r = all_same _ _ 16 (λ j g. rw (same-ready j g) (not_less i j h g r (ready' j) refl))
      go false r = refl

  pub pick_same : (c : ℕ) → pick ready rank c ≡ pick ready' rank' c
  unfolding pick
  pick_same c =
      let e : distance ready rank c ≡ distance ready' rank' c = lowest_same _ _ 16 (λ n h. best_same (slot_after c n) (around_lt c n)) in
      rw e

-- no slot Ready, slot 0
pub pick_none : (ready : ℕ → Bool) (rank : ℕ → ℕ) (c : ℕ) → ((i : ℕ) → i < 16 → ready i ≡ false) → 0 ≡ pick ready rank c
unfolding pick is_best if◌then◌otherwise◌
pick_none ready rank c f =
    let e : distance ready rank c ≡ 16 = lowest_none _ 16 (λ n h. rw (f (slot_after c n) (around_lt c n))) in
    rw e

pub pick_lt : (ready : ℕ → Bool) (rank : ℕ → ℕ) (c : ℕ) → pick ready rank c < 16
unfolding pick
pick_lt ready rank c = either (λ i. i < 16) (ltb (distance ready rank c) 16) (λ _. around_lt c (distance ready rank c)) (λ _. omega arith)
