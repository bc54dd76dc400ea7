-- What a call that nothing refuses tells of its kernel and its arguments.
use Prim.Native.Nat.{ℕ, ◌-◌, ◌^◌, ◌≤◌, ◌<◌}
use native.Mathlib.Omega.{arith}
use mathlib.Core.Path.{◌≡◌, refl, subst}
use mathlib.Core.Bool.{true, false, not, ◌||◌}
use mathlib.Core.List.{List, [], ◌∷◌}
use lib.Dec.{eqb, ltb, lit<}
use lib.ListN.{length}
use borrow.Author.Tests.{eqb-true, eqb-false, leb-false, ltb-true, ltb-false}
use Rattle.base.proofs.Choices.{clear, not_clear, or_left, or_right}
use Rattle.kernel.specs.Types.{TaskId, Priority, StackRegion, Terminated, Kernel}
use Rattle.kernel.specs.Control.{in_state}
use Rattle.kernel.specs.Kernel.{slot, current, slot_of, arena_fits, whole}
use Rattle.kernel.specs.Scheduler.{lowest_empty, overlaps_present}
use Rattle.kernel.specs.Calls.{init_number, Call, add, start, tick, switch, status, wait, reap, Check, ◌when◌, first_of, no_object, checks, number}
use Rattle.kernel.proofs.Whole.{ArenaFits, arena_fits_lem, RegionFits, region_fits_lem, Whole, is_whole}
use Rattle.kernel.proofs.Checks.{nonzero, refuses_at, passed}

pub init_accepted : (hz words : ℕ) → init_number hz words ≡ 0 → ArenaFits words × (hz ≡ 0 → ⊥)
unfolding init_number
init_accepted hz words e =
    let cs = (1 when not (arena_fits words)) ∷ (7 when eqb hz 0) ∷ [] in
    (arena_fits_lem words (not_clear _ (passed cs 0 refl e)), eqb-false hz 0 (passed cs 1 refl e))

-- every kernel call asks first that the kernel is whole
pub accepted_whole : (k : Kernel) (c : Call) → number k c ≡ 0 → whole k ≡ true
unfolding number
accepted_whole k c e = not_clear _ (clear _ _ _ (lit< tt) e).0

pub accepted_is : (k : Kernel) (c : Call) → number k c ≡ 0 → Whole k
accepted_is k c e = is_whole k (accepted_whole k c e)

-- check i of an accepted call does not refuse
pub accepted_at : (k : Kernel) (c : Call) (i : ℕ) → nonzero (checks k c) ≡ true → number k c ≡ 0 → refuses_at (checks k c) i ≡ false
unfolding number
accepted_at k c i p e = passed (checks k c) i p (clear _ _ _ (lit< tt) e).1

-- the object of an object call, whose first check is 20
pub accepted_object : (k : Kernel) (c : Call) (o : ℕ) (rest : List Check) → number k c ≡ 0 → checks k c ≡ no_object o ∷ rest → o < 4
unfolding number
accepted_object k c o rest e is =
    let after = (clear _ _ _ (lit< tt) e).1 in
    omega (arith, ltb-false 3 o (clear (ltb 3 o) 20 (first_of rest) (lit< tt) (subst (λ (cs : List Check). first_of cs ≡ 0) is after)).0)

pub tick_accepted : (k : Kernel) → number k tick ≡ 0 → k.tick_count ≡ 2 ^ 64 - 1 → ⊥
tick_accepted k e = eqb-false _ _ (accepted_at k tick 0 refl e)

pub record AddAccepted (k : Kernel) (arena : List ℕ) (r : StackRegion) : Type 0 where
  pub is : Whole k
  pub lent : length arena ≡ k.arena_words
  pub free : lowest_empty k < 16
  pub region : RegionFits k.arena_words r
  pub next : k.next_id ≤ 4294967295

pub add_accepted : (k : Kernel) (arena : List ℕ) (p : Priority) (r : StackRegion) → number k (add arena p r) ≡ 0 → AddAccepted k arena r
add_accepted k arena p r e =
    let at : (i : ℕ) → refuses_at (checks k (add arena p r)) i ≡ false = λ i. accepted_at k (add arena p r) i refl e in
    record {
      is = accepted_is k (add arena p r) e;
      lent = eqb-true _ _ (not_clear _ (at 0));
      free = leb-false _ _ (at 1);
      region = region_fits_lem _ _ (not_clear _ (or_left _ (overlaps_present r k) (at 2)));
      next = ltb-false _ _ (at 3);
    }

-- the slot of a task that is reaped
pub record ReapAccepted (k : Kernel) (x : ℕ) : Type 0 where
  pub is : Whole k
  pub found : x < 16
  pub idle : x ≡ 0 → ⊥
  pub running : x ≡ current k → ⊥
  pub ended : in_state Terminated (slot k x) ≡ true

pub reap_accepted : (k : Kernel) (a : TaskId) → number k (reap a) ≡ 0 → ReapAccepted k (slot_of k a)
reap_accepted k a e =
    let x = slot_of k a in
    let at : (i : ℕ) → refuses_at (checks k (reap a)) i ≡ false = λ i. accepted_at k (reap a) i refl e in
    let apart = or_left (eqb x 0 || eqb x (current k)) _ (at 1) in
    record {
      is = accepted_is k (reap a) e;
      found = ltb-true _ _ (not_clear _ (at 0));
      idle = eqb-false _ _ (or_left (eqb x 0) _ apart);
      running = eqb-false _ _ (or_right (eqb x 0) _ apart);
      ended = not_clear _ (or_right (eqb x 0 || eqb x (current k)) _ (at 1));
    }

-- an accepted wait has found its target
pub wait_found : (k : Kernel) (a : TaskId) → number k (wait a) ≡ 0 → slot_of k a < 16
wait_found k a e = ltb-true _ _ (not_clear _ (accepted_at k (wait a) 2 refl e))

-- an accepted start found the kernel not started, an accepted switch found it started; an accepted status is not Running
pub start_off : (k : Kernel) → number k start ≡ 0 → k.started ≡ false
start_off k e = accepted_at k start 0 refl e

pub switch_on : (k : Kernel) (arena : List ℕ) (sp : ℕ) → number k (switch arena sp) ≡ 0 → k.started ≡ true
switch_on k arena sp e = not_clear _ (accepted_at k (switch arena sp) 1 refl e)

pub status_not_running : (k : Kernel) (s : ℕ) → number k (status s) ≡ 0 → eqb s 1 ≡ false
status_not_running k s e = or_left _ _ (accepted_at k (status s) 1 refl e)
