-- Load per thousand, proved: each present task's pair is the only one (crates/kernel/proofs/Load.antt), and the sums go
-- slot by slot; the ticks since the start are those of the charges (Charges.antt).
use Prim.Native.Nat.{ℕ, zero, suc, ◌+◌, ◌*◌, ◌≤◌, ◌<◌}
use native.Mathlib.Omega.{arith}
use native.Mathlib.Nat.{add-mul}
use native.Mathlib.Decide.{dec_lt}
use mathlib.Core.Path.{◌≡◌, refl, sym, ap, subst, ◌∙◌}
use mathlib.Core.Bool.{Bool, true, false, false≢true}
use lib.ListN.{length, get_or-eq_default}
use borrow.Author.Tests.{eqb-true, eq-eqb, ltb-false}
use Rattle.base.specs.Choice.{if◌then◌otherwise◌}
use Rattle.base.specs.Below.{sum_below}
use Rattle.base.proofs.Choices.{not_yes, and_left, and_right}
use Rattle.base.proofs.Loops.{lowest_only, sum_none, sum_but}
use Rattle.kernel.specs.declared.control.TaskId.{TaskId}
use Rattle.kernel.specs.declared.scheduler.Kernel.{Kernel}
use Rattle.kernel.specs.declared.control.TaskControl.{TaskControl}
use Rattle.kernel.specs.Control.{same_id, blank_slot}
use Rattle.kernel.specs.Kernel.{slot, charge, charge_sum, holds_id, slot_of, is_occupied, is_present, whole}
use Rattle.kernel.specs.Load.{IsLoad}
use Rattle.kernel.specs.Calls.{load, value, effect, accepted, refused, step, init}
use Rattle.kernel.proofs.Step.{number_refused, number_accepted}
use Rattle.kernel.proofs.Load.{thousand_most, load_once, load_is, load_found, charge_within, load_unknown, load_no_tick, load_accepted}
use Rattle.kernel.proofs.Whole.{whole_is}
use Rattle.book_guarantees.specs.Lists.{end, ticks_after_start}
use Rattle.book_guarantees.specs.Charges.{occupied_charges}
use Rattle.book_guarantees.specs.Loads.{share, remainder, Present, asked, of_present, Alone, Loads, LoadCalls, LoadGuarantee}
use Rattle.book_guarantees.proofs.Account.{Account}
use Rattle.book_guarantees.proofs.Charges.{all_occupied, end_invariant, charge_guarantee}
use Rattle.book_guarantees.proofs.TurnGuarantee.{init_invariant}

-- ---- sums

-- where each f i × t is at most 1000 × g i
sum_within : (f g : ℕ → ℕ) (t n : ℕ) → ((i : ℕ) → i < n → f i * t ≤ 1000 * g i) → sum_below f n * t ≤ 1000 * sum_below g n
unfolding sum_below
sum_within f g t zero h = omega arith
sum_within f g t (suc n) h =
    let a = sum_within f g t n (λ i l. h i (omega (arith, l))) in
    let b = h n (omega arith) in
    omega (arith, a, b, add-mul (sum_below f n) (f n) t)

-- where each h i is 1000 × g i
sum_thousand : (g h : ℕ → ℕ) (n : ℕ) → ((i : ℕ) → i < n → 1000 * g i ≡ h i) → 1000 * sum_below g n ≡ sum_below h n
unfolding sum_below
sum_thousand g h zero e = refl
sum_thousand g h (suc n) e =
    let a = sum_thousand g h n (λ i l. e i (omega (arith, l))) in
    let b = e n (omega arith) in
    omega (arith, a, b)

-- ---- a present task is found by its id

module _ (k : Kernel) (a : Account k) where
  is_slot : (i : ℕ) → Present k i → i < 16
  is_slot i p =
      elim (dec_lt i 16) [
        | yes h ↦ h
        | no h ↦
            let past : length k.tasks ≤ i = omega (arith, a.sound.owned.slots, h) in
            absurd (false≢true (sym (ap (λ (t : TaskControl). t.occupied) (get_or-eq_default k.tasks blank_slot past)) ∙ p))
      ]

  found : (i : ℕ) → Present k i → slot_of k (slot k i).id ≡ i
  unfolding slot_of
  found i p =
      lowest_only (λ j. holds_id (slot k i).id (slot k j)) 16 i (is_slot i p) (rw (p, eq-eqb (slot k i).id.0 (slot k i).id.0 refl))
      (λ j l. not_yes _ (λ e. let same = a.sound.owned.apart j i (and_left _ (same_id (slot k j).id (slot k i).id) e) p (eqb-true _ _ (and_right (slot k j).occupied _ e)) in omega (arith, same, l)))

  is : whole k ≡ true
  is = whole_is k a.sound.is

  not_found : (b : TaskId) → is_present k b ≡ false → step k (load b) ≡ refused 8 k
  not_found b e = sym (number_refused k (load b) 8 _ (load_unknown k b is (ltb-false _ _ e)) (λ z. omega arith) refl)

  none : charge_sum k ≡ 0 → (i : ℕ) → Present k i → asked k i ≡ refused 24 k
  none z i p = sym (number_refused k (load (slot k i).id) 24 _ (load_no_tick k _ is (rw (found i p) (is_slot i p)) z) (λ z. omega arith) refl)

  module _ (t : 0 < charge_sum k) where
    pair : (i : ℕ) → Present k i → IsLoad (charge k i) (charge_sum k) (share k (charge_sum k) i) (remainder k (charge_sum k) i)
    pair i p = load_found (charge k i) (charge_sum k) t (charge_within k i (is_slot i p))

    answers : (i : ℕ) → Present k i → step k (load (slot k i).id) ≡ accepted (value k (load (slot k i).id)) k
    unfolding effect
    answers i p = sym (number_accepted k (load (slot k i).id) 0 _ (load_accepted k _ is (rw (found i p) (is_slot i p)) t) refl refl)

    share_each : (i : ℕ) (b : Bool) → is_occupied k i ≡ b → (if b then share k (charge_sum k) i otherwise 0) * charge_sum k ≤ 1000 * (if b then charge k i otherwise 0)
    unfolding if◌then◌otherwise◌
    share_each i true e = let m = (pair i e).equation in omega (arith, m)
    share_each i false e = omega arith

    shares : of_present k (share k (charge_sum k)) * charge_sum k ≤ 1000 * occupied_charges k
    shares = sum_within _ (λ i. if is_occupied k i then charge k i otherwise 0) (charge_sum k) 16 (λ i _. share_each i (is_occupied k i) refl)

    accounts_each : (i : ℕ) (b : Bool) → is_occupied k i ≡ b → 1000 * (if b then charge k i otherwise 0) ≡ (if b then share k (charge_sum k) i * charge_sum k + remainder k (charge_sum k) i otherwise 0)
    unfolding if◌then◌otherwise◌
    accounts_each i true e = (pair i e).equation
    accounts_each i false e = refl

    accounted : 1000 * occupied_charges k ≡ of_present k (λ i. share k (charge_sum k) i * charge_sum k + remainder k (charge_sum k) i)
    accounted = sum_thousand _ (λ i. if is_occupied k i then share k (charge_sum k) i * charge_sum k + remainder k (charge_sum k) i otherwise 0) 16 (λ i _. accounts_each i (is_occupied k i) refl)

    only_one : (i : ℕ) → Present k i → Alone k i → charge k i ≡ charge_sum k
    only_one i p o =
        let zero_sum : sum_below (λ (_ : ℕ). 0) 16 ≡ 0 = sum_none (λ (_ : ℕ). 0) 16 (λ _ _. refl) in
        let but = sum_but (charge k) (λ (_ : ℕ). 0) 16 i (is_slot i p) (λ j n. sym (o.others j n)) in
        omega (arith, zero_sum, but, o.reaped)

    full : (i : ℕ) → Present k i → Alone k i → (share k (charge_sum k) i ≡ 1000) × (remainder k (charge_sum k) i ≡ 0)
    full i p o =
        let e = only_one i p o in
        load_is (charge_within k i (is_slot i p)) (record { equation = omega (arith, e); below = t })

    loads : Loads k (charge_sum k)
    unfolding value
    loads =
        let all = all_occupied k a in
        record {
          answered = λ i p. answers i p ∙ rw (found i p) refl;
          meets = pair;
          no_others = λ i s r p l. load_once l (pair i p);
          at_most = thousand_most _ (charge_sum k) t (omega (arith, shares, all));
          alone = full;
          accounts = accounted;
          nothing_dropped = omega (arith, accounted, all);
        }

  calls : LoadCalls k (charge_sum k)
  calls = record { together = refl; unknown = not_found; no_tick = none; ticked = loads }

pub load_guarantee : LoadGuarantee
load_guarantee hz words accepted list returned =
    let k = end (init hz words).kernel list in
    let a = (end_invariant (init hz words).kernel list (init_invariant hz words accepted) returned).account in
    let ticks : charge_sum k ≡ ticks_after_start list = omega (arith, all_occupied k a, (charge_guarantee hz words accepted list returned).add_up) in
    subst (LoadCalls k) ticks (calls k a)
