-- The sum of the charges, proved: on a started kernel each accepted tick adds one to the charges and the retired sum together, before the start none does, and
-- no other call alters them; and an empty slot has no charge (`Account`).
use mathlib.Core.Path.{◌≡◌, refl, sym, ap, ◌∙◌}
use mathlib.Core.Bool.{true, false}
use mathlib.Core.List.{List, [], ◌∷◌}
use Prim.Native.Nat.{ℕ, ◌+◌}
use native.Mathlib.Omega.{arith}
use lib.ListN.{get_or, replicate}
use Rattle.base.specs.Below.{sum_below}
use Rattle.base.proofs.Choices.{either, taken, left}
use Rattle.base.proofs.Loops.{sum_same, sum_none}
use Rattle.kernel.specs.declared.scheduler.Kernel.{Kernel}
use Rattle.kernel.specs.Kernel.{charge, charge_sum, is_occupied, fresh_kernel}
use Rattle.kernel.specs.Calls.{init}
use Rattle.kernel.proofs.Owned.{all_default}
use Rattle.kernel.proofs.Reached.{init_kernel}
use Rattle.book_guarantees.specs.Lists.{Entry, after, Returned, end, outcome, is_start, accepted_tick, accepted_ticks, ticks_after_start}
use Rattle.book_guarantees.specs.Charges.{occupied_charges, ChargeGuarantee}
use Rattle.book_guarantees.proofs.Account.{Account}
use Rattle.book_guarantees.proofs.Invariant.{Invariant}
use Rattle.book_guarantees.proofs.TurnGuarantee.{entry_fact, init_invariant}

-- where an empty slot has no charge, the occupied ones have all
pub all_occupied : (k : Kernel) → Account k → occupied_charges k ≡ sum_below (charge k) 16
all_occupied k a = sum_same _ (charge k) 16 (λ i _. either (λ n. n ≡ charge k i) (is_occupied k i) (λ _. refl) (λ e. sym (a.empty i e)))

-- the kernel after a list
pub end_invariant : (k : Kernel) (es : List Entry) → Invariant k → Returned k es → Invariant (end k es)
end_invariant k [] i r = i
end_invariant k (e ∷ es) i r = end_invariant (after e) es (entry_fact k e i r.0).invariant r.1

-- once started
sum_on : (k : Kernel) (es : List Entry) → Invariant k → Returned k es → k.started ≡ true → charge_sum (end k es) ≡ charge_sum k + accepted_ticks es
sum_on k [] i r o = omega arith
sum_on k (e ∷ es) i r o =
    let f = entry_fact k e i r.0 in
    let one : charge_sum (after e) ≡ charge_sum k + accepted_tick (outcome e) = f.sum ∙ ap (λ n. charge_sum k + n) (sym (taken _ _ _ _ o refl)) in
    omega (arith, one, sum_on (after e) es f.invariant r.1 (f.on ∙ rw o))

-- and before
sum_off : (k : Kernel) (es : List Entry) → Invariant k → Returned k es → k.started ≡ false → charge_sum (end k es) ≡ charge_sum k + ticks_after_start es
sum_off k [] i r o = omega arith
sum_off k (e ∷ es) i r o =
    let f = entry_fact k e i r.0 in
    let none : charge_sum (after e) ≡ charge_sum k + 0 = f.sum ∙ ap (λ n. charge_sum k + n) (sym (left _ _ _ _ o refl)) in
    let on : (after e).started ≡ is_start e = f.on ∙ rw o in
    either (λ n. charge_sum (end (after e) es) ≡ charge_sum k + n) (is_start e)
    (λ q. omega (arith, none, sum_on (after e) es f.invariant r.1 (on ∙ q)))
    (λ q. omega (arith, none, sum_off (after e) es f.invariant r.1 (on ∙ q)))

fresh_sum : (hz words : ℕ) → charge_sum (fresh_kernel hz words) ≡ 0
unfolding fresh_kernel
fresh_sum hz words = omega (arith, sum_none (λ i. get_or (replicate 16 0) i 0) 16 (λ i _. all_default 0 16 i))

fresh_off : (hz words : ℕ) → (fresh_kernel hz words).started ≡ false
unfolding fresh_kernel
fresh_off hz words = refl

pub charge_guarantee : ChargeGuarantee
charge_guarantee hz words accepted list returned =
    let k = (init hz words).kernel in
    let i = init_invariant hz words accepted in
    let is = init_kernel hz words accepted in
    let a = (end_invariant k list i returned).account in
    record {
      add_up = omega (arith, all_occupied (end k list) a, sum_off k list i returned (ap (λ (x : Kernel). x.started) (sym is) ∙ fresh_off hz words), ap (λ (x : Kernel). charge_sum x) (sym is) ∙ fresh_sum hz words);
      empty = a.empty;
    }
