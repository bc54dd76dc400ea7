-- The claims of specs/Loads.antt: the premises by computation, the answers by the guarantee, which leaves one pair.
use mathlib.Core.Path.{◌≡◌, refl, sym, ap, subst, ◌∙◌}
use mathlib.Core.List.{List, [], ◌∷◌, map}
use mathlib.Core.Logic.{◌≢◌}
use Prim.Native.Nat.{ℕ, zero, suc, ◌+◌, ◌<◌}
use native.Mathlib.Omega.{arith}
use lib.ListN.{get_or, replicate}
use Rattle.base.specs.Below.{sum_below}
use Rattle.kernel.specs.declared.scheduler.Kernel.{Kernel}
use Rattle.kernel.specs.declared.scheduler.Value.TheVariants.{Load}
use Rattle.kernel.specs.Kernel.{charge}
use Rattle.kernel.specs.Load.{IsLoad}
use Rattle.kernel.specs.Calls.{Call, accepted, init, init_number}
use Rattle.kernel.proofs.Owned.{all_default}
use Rattle.book_guarantees.specs.Lists.{ticks_after_start}
use Rattle.book_guarantees.specs.Loads.{share, Present, asked, of_present, Alone, LoadCalls}
use Rattle.book_guarantees.proofs.Loads.{load_guarantee}
use Rattle.book_examples.specs.Examples.{played}
use Rattle.book_examples.specs.Loads.{final, Played, no_tick_calls, alone_calls, thirds_calls, NoTick, AloneCharged, Thirds}
use Rattle.book_examples.proofs.Examples.{computed, run_returned}

-- ---- of every list that is played

calls : (cs : List Call) (ticks : ℕ) → Played cs ticks → LoadCalls (final cs) ticks
calls cs ticks p = subst (LoadCalls (final cs)) p.counted (load_guarantee 1000 2112 p.fresh (played cs) p.returned)

same_load : {s s' r r' : ℕ} (k : Kernel) → s ≡ s' → r ≡ r' → accepted (Load s r) k ≡ accepted (Load s' r') k
same_load k e f = rw (e, f) refl

-- the pair that meets the equation is the answer, and its share the task's
pair : (cs : List Call) (ticks i c s r : ℕ) → Played cs ticks → 0 < ticks → Present (final cs) i → charge (final cs) i ≡ c → IsLoad c ticks s r → (asked (final cs) i ≡ accepted (Load s r) (final cs)) × (share (final cs) ticks i ≡ s)
pair cs ticks i c s r p t here is l =
    let loads = (calls cs ticks p).ticked t in
    let only = loads.no_others i s r here (rw is l) in
    (loads.answered i here ∙ same_load _ (sym only.0) (sym only.1), sym only.0)

-- ---- the lists

loads_computed : Unit {0}
unfolding computed no_tick_calls alone_calls thirds_calls
loads_computed = tt

fresh_is : init_number 1000 2112 ≡ 0
unfolding computed
fresh_is = refl

premise : (cs : List Call) (ticks : ℕ) → ticks_after_start (played cs) ≡ ticks → Played cs ticks
premise cs ticks e = record { fresh = fresh_is; returned = run_returned (init 1000 2112).kernel cs; counted = e }

no_tick_counted : ticks_after_start (played no_tick_calls) ≡ 0
unfolding loads_computed
no_tick_counted = refl

no_tick_present : Present (final no_tick_calls) 1
unfolding loads_computed
no_tick_present = refl

pub no_tick : NoTick
no_tick =
    let p = premise no_tick_calls 0 no_tick_counted in
    record { premises = p; present = no_tick_present; is_24 = (calls no_tick_calls 0 p).no_tick refl 1 no_tick_present }

alone_counted : ticks_after_start (played alone_calls) ≡ 2
unfolding loads_computed
alone_counted = refl

alone_present : Present (final alone_calls) 1
unfolding loads_computed
alone_present = refl

alone_charges : (final alone_calls).charges ≡ 0 ∷ 2 ∷ replicate 14 0
unfolding loads_computed
alone_charges = refl

alone_reaped : (final alone_calls).retired_charge ≡ 0
unfolding loads_computed
alone_reaped = refl

-- no other slot has a charge
other : (j : ℕ) → j ≢ 1 → get_or {A = ℕ} (0 ∷ 2 ∷ replicate 14 0) j 0 ≡ 0
other zero h = refl
other (suc zero) h = absurd (h refl)
other (suc (suc j)) h = all_default 0 14 j

pub alone_charged : AloneCharged
alone_charged =
    let p = premise alone_calls 2 alone_counted in
    let a : Alone (final alone_calls) 1 = record { others = λ j h. rw alone_charges (other j h); reaped = alone_reaped } in
    let loads = (calls alone_calls 2 p).ticked (omega arith) in
    let full = loads.alone 1 alone_present a in
    record { premises = p; present = alone_present; alone = a; is_1000 = loads.answered 1 alone_present ∙ same_load _ full.0 full.1 }

thirds_counted : ticks_after_start (played thirds_calls) ≡ 3
unfolding loads_computed
thirds_counted = refl

thirds_present : Present (final thirds_calls) 0 × Present (final thirds_calls) 1 × Present (final thirds_calls) 2
unfolding loads_computed
thirds_present = (refl, refl, refl)

thirds_charges : map (charge (final thirds_calls)) (0 ∷ 1 ∷ 2 ∷ []) ≡ 0 ∷ 2 ∷ 1 ∷ []
unfolding loads_computed
thirds_charges = refl

-- those three are all
thirds_sum : (f : ℕ → ℕ) → of_present (final thirds_calls) f ≡ f 0 + f 1 + f 2
unfolding loads_computed sum_below
thirds_sum f = omega arith

pub thirds : Thirds
thirds =
    let p = premise thirds_calls 3 thirds_counted in
    let c : (i : ℕ) → get_or (map (charge (final thirds_calls)) (0 ∷ 1 ∷ 2 ∷ [])) i 0 ≡ get_or (0 ∷ 2 ∷ 1 ∷ []) i 0 = λ i. ap (λ (l : List ℕ). get_or l i 0) thirds_charges in
    let of_0 = pair thirds_calls 3 0 0 0 0 p (omega arith) thirds_present.0 (c 0) (record { equation = refl; below = omega arith }) in
    let of_1 = pair thirds_calls 3 1 2 666 2 p (omega arith) thirds_present.1 (c 1) (record { equation = refl; below = omega arith }) in
    let of_2 = pair thirds_calls 3 2 1 333 1 p (omega arith) thirds_present.2 (c 2) (record { equation = refl; below = omega arith }) in
    record {
      premises = p;
      present = thirds_present;
      charges = thirds_charges;
      of_0 = of_0.0;
      of_1 = of_1.0;
      of_2 = of_2.0;
      not_1000 = thirds_sum (share (final thirds_calls) 3) ∙ omega (arith, of_0.1, of_1.1, of_2.1);
    }
