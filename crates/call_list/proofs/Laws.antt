-- The records grow slot by slot, in the slice that is lent.
use Prim.Native.Nat.{ℕ, zero, suc, ◌+◌, ◌≤◌, ◌<◌}
use native.Mathlib.Omega.{arith}
use native.Mathlib.Numerals.{add-one}
use native.Mathlib.Nat.{le_refl}
use native.Mathlib.Decide.{ℕ_discrete}
use mathlib.Core.Path.{◌≡◌, refl, sym, ap, ◌∙◌}
use mathlib.Core.Bool.{Bool, true, false}
use mathlib.Core.List.{List, [], ◌∷◌, ◌++◌, append_assoc}
use lib.ListN.{length, get_or, set, drop, length-append}
use lib.Seq.{drop-cons, set_at}
use borrow.Author.Tests.{eqb-true, ltb-false, ne_eqb}
use Rattle.std.specs.declared.result.Result.{Result}
use Rattle.std.specs.declared.result.Result.TheVariants.{Ok, Err}
use Rattle.base.specs.Choice.{if◌then◌otherwise◌}
use Rattle.base.specs.Below.{count_below}
use Rattle.base.proofs.Choices.{either, taken, left, not_clear}
use Rattle.kernel.specs.declared.control.TaskInfo.{TaskInfo}
use Rattle.kernel.specs.declared.scheduler.Kernel.{Kernel}
use Rattle.kernel.specs.declared.scheduler.Refusal.{Refusal}
use Rattle.kernel.specs.Kernel.{slot, is_occupied, whole}
use Rattle.kernel.specs.Refusal.{refusal_number, number_of}
use Rattle.kernel.specs.Calls.{list, number, task_info, task_infos, list_records}
use Rattle.kernel.proofs.Accepted.{accepted_whole, accepted_at}
use Rattle.kernel.proofs.Refusal.{nonzero_refusal, refused_number, accepted_number}
use Rattle.call_list.specs.Records.{blank_info}

-- ---- counts

-- fewer of them count no more
pub count_upto : (p : ℕ → Bool) (m n : ℕ) → m ≤ n → count_below p m ≤ count_below p n
unfolding count_below
count_upto p zero n h = omega arith
count_upto p (suc m) zero h = absurd (omega arith)
count_upto p (suc m) (suc n) h =
    elim (ℕ_discrete m n) [
      | yes e ↦ rw e (le_refl _)
      | no e ↦ either (λ x. count_below p (suc m) ≤ x) (p n) (λ _. omega (arith, count_upto p (suc m) n (omega arith))) (λ _. count_upto p (suc m) n (omega arith))
    ]

-- as many as there are tasks
pub infos_count : (k : Kernel) (arena : List ℕ) (n : ℕ) → length (task_infos k arena n) ≡ count_below (is_occupied k) n
unfolding task_infos count_below if◌then◌otherwise◌
infos_count k arena zero = refl
infos_count k arena (suc n) = one_more (slot k n).occupied (infos_count k arena n)
  where
    one_more : (b : Bool) → length (task_infos k arena n) ≡ count_below (is_occupied k) n → length (if b then task_infos k arena n ++ (task_info arena (slot k n) ∷ []) otherwise task_infos k arena n) ≡ (if b then suc (count_below (is_occupied k) n) otherwise count_below (is_occupied k) n)
    one_more true e = length-append (task_infos k arena n) (task_info arena (slot k n) ∷ []) ∙ omega (arith, e)
    one_more false e = e

-- ---- the records: n of them are written once i slots are walked, the others are as they were

pub record Written (k : Kernel) (arena : List ℕ) (before : List TaskInfo) (i n : ℕ) (records : List TaskInfo) : Type 0 where
  pub count : n ≡ count_below (is_occupied k) i
  pub records_are : records ≡ task_infos k arena i ++ drop n before

pub written_start : (k : Kernel) (arena : List ℕ) (before : List TaskInfo) → Written k arena before 0 0 before
unfolding task_infos count_below
written_start k arena before = record { count = refl; records_are = refl }

-- there is room for one more
pub written_room : {k : Kernel} {arena : List ℕ} {before : List TaskInfo} {i n : ℕ} {records : List TaskInfo} → Written k arena before i n records → i < 16 → (slot k i).occupied ≡ true → count_below (is_occupied k) 16 ≤ length before → n < length before
unfolding count_below if◌then◌otherwise◌
written_room {k} {i = i} w h e l =
    let one : count_below (is_occupied k) (suc i) ≡ suc (count_below (is_occupied k) i) = rw e refl in
    omega (arith, w.count, one, count_upto (is_occupied k) (suc i) 16 (omega arith))

-- one more is written behind the others
more : (infos before : List TaskInfo) (n : ℕ) (x : TaskInfo) → length infos ≡ n → n < length before → set (infos ++ drop n before) n x ≡ (infos ++ (x ∷ [])) ++ drop (n + 1) before
more infos before n x l h =
    rw (add-one n, drop-cons before n blank_info h, set_at infos (get_or before n blank_info) (drop (suc n) before) x n l, append_assoc)
    refl

pub written_more : {k : Kernel} {arena : List ℕ} {before : List TaskInfo} {i n : ℕ} {records : List TaskInfo} → Written k arena before i n records → (slot k i).occupied ≡ true → n < length before → Written k arena before (i + 1) (n + 1) (set records n (task_info arena (slot k i)))
unfolding task_infos count_below if◌then◌otherwise◌
written_more {k} {arena} {before} {i} {n} w e h =
    let l : length (task_infos k arena i) ≡ n = infos_count k arena i ∙ sym w.count in
    rw (add-one i) (record {
      count = rw (e, w.count) (add-one _);
      records_are = rw (w.records_are, e) (more (task_infos k arena i) before n (task_info arena (slot k i)) l h);
    })

pub written_other : {k : Kernel} {arena : List ℕ} {before : List TaskInfo} {i n : ℕ} {records : List TaskInfo} → Written k arena before i n records → (slot k i).occupied ≡ false → Written k arena before (i + 1) n records
unfolding task_infos count_below if◌then◌otherwise◌
written_other {i = i} w e = rw (add-one i) (record { count = rw e w.count; records_are = rw e w.records_are })

pub written_done : {k : Kernel} {arena : List ℕ} {before : List TaskInfo} {i n : ℕ} {records : List TaskInfo} → Written k arena before i n records → i ≡ 16 → records ≡ task_infos k arena 16 ++ drop (length (task_infos k arena 16)) before
written_done {k} {arena} {before} {i} {n} w q =
    let l : length (task_infos k arena i) ≡ n = infos_count k arena i ∙ sym w.count in
    w.records_are
    ∙ ap (λ (m : ℕ). task_infos k arena i ++ drop m before) (sym l)
    ∙ ap (λ (m : ℕ). task_infos k arena m ++ drop (length (task_infos k arena m)) before) q

-- ---- what the call makes of the records that are lent; x is what its checks gave

pub list_kept : {A : Type 0} (k : Kernel) (arena : List ℕ) (records : List TaskInfo) (x : Result A Refusal) (r : Refusal) → number_of x ≡ number k (list arena records) → x ≡ Err r → records ≡ list_records k arena records
unfolding list_records
list_kept k arena records x r e h = let n = refused_number x r _ e h in left _ _ _ _ (rw (← n) (ne_eqb (refusal_number r) 0 (nonzero_refusal r))) refl

pub list_written : {A : Type 0} (k : Kernel) (arena : List ℕ) (records new : List TaskInfo) (x : Result A Refusal) (u : A) → number_of x ≡ number k (list arena records) → x ≡ Ok u → new ≡ task_infos k arena 16 ++ drop (length (task_infos k arena 16)) records → new ≡ list_records k arena records
unfolding list_records
list_written k arena records new x u e h g = taken _ _ _ _ (rw (accepted_number x u _ e h) refl) g

-- an accepted call
pub list_accepted : (k : Kernel) (arena : List ℕ) (records : List TaskInfo) → number k (list arena records) ≡ 0 → (whole k ≡ true) × (length arena ≡ k.arena_words) × (k.task_count ≤ length records)
list_accepted k arena records e =
    let c = list arena records in
    (accepted_whole k c e, eqb-true _ _ (not_clear _ (accepted_at k c 0 refl e)), omega (arith, ltb-false (length records) k.task_count (accepted_at k c 1 refl e)))
