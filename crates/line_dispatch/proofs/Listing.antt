-- Sixteen records are as good as more: a whole kernel has at most sixteen tasks. So a list call on `min room 16` of them answers and adds what one on `room` does.
use Prim.Native.Nat.{ℕ, zero, suc, ◌≤◌, ◌<◌, min}
use native.Mathlib.Omega.{arith}
use mathlib.Core.Path.{◌≡◌, refl, sym, ap, ◌∙◌}
use mathlib.Core.Bool.{Bool, true, false, not}
use mathlib.Core.List.{List, [], ◌∷◌, ◌++◌, append_assoc, append-nil}
use lib.Dec.{eqb, ltb}
use lib.ListN.{length, drop, get_or, length-replicate, get_or-append}
use borrow.Author.Tests.{ltb-true, lt-ltb, eq-eqb, ne_eqb}
use Rattle.base.specs.Choice.{if◌then◌otherwise◌}
use Rattle.base.proofs.Choices.{taken, left, same_test}
use Rattle.kernel.specs.declared.control.TaskInfo.{TaskInfo}
use Rattle.kernel.specs.declared.scheduler.Kernel.{Kernel}
use Rattle.kernel.specs.declared.scheduler.Value.TheVariants.{Count}
use Rattle.kernel.specs.declared.scheduler.Answer.{Answer}
use Rattle.kernel.specs.Kernel.{whole}
use Rattle.kernel.specs.Calls.{list, ◌when◌, other_length, first_of, number, value, effect, accepted, refused, step, task_infos, list_records}
use Rattle.kernel.proofs.Whole.{is_whole}
use Rattle.kernel.proofs.Accepted.{accepted_is}
use Rattle.call_list.specs.Records.{blank_info}
use Rattle.call_list.proofs.Laws.{infos_count}
use Rattle.line_records.specs.RecordsText.{list_text}
use Rattle.line_records.proofs.First.{same_first}
use Rattle.line_dispatch.proofs.Fresh.{step_number}
use Rattle.line_dispatch.specs.Dispatch.{blank_records, list_answer, list_adds}

-- ---- the number and the answer

same_room : (room tasks : ℕ) → tasks ≤ 16 → ltb (min room 16) tasks ≡ ltb room tasks
same_room room tasks h = same_test _ _ (λ e. lt-ltb room tasks (omega (arith, ltb-true (min room 16) tasks e))) (λ e. lt-ltb (min room 16) tasks (omega (arith, ltb-true room tasks e)))

-- the number of a list call on that many records
numbered : (k : Kernel) (arena : List ℕ) (room : ℕ) → number k (list arena (blank_records room)) ≡ (if not (whole k) then 1 otherwise first_of (other_length k arena ∷ (21 when ltb room k.task_count) ∷ []))
unfolding number
numbered k arena room = rw (length-replicate room blank_info) refl

same_number : (k : Kernel) (arena : List ℕ) (room : ℕ) → number k (list arena (blank_records (min room 16))) ≡ number k (list arena (blank_records room))
unfolding if◌then◌otherwise◌
same_number k arena room = numbered k arena (min room 16) ∙ by_cases (whole k) refl ∙ sym (numbered k arena room)
  where
    by_cases : (w : Bool) → whole k ≡ w → (if not w then 1 otherwise first_of (other_length k arena ∷ (21 when ltb (min room 16) k.task_count) ∷ [])) ≡ (if not w then 1 otherwise first_of (other_length k arena ∷ (21 when ltb room k.task_count) ∷ []))
    by_cases true e = rw (same_room room k.task_count (is_whole k e).tasks) refl
    by_cases false e = refl

pub same_answer : (k : Kernel) (arena : List ℕ) (room : ℕ) → list_answer k arena (min room 16) ≡ list_answer k arena room
unfolding step value effect
same_answer k arena room = ap (λ (n : ℕ). if eqb n 0 then accepted (Count k.task_count) k otherwise refused n k) (same_number k arena room)

-- the number that it returned
pub answered_number : (k : Kernel) (arena : List ℕ) (room : ℕ) (a : Answer) → a ≡ list_answer k arena (min room 16) → a.number ≡ number k (list arena (blank_records room))
answered_number k arena room a e = ap (λ (x : Answer). x.number) e ∙ step_number k _ ∙ same_number k arena room

-- ---- the records

-- the first are those that were written, whatever stands behind
first_infos : (k : Kernel) (arena : List ℕ) (records behind : List TaskInfo) (i : ℕ) → number k (list arena records) ≡ 0 → i < k.task_count → get_or (list_records k arena records ++ behind) i blank_info ≡ get_or (task_infos k arena 16) i blank_info
unfolding list_records
first_infos k arena records behind i e h =
    let infos = task_infos k arena 16 in
    let written = sym (taken _ (infos ++ drop (length infos) records) records _ (eq-eqb _ 0 e) refl) in
    rw written (rw (append_assoc infos) (get_or-append infos _ blank_info i (omega (arith, infos_count k arena 16, (accepted_is k (list arena records) e).count))))

infos_text : (k : Kernel) (arena : List ℕ) (records behind : List TaskInfo) → number k (list arena records) ≡ 0 → list_text k.task_count (list_records k arena records ++ behind) ≡ list_text k.task_count (task_infos k arena 16)
infos_text k arena records behind e = same_first k.task_count _ _ (λ i h. first_infos k arena records behind i e h)

adds_infos : (k : Kernel) (arena : List ℕ) (room : ℕ) → number k (list arena (blank_records room)) ≡ 0 → list_adds k arena room ≡ list_text k.task_count (task_infos k arena 16)
unfolding list_adds
adds_infos k arena room e =
    let records = list_records k arena (blank_records room) in
    sym (taken _ _ _ _ (eq-eqb _ 0 e) (sym (ap (list_text k.task_count) (sym (append-nil records)) ∙ infos_text k arena (blank_records room) [] e)))

pub same_records : (k : Kernel) (arena : List ℕ) (room : ℕ) (behind : List TaskInfo) → number k (list arena (blank_records room)) ≡ 0 → list_text k.task_count (list_records k arena (blank_records (min room 16)) ++ behind) ≡ list_adds k arena room
same_records k arena room behind e = infos_text k arena _ behind (same_number k arena room ∙ e) ∙ sym (adds_infos k arena room e)

pub nothing_added : (k : Kernel) (arena : List ℕ) (room : ℕ) → (number k (list arena (blank_records room)) ≡ 0 → ⊥) → [] ≡ list_adds k arena room
unfolding list_adds
nothing_added k arena room h = left _ _ _ _ (ne_eqb _ 0 h) refl

same_adds : (k : Kernel) (arena : List ℕ) (room : ℕ) → list_adds k arena (min room 16) ≡ list_adds k arena room
same_adds k arena room = by_cases (number k (list arena (blank_records room))) refl
  where
    by_cases : (n : ℕ) → number k (list arena (blank_records room)) ≡ n → list_adds k arena (min room 16) ≡ list_adds k arena room
    by_cases zero e = adds_infos k arena (min room 16) (same_number k arena room ∙ e) ∙ sym (adds_infos k arena room e)
    by_cases (suc n) e = sym (nothing_added k arena (min room 16) (λ z. omega (arith, e, sym (same_number k arena room) ∙ z))) ∙ nothing_added k arena room (λ z. omega (arith, e, z))

-- a call on sixteen
pub sixteen : (k : Kernel) (arena : List ℕ) (room : ℕ) → 16 ≤ room → (list_answer k arena 16 ≡ list_answer k arena room) × (list_adds k arena 16 ≡ list_adds k arena room)
sixteen k arena room h =
    let most : 16 ≡ min room 16 = omega arith in
    (ap (list_answer k arena) most ∙ same_answer k arena room, ap (list_adds k arena) most ∙ same_adds k arena room)
