-- What an accepted call keeps, from the changes that it is made of. Every call: the priority of a task that stays present. A call that gives no turn and no
-- tick: current, started, tick_count, and the charge of a task that stays present; and no task comes to run, or to have more ticks left.
use mathlib.Core.Path.{◌≡◌, refl, sym, ap, ◌∙◌}
use mathlib.Core.Bool.{Bool, true, false}
use Prim.Native.Nat.{ℕ, zero, suc, ◌≤◌}
use native.Mathlib.Nat.{le_refl, le_trans}
use native.Mathlib.Omega.{arith}
use lib.Dec.{eqb}
use lib.Seq.{get_or-set_other}
use Rattle.base.proofs.Choices.{either}
use Rattle.base.proofs.Loops.{set_default}
use Rattle.kernel.specs.declared.control.TaskId.{TaskId}
use Rattle.kernel.specs.declared.control.TaskControl.{TaskControl}
use Rattle.kernel.specs.declared.scheduler.Kernel.{Kernel}
use Rattle.kernel.specs.Update.{with_remaining}
use Rattle.kernel.specs.Control.{blank_slot}
use Rattle.kernel.specs.Kernel.{slot, charge, current}
use Rattle.kernel.specs.Scheduler.{context_saved, reloaded, lowest_empty}
use Rattle.kernel.specs.Scheduler
use Rattle.kernel.specs.Calls.{Kind, adding, reaping, starting, switching, ticking, owning, plain}
use Rattle.kernel.proofs.Changes.{TaskChange, same, state, asleep, ended, waiter, answered, passed, less, full, saved, Change, task, begins, clock, permits, flag, handoff, owner, added, reaped, begun, turned, Changes, fold, SlotChange, by, limited, counted, new, cleared, run_first, run_next, first_empty, each_slot}
use Rattle.book_guarantees.proofs.BestFirst.{clash}
use Rattle.book_guarantees.proofs.Fairness.{runs}

-- the slice of the task in a slot, and what remains of it: in slot 0 idle's, of id 0, which is 1; elsewhere at most 5
abbrev pub SliceFits : ℕ → TaskControl → Type 0
SliceFits zero t = (t.time_slice ≡ 1) × (t.remaining_slice ≤ 1) × (t.id.0 ≡ 0)
SliceFits (suc j) t = (t.time_slice ≤ 5) × (t.remaining_slice ≤ 5)

pub slice_same : (j : ℕ) (t u : TaskControl) → u.id ≡ t.id → u.time_slice ≡ t.time_slice → u.remaining_slice ≤ t.remaining_slice → SliceFits j t → SliceFits j u
slice_same zero t u i s r f = (s ∙ f.0, omega (arith, f.1), ap (λ (a : TaskId). a.0) i ∙ f.2)
slice_same (suc j) t u i s r f = (omega (arith, f.0), omega (arith, f.1))

slice_full : (j : ℕ) (t : TaskControl) → SliceFits j t → SliceFits j (with_remaining t.time_slice t)
slice_full zero t f = (f.0, omega (arith, f.0), f.2)
slice_full (suc j) t f = (f.0, f.0)

-- a call of this kind gives no turn and no tick
abbrev pub IsOther : Kind → Type 0
IsOther adding = Unit {0}
IsOther reaping = Unit {0}
IsOther starting = ⊥
IsOther switching = ⊥
IsOther ticking = ⊥
IsOther owning = Unit {0}
IsOther plain = Unit {0}

-- ---- a task that stays in its slot

pub record TaskKept (g : Kind) (t u : TaskControl) : Type 0 where
  pub occupied : u.occupied ≡ t.occupied
  pub priority : u.priority ≡ t.priority
  pub slices : (j : ℕ) → SliceFits j t → SliceFits j u
  pub running : runs u ≡ true → runs t ≡ true
  pub remaining : IsOther g → u.remaining_slice ≤ t.remaining_slice

less_left : {g : Kind} {t u : TaskControl} → u.id ≡ t.id → u.occupied ≡ t.occupied → u.priority ≡ t.priority → u.time_slice ≡ t.time_slice → u.remaining_slice ≤ t.remaining_slice → (runs u ≡ true → runs t ≡ true) → TaskKept g t u
less_left {t = t} {u = u} i o p s r e = record { occupied = o; priority = p; slices = λ j. slice_same j t u i s r; running = e; remaining = λ _. r }

pub task_kept : {g : Kind} {t u : TaskControl} → TaskChange g t u → TaskKept g t u
unfolding context_saved
task_kept same = less_left refl refl refl refl (le_refl _) (λ e. e)
task_kept (state s n) = less_left refl refl refl refl (le_refl _) (λ e. clash e n)
task_kept (asleep n) = less_left refl refl refl refl (le_refl _) (λ e. clash e refl)
task_kept ended = less_left refl refl refl refl (omega arith) (λ e. clash e refl)
task_kept (waiter a) = less_left refl refl refl refl (le_refl _) (λ e. e)
task_kept (answered r) = less_left refl refl refl refl (le_refl _) (λ e. e)
task_kept passed = less_left refl refl refl refl (le_refl _) (λ e. clash e refl)
task_kept (less n h) = less_left refl refl refl refl h (λ e. e)
task_kept (full {t = t}) = record { occupied = refl; priority = refl; slices = λ j. slice_full j t; running = λ e. e; remaining = λ x. absurd x }
task_kept (saved {t = t} sp) = either (TaskKept switching t) (runs t) (λ _. less_left refl refl refl refl (le_refl _) (λ e. clash e refl)) (λ _. less_left refl refl refl refl (le_refl _) (λ e. e))

pub reloaded_kept : (t : TaskControl) → ((reloaded t).occupied ≡ t.occupied) × ((reloaded t).priority ≡ t.priority) × ((j : ℕ) → SliceFits j t → SliceFits j (reloaded t))
unfolding reloaded
reloaded_kept t = either (λ (u : TaskControl). (u.occupied ≡ t.occupied) × (u.priority ≡ t.priority) × ((j : ℕ) → SliceFits j t → SliceFits j u)) (eqb t.remaining_slice 0) (λ _. (refl, refl, λ j. slice_full j t)) (λ _. (refl, refl, λ _ f. f))

-- ---- slot by slot, over all the changes of a call

pub each_kept : {g : Kind} (T : TaskControl → TaskControl → Type 0) → ((t : TaskControl) → T t t) → ((t u v : TaskControl) → T t u → T u v → T t v) → ((t u : TaskControl) → SlotChange g t u → T t u)
    → {k k' : Kernel} → Changes g k k' → (j : ℕ) → T (slot k j) (slot k' j)
each_kept T r t f cs j = fold (λ k k'. T (slot k j) (slot k' j)) (λ k. r _) (λ _ _ _ p q. t _ _ _ p q) (λ _ _ d. each_slot T r t f d j) cs

-- A reap empties slots and fills none, any other call fills slots and empties none: so a task that is there at both ends, o and p, was there all along, and
-- what each change keeps of it, Q, is kept.
abbrev reaps : Kind → Bool
reaps adding = false
reaps reaping = true
reaps starting = false
reaps switching = false
reaps ticking = false
reaps owning = false
reaps plain = false

abbrev Along : Bool → Bool → Bool → Type 0 → Type 0
Along true o p Q = p ≡ true → (o ≡ true) × Q
Along false o p Q = o ≡ true → (p ≡ true) × Q

along : (b o p : Bool) (Q : Type 0) → p ≡ o → Q → Along b o p Q
along true o p Q e q = λ h. (sym e ∙ h, q)
along false o p Q e q = λ h. (e ∙ h, q)

along_on : (b o p q : Bool) (Q R S : Type 0) → (Q → R → S) → Along b o p Q → Along b p q R → Along b o q S
along_on true o p q Q R S f x y = λ h. let v = y h in let u = x v.0 in (u.0, f u.1 v.1)
along_on false o p q Q R S f x y = λ h. let u = x h in let v = y u.0 in (v.0, f u.1 v.1)

along_with : (b o p : Bool) (Q R : Type 0) → (o ≡ true → p ≡ true → R) → Along b o p Q → Along b o p R
along_with true o p Q R f x = λ h. let g = (x h).0 in (g, f g h)
along_with false o p Q R f x = λ h. let g = (x h).0 in (g, f h g)

along_both : (b o p : Bool) (Q : Type 0) → Along b o p Q → o ≡ true → p ≡ true → Q
along_both true o p Q x g h = (x h).1
along_both false o p Q x g h = (x g).1

abbrev Stay : Bool → TaskControl → TaskControl → Type 0
Stay b t u = Along b t.occupied u.occupied (u.priority ≡ t.priority)

slot_stays : {g : Kind} (t u : TaskControl) → SlotChange g t u → Stay (reaps g) t u
slot_stays {g} t u (by c) = along (reaps g) _ _ _ (task_kept c).occupied (task_kept c).priority
slot_stays t u (limited o n b f) = λ o. (o, refl)
slot_stays t u (counted n) = λ o. (o, refl)
slot_stays t u (new a p r e) = λ o. clash o e
slot_stays t u (cleared e) = λ o. clash o refl
slot_stays t u run_first = λ o. (o, refl)
slot_stays t u run_next = λ o. ((reloaded_kept t).0 ∙ o, (reloaded_kept t).1)

slots_stay : {g : Kind} {k k' : Kernel} → Change g k k' → (j : ℕ) → Stay (reaps g) (slot k j) (slot k' j)
slots_stay {g} = each_slot (Stay (reaps g)) (λ t. along (reaps g) _ _ _ refl refl) (λ t u v. along_on (reaps g) _ _ _ _ _ _ (λ p q. q ∙ p)) slot_stays

pub priority_kept : {g : Kind} {k k' : Kernel} → Changes g k k' → (j : ℕ) → (slot k j).occupied ≡ true → (slot k' j).occupied ≡ true → (slot k' j).priority ≡ (slot k j).priority
priority_kept {g} cs j = along_both (reaps g) _ _ _ (fold (λ k k'. Stay (reaps g) (slot k j) (slot k' j)) (λ k. along (reaps g) _ _ _ refl refl) (λ k k' k''. along_on (reaps g) _ _ _ _ _ _ (λ p q. q ∙ p)) (λ k k' c. slots_stay c j) cs)

-- ---- calls that give no turn and no tick

pub record Kept (k k' : Kernel) : Type 0 where
  pub stay : current k' ≡ current k
  pub on : k'.started ≡ k.started
  pub clock : k'.tick_count ≡ k.tick_count

change_kept : {g : Kind} → IsOther g → (k k' : Kernel) → Change g k k' → Kept k k'
unfolding Scheduler.add
change_kept x k k' (task i u h c) = record { stay = refl; on = refl; clock = refl }
change_kept x k k' (begins o n h b f p s) = record { stay = refl; on = refl; clock = refl }
change_kept x k k' (clock l a) = absurd x
change_kept x k k' (permits s n q h c) = record { stay = refl; on = refl; clock = refl }
change_kept x k k' (flag v n q h c) = record { stay = refl; on = refl; clock = refl }
change_kept x k k' (handoff m h q l c) = record { stay = refl; on = refl; clock = refl }
change_kept x k k' (owner m l from to h q r d c) = record { stay = refl; on = refl; clock = refl }
change_kept x k k' (added p r free region) = record { stay = refl; on = refl; clock = refl }
change_kept x k k' (reaped i h idle running on) = record { stay = refl; on = refl; clock = refl }
change_kept x k k' (begun y h o) = absurd x
change_kept x k k' (turned y h o) = absurd x

pub kept : {g : Kind} {k k' : Kernel} → IsOther g → Changes g k k' → Kept k k'
kept x = fold Kept (λ _. record { stay = refl; on = refl; clock = refl }) (λ _ _ _ p q. record { stay = q.stay ∙ p.stay; on = q.on ∙ p.on; clock = q.clock ∙ p.clock }) (change_kept x)

-- one change takes nothing from the charge of a task that is there before and after it
charge_same : {g : Kind} → IsOther g → (j : ℕ) (k k' : Kernel) → Change g k k' → (slot k j).occupied ≡ true → (slot k' j).occupied ≡ true → charge k' j ≡ charge k j
unfolding Scheduler.add
charge_same x j k k' (task i u h c) o p = refl
charge_same x j k k' (begins l n h b f q s) o p = refl
charge_same x j k k' (clock l a) o p = absurd x
charge_same x j k k' (permits s n q h c) o p = refl
charge_same x j k k' (flag v n q h c) o p = refl
charge_same x j k k' (handoff m h q l c) o p = refl
charge_same x j k k' (owner m l from to h q r d c) o p = refl
charge_same x j k k' (added q r free region) o p = get_or-set_other k.charges (lowest_empty k) j 0 0 (λ e. clash (rw e at o) (first_empty k free))
charge_same x j k k' (reaped i h idle running on) o p = get_or-set_other k.charges i j 0 0 (λ e. clash (rw e at p) (ap (λ (t : TaskControl). t.occupied) (set_default blank_slot k.tasks i)))
charge_same x j k k' (begun y h o) q p = absurd x
charge_same x j k k' (turned y h o) q p = absurd x

-- nor do all the changes of a call
pub charge_kept : {g : Kind} {k k' : Kernel} → IsOther g → Changes g k k' → (j : ℕ) → (slot k j).occupied ≡ true → (slot k' j).occupied ≡ true → charge k' j ≡ charge k j
charge_kept {g} x cs j =
    along_both (reaps g) _ _ _
    (fold (λ k k'. Along (reaps g) (slot k j).occupied (slot k' j).occupied (charge k' j ≡ charge k j)) (λ k. along (reaps g) _ _ _ refl refl) (λ k k' k''. along_on (reaps g) _ _ _ _ _ _ (λ p q. q ∙ p))
    (λ k k' c. along_with (reaps g) _ _ _ _ (charge_same x j k k' c) (slots_stay c j)) cs)

-- u runs only if t does, and has no more ticks left
abbrev pub NoLonger : TaskControl → TaskControl → Type 0
NoLonger t u = runs u ≡ true → (runs t ≡ true) × (u.remaining_slice ≤ t.remaining_slice)

slot_no_longer : {g : Kind} → IsOther g → (t u : TaskControl) → SlotChange g t u → NoLonger t u
slot_no_longer x t u (by c) = λ e. ((task_kept c).running e, (task_kept c).remaining x)
slot_no_longer x t u (limited o n b f) = λ e. (e, le_refl _)
slot_no_longer x t u (counted n) = λ e. (e, le_refl _)
slot_no_longer x t u (new a p r o) = λ e. clash e refl
slot_no_longer x t u (cleared o) = λ e. clash e refl
slot_no_longer x t u run_first = absurd x
slot_no_longer x t u run_next = absurd x

pub no_longer : {g : Kind} {k k' : Kernel} → IsOther g → Changes g k k' → (j : ℕ) → NoLonger (slot k j) (slot k' j)
no_longer x = each_kept NoLonger (λ _ e. (e, le_refl _)) (λ _ _ _ p q e. let y = q e in let z = p y.0 in (z.0, le_trans y.1 z.1)) (slot_no_longer x)
