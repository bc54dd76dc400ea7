-- Charges, by the changes that a call is made of: a kernel from fresh has sixteen, an empty slot's is 0, and what gives no turn and no tick leaves their sum
-- with the retired one.
use mathlib.Core.Path.{◌≡◌, refl, sym, ◌∙◌}
use mathlib.Core.Bool.{false}
use mathlib.Core.List.{List}
use Prim.Native.Nat.{ℕ}
use native.Mathlib.Decide.{ℕ_discrete}
use native.Mathlib.Omega.{arith}
use lib.ListN.{length, get_or, set, length-set}
use lib.Seq.{get_or-set_other}
use Rattle.base.proofs.Choices.{either}
use Rattle.base.proofs.Loops.{set_each, set_default, sum_clear}
use Rattle.kernel.specs.declared.control.TaskControl.{TaskControl}
use Rattle.kernel.specs.declared.scheduler.Kernel.{Kernel}
use Rattle.kernel.specs.Control.{blank_slot}
use Rattle.kernel.specs.Kernel.{slot, charge, charge_sum, current, fresh_kernel}
use Rattle.kernel.specs.Scheduler.{lowest_empty}
use Rattle.kernel.specs.Scheduler
use Rattle.kernel.specs.Calls.{Kind, init_number}
use Rattle.kernel.proofs.Changes.{Change, task, begins, clock, permits, flag, handoff, owner, added, reaped, begun, turned, Changes, carry, owner_each, first_empty}
use Rattle.kernel.proofs.Owned.{Sound, all_default, fresh_sound, change_sound}
use Rattle.book_guarantees.proofs.BestFirst.{clash}
use Rattle.book_guarantees.proofs.Kept.{IsOther, task_kept, reloaded_kept}

-- ---- the invariant

-- a slot that is empty in these tasks has no charge
abbrev NoCharge : Kernel → ℕ → TaskControl → Type 0
NoCharge k j t = t.occupied ≡ false → charge k j ≡ 0

pub record Account (k : Kernel) : Type 0 where
  pub sound : Sound k
  pub slots : length k.charges ≡ 16
  pub empty : (j : ℕ) → NoCharge k j (slot k j)

pub fresh_account : (hz words : ℕ) → init_number hz words ≡ 0 → Account (fresh_kernel hz words)
unfolding fresh_kernel
fresh_account hz words e = record { sound = fresh_sound hz words e; slots = refl; empty = λ j _. all_default 0 16 j }

-- one slot set, and its charge 0
cleared : (k : Kernel) (x : ℕ) (t : TaskControl) → ((j : ℕ) → NoCharge k j (slot k j)) → (j : ℕ) → (get_or (set k.tasks x t) j blank_slot).occupied ≡ false → get_or (set k.charges x 0) j 0 ≡ 0
cleared k x t a j o =
    elim (ℕ_discrete j x) [
      | yes e ↦ rw e (set_default 0 k.charges x)
      | no n ↦ rw (get_or-set_other k.charges x j 0 0 n) (a j (rw (get_or-set_other k.tasks x j t blank_slot n) at o))
    ]

change_slots : {g : Kind} (k k' : Kernel) → Change g k k' → length k'.charges ≡ length k.charges
unfolding Scheduler.add
change_slots k k' (task i u h c) = refl
change_slots k k' (begins o n h b f p s) = refl
change_slots k k' (clock l a) = either (λ (l : List ℕ). length l ≡ length k.charges) k.started (λ _. length-set k.charges _ _) (λ _. refl)
change_slots k k' (permits s n q h c) = refl
change_slots k k' (flag v n q h c) = refl
change_slots k k' (handoff m h q l c) = refl
change_slots k k' (owner m l from to h q r d c) = refl
change_slots k k' (added p r free region) = length-set k.charges _ _
change_slots k k' (reaped i h idle running on) = length-set k.charges _ _
change_slots k k' (begun x h o) = refl
change_slots k k' (turned x h o) = refl

change_empty : {g : Kind} (k k' : Kernel) → Change g k k' → Account k → (j : ℕ) → NoCharge k' j (slot k' j)
unfolding Scheduler.add
change_empty k k' (task i u h c) a = set_each (NoCharge k) blank_slot k.tasks i u (λ e. a.empty i (sym (task_kept c).occupied ∙ e)) a.empty
change_empty k k' (begins o n h b f p s) a = set_each (NoCharge k) blank_slot k.tasks (current k) _ (a.empty (current k)) a.empty
change_empty k k' (clock l b) a =
    either (λ (l : List ℕ). (j : ℕ) → (slot k j).occupied ≡ false → get_or l j 0 ≡ 0) k.started
    (λ _. set_each (λ j n. (slot k j).occupied ≡ false → n ≡ 0) 0 k.charges (current k) _ (λ e. clash a.sound.owned.running e) a.empty) (λ _. a.empty)
change_empty k k' (permits s n q h c) a = a.empty
change_empty k k' (flag v n q h c) a = a.empty
change_empty k k' (handoff m h q l c) a = a.empty
change_empty k k' (owner m l from to h q r d c) a = owner_each (λ y. (j : ℕ) → NoCharge k j (slot y j)) (λ y i n _ e. set_each (NoCharge k) blank_slot y.tasks i _ (e i) e) from to k a.empty
change_empty k k' (added p r free region) a = cleared k (lowest_empty k) _ a.empty
change_empty k k' (reaped i h idle running on) a = cleared k i blank_slot a.empty
change_empty k k' (begun x h o) a = set_each (NoCharge k) blank_slot k.tasks _ _ (a.empty _) a.empty
change_empty k k' (turned x h o) a = set_each (NoCharge k) blank_slot k.tasks _ _ (λ e. a.empty _ (sym (reloaded_kept _).0 ∙ e)) a.empty

pub change_account : (g : Kind) (k k' : Kernel) → Change g k k' → Account k → Account k'
change_account g k k' c a = record { sound = change_sound g k k' c a.sound; slots = change_slots k k' c ∙ a.slots; empty = change_empty k k' c a }

-- ---- the sum

-- an added slot's charge was 0, a reaped one's goes into the retired sum
change_sum : {g : Kind} → IsOther g → (k k' : Kernel) → Change g k k' → Account k → charge_sum k' ≡ charge_sum k
unfolding Scheduler.add
change_sum x k k' (task i u h c) a = refl
change_sum x k k' (begins o n h b f p s) a = refl
change_sum x k k' (clock l b) a = absurd x
change_sum x k k' (permits s n q h c) a = refl
change_sum x k k' (flag v n q h c) a = refl
change_sum x k k' (handoff m h q l c) a = refl
change_sum x k k' (owner m l from to h q r d c) a = refl
change_sum x k k' (added p r free region) a = omega (arith, sum_clear k.charges 16 (lowest_empty k) free, a.empty (lowest_empty k) (first_empty k free))
change_sum x k k' (reaped i h idle running on) a = omega (arith, sum_clear k.charges 16 i h)
change_sum x k k' (begun y h o) a = absurd x
change_sum x k k' (turned y h o) a = absurd x

pub sum_kept : {g : Kind} {k k' : Kernel} → IsOther g → Changes g k k' → Account k → charge_sum k' ≡ charge_sum k
sum_kept {g} {k} x cs a = (carry (λ y. Account y × (charge_sum y ≡ charge_sum k)) (λ y z c h. (change_account g y z c h.0, change_sum x y z c h.0 ∙ h.1)) cs (a, refl)).1
