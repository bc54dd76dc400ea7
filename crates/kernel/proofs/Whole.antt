-- What a whole kernel tells, by name; and what tells it that it is whole.
use Prim.Native.Nat.{ℕ, ◌*◌, ◌%◌, ◌≤◌, ◌<◌}
use mathlib.Core.Path.{◌≡◌, sym, subst}
use mathlib.Core.Bool.{true, ◌&&◌}
use lib.Dec.{leb}
use borrow.Author.Tests.{leb-true, ltb-true, eqb-true, le-leb, lt-ltb, eq-eqb}
use Rattle.base.specs.Choice.{every}
use Rattle.base.specs.Below.{count_below}
use Rattle.base.proofs.Choices.{and_left, and_right, implied, implies, every_at}
use Rattle.base.proofs.Loops.{all_at, all_each, count_le}
use Rattle.kernel.specs.Types.{StackRegion, Blocked, TaskControl, Kernel}
use Rattle.kernel.specs.Control.{in_state, has_limit, object_fits, region_end, region_fits}
use Rattle.kernel.specs.Kernel.{slot, current, current_task, charge_sum, mutex, semaphore, event, arena_fits, is_occupied, region_whole, owned_whole, queues_whole, limit_whole, whole}

pub record RegionFits (words : ℕ) (r : StackRegion) : Type 0 where
  pub aligned : r.start % 4 ≡ 0
  pub multiple : r.size % 4 ≡ 0
  pub long : 16 ≤ r.size
  pub inside : region_end r ≤ 4 * words

pub region_fits_lem : (words : ℕ) (r : StackRegion) → region_fits words r ≡ true → RegionFits words r
unfolding region_fits
region_fits_lem words r e =
    record {
      aligned = eqb-true _ _ (every_at _ 0 e);
      multiple = eqb-true _ _ (every_at _ 1 e);
      long = leb-true _ _ (every_at _ 2 e);
      inside = leb-true _ _ (every_at _ 3 e);
    }

pub fits_region : (words : ℕ) (r : StackRegion) → RegionFits words r → region_fits words r ≡ true
unfolding region_fits every
fits_region words r f = rw (eq-eqb _ _ f.aligned, eq-eqb _ _ f.multiple, le-leb _ _ f.long, le-leb _ _ f.inside)

pub record ArenaFits (words : ℕ) : Type 0 where
  pub low : 2048 ≤ words
  pub high : words ≤ 16384

pub arena_fits_lem : (words : ℕ) → arena_fits words ≡ true → ArenaFits words
unfolding arena_fits
arena_fits_lem words e = record { low = leb-true _ _ (and_left (leb 2048 words) (leb words 16384) e); high = leb-true _ _ (and_right (leb 2048 words) (leb words 16384) e) }

pub fits_arena : (words : ℕ) → ArenaFits words → arena_fits words ≡ true
unfolding arena_fits
fits_arena words f = rw (le-leb _ _ f.low, le-leb _ _ f.high)

-- what a whole kernel asks of a task's limit
abbrev pub LimitFits : TaskControl → Type 0
LimitFits t = has_limit t ≡ true → (in_state Blocked t ≡ true) × (object_fits t.limit_object ≡ true)

pub record Whole (k : Kernel) : Type 0 where
  pub arena : ArenaFits k.arena_words
  pub clock : 1 ≤ k.hz
  pub current_slot : current k < 16
  pub idle : (slot k 0).occupied ≡ true
  pub running : (current_task k).occupied ≡ true
  pub region : (i : ℕ) → i < 16 → (slot k i).occupied ≡ true → RegionFits k.arena_words (slot k i).stack
  pub owned : (i : ℕ) → i < 16 → (slot k i).occupied ≡ true → (slot k i).owned_mutex_count ≤ 4
  pub mutex_queue : (o : ℕ) → o < 4 → (mutex k o).waiters.len ≤ 8
  pub semaphore_queue : (o : ℕ) → o < 4 → (semaphore k o).waiters.len ≤ 8
  pub event_queue : (o : ℕ) → o < 4 → (event k o).waiters.len ≤ 8
  pub charges : charge_sum k ≤ k.tick_count
  pub limits : (i : ℕ) → i < 16 → (slot k i).occupied ≡ true → LimitFits (slot k i)
  pub count : k.task_count ≡ count_below (is_occupied k) 16
  pub tasks : k.task_count ≤ 16

pub is_whole : (k : Kernel) → whole k ≡ true → Whole k
unfolding whole
is_whole k e =
    let queues = all_at (queues_whole k) 4 in
    record {
      arena = arena_fits_lem _ (every_at _ 0 e);
      clock = leb-true _ _ (every_at _ 1 e);
      current_slot = ltb-true _ _ (every_at _ 2 e);
      idle = every_at _ 3 e;
      running = every_at _ 4 e;
      region = λ i h o. region_fits_lem _ _ (implied _ _ o (all_at (region_whole k) 16 i (every_at _ 5 e) h));
      owned = λ i h o. leb-true _ _ (implied _ _ o (all_at (owned_whole k) 16 i (every_at _ 8 e) h));
      mutex_queue = λ o h. leb-true _ _ (and_left (leb (mutex k o).waiters.len 8) (leb (semaphore k o).waiters.len 8) (and_left _ (leb (event k o).waiters.len 8) (queues o (every_at _ 6 e) h)));
      semaphore_queue = λ o h. leb-true _ _ (and_right (leb (mutex k o).waiters.len 8) (leb (semaphore k o).waiters.len 8) (and_left _ (leb (event k o).waiters.len 8) (queues o (every_at _ 6 e) h)));
      event_queue = λ o h. leb-true _ _ (and_right (leb (mutex k o).waiters.len 8 && leb (semaphore k o).waiters.len 8) (leb (event k o).waiters.len 8) (queues o (every_at _ 6 e) h));
      charges = leb-true _ _ (every_at _ 9 e);
      limits = λ i h o l.
          let fits = implied ((slot k i).occupied && has_limit (slot k i)) _ (rw (o, l)) (all_at (limit_whole k) 16 i (every_at _ 10 e) h) in
          (and_left _ _ fits, and_right (in_state Blocked (slot k i)) _ fits);
      count = eqb-true _ _ (every_at _ 7 e);
      tasks = subst (λ (n : ℕ). n ≤ 16) (sym (eqb-true _ _ (every_at _ 7 e))) (count_le (is_occupied k) 16);
    }

pub whole_is : (k : Kernel) → Whole k → whole k ≡ true
unfolding whole every
whole_is k w =
    rw (
      fits_arena _ w.arena,
      le-leb _ _ w.clock,
      lt-ltb _ _ w.current_slot,
      w.idle,
      w.running,
      all_each (region_whole k) 16 (λ i h. implies _ _ (λ o. fits_region _ _ (w.region i h o))),
      all_each (queues_whole k) 4 (λ o h. rw (le-leb _ _ (w.mutex_queue o h), le-leb _ _ (w.semaphore_queue o h), le-leb _ _ (w.event_queue o h))),
      eq-eqb _ _ w.count,
      all_each (owned_whole k) 16 (λ i h. implies _ _ (λ o. le-leb _ _ (w.owned i h o))),
      le-leb _ _ w.charges,
      all_each (limit_whole k) 16 (λ i h. implies ((slot k i).occupied && has_limit (slot k i)) _ (λ o. let f = w.limits i h (and_left _ _ o) (and_right (slot k i).occupied _ o) in rw (f.0, f.1))),
    )
