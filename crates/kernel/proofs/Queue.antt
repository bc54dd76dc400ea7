-- A queue once its head was dropped: one shorter, each of the others one place further on; and who is in a queue that an id joined or left.
use Prim.Native.Nat.{ℕ, ◌+◌, ◌-◌, ◌≤◌, ◌<◌}
use native.Mathlib.Omega.{arith}
use native.Mathlib.Decide.{dec_lt}
use mathlib.Core.Path.{◌≡◌, sym, ap, ◌∙◌}
use mathlib.Core.Bool.{true, false, false≢true, ◌&&◌, not}
use borrow.Author.Tests.{lt-leb, le-ltb, lt-ltb, ltb-true, leb-false, eqb-true, eq-eqb, ne_eqb}
use Rattle.base.specs.Choice.{if◌then◌otherwise◌}
use lib.Dec.{ltb}
use lib.ListN.{length, set, length-set}
use lib.Seq.{get_or-set_same, get_or-set_other}
use Rattle.base.proofs.Choices.{and_left, and_right, either}
use Rattle.base.proofs.Loops.{tabulate_at, lowest_is, lowest_at}
use Rattle.kernel.specs.Types.{TaskId, WaitQueue}
use Rattle.kernel.specs.WaitQueue.{zero_id, place, waits_at, position, contains, is_full, pushed, enqueued, place_without, without, is_empty, head, popped, removed}

pub popped_length : (q : WaitQueue) → (q.len ≡ 0 → ⊥) → (popped q).len ≡ q.len - 1
unfolding popped without if◌then◌otherwise◌
popped_length q h = rw (ne_eqb q.len 0 h)

pub popped_place : (q : WaitQueue) (j : ℕ) → q.len ≤ 8 → j + 1 < q.len → place (popped q) j ≡ place q (j + 1)
unfolding popped without place_without if◌then◌otherwise◌
popped_place q j f h = rw (ne_eqb q.len 0 (λ e. omega arith), tabulate_at (place_without q 0) zero_id 8 j (omega arith), lt-leb q.len (j + 1) h, le-ltb j 0 (omega arith))

-- ---- who is in it

pub waits_in : (q : WaitQueue) (a : TaskId) (j : ℕ) → j < 8 → waits_at q a j ≡ true → contains q a ≡ true
unfolding position
waits_in q a j h e = lt-ltb (position q a) 8 (omega (arith, lowest_at (waits_at q a) 8 j e))

pub found_at : (q : WaitQueue) (a : TaskId) → contains q a ≡ true → (position q a < 8) × (position q a < q.len) × ((place q (position q a)).0 ≡ a.0)
unfolding position
found_at q a e =
    let h = ltb-true _ _ e in
    let w = lowest_is (waits_at q a) 8 h in
    (h, ltb-true _ _ (and_left _ _ w), eqb-true _ _ (and_right (ltb (position q a) q.len) _ w))

pub waits_here : (q : WaitQueue) (a : TaskId) (j : ℕ) → j < q.len → (place q j).0 ≡ a.0 → waits_at q a j ≡ true
waits_here q a j h e = rw (lt-ltb _ _ h, eq-eqb _ _ e)

-- one that joins, where there is room or it is there already
pub enqueued_contains : (q : WaitQueue) (a : TaskId) → (is_full q && not (contains q a)) ≡ false → length (enqueued q a).ids ≡ 8 → contains (enqueued q a) a ≡ true
unfolding enqueued pushed
enqueued_contains q a room =
    let longer : WaitQueue = record { ids = set q.ids q.len a; len = q.len + 1 } in
    either (λ (x : WaitQueue). length x.ids ≡ 8 → contains x a ≡ true) (contains q a) (λ e _. e)
    (λ e. either (λ (x : WaitQueue). length x.ids ≡ 8 → contains x a ≡ true) (is_full q) (λ f. absurd (false≢true (sym (rw (f, e) at room))))
    (λ f l. waits_in longer a q.len (leb-false 8 q.len f) (waits_here longer a q.len (omega arith) (ap (λ (b : TaskId). b.0) (get_or-set_same q.ids q.len a zero_id (omega (arith, leb-false 8 q.len f, l, length-set q.ids q.len a)))))))

-- those who are there stay
pub enqueued_keeps : (q : WaitQueue) (a b : TaskId) → contains q b ≡ true → contains (enqueued q a) b ≡ true
unfolding enqueued pushed
enqueued_keeps q a b e =
    let f = found_at q b e in
    let j = position q b in
    let longer : WaitQueue = record { ids = set q.ids q.len a; len = q.len + 1 } in
    either (λ (x : WaitQueue). contains x b ≡ true) (contains q a) (λ _. e)
    (λ _. either (λ (x : WaitQueue). contains x b ≡ true) (is_full q) (λ _. e)
    (λ _. waits_in longer b j f.0 (waits_here longer b j (omega (arith, f.1)) (ap (λ (c : TaskId). c.0) (get_or-set_other q.ids q.len j a zero_id (λ g. omega (arith, f.1, g))) ∙ f.2))))

-- but the one that is taken out
without_keeps : (q : WaitQueue) (i : ℕ) (b : TaskId) → i < q.len → ((place q i).0 ≡ b.0 → ⊥) → contains q b ≡ true → contains (without q i) b ≡ true
unfolding without place_without if◌then◌otherwise◌
without_keeps q i b h n e = go (dec_lt j i)
  where
    j : ℕ
    j = position q b

    f : (j < 8) × (j < q.len) × ((place q j).0 ≡ b.0)
    f = found_at q b e

    apart : j ≡ i → ⊥
    apart g = n (rw (← g) f.2)

    go : Dec (j < i) → contains (without q i) b ≡ true
    go (yes l) = waits_in (without q i) b j f.0 (waits_here (without q i) b j (omega (arith, f.1)) (rw (tabulate_at (place_without q i) zero_id 8 j f.0, lt-leb q.len (j + 1) (omega (arith, f.1)), lt-ltb j i l) f.2))
    go (no l) =
        let p = j - 1 in
        let back : p + 1 ≡ j = omega (arith, apart) in
        waits_in (without q i) b p (omega (arith, f.0)) (waits_here (without q i) b p (omega (arith, f.1, apart)) (rw (tabulate_at (place_without q i) zero_id 8 p (omega (arith, f.0)), lt-leb q.len (p + 1) (omega (arith, f.1, back)), le-ltb p i (omega (arith, back, apart)), back) f.2))

pub popped_keeps : (q : WaitQueue) (b : TaskId) → ((head q).0 ≡ b.0 → ⊥) → contains q b ≡ true → contains (popped q) b ≡ true
unfolding popped
popped_keeps q b n e = either (λ (x : WaitQueue). contains x b ≡ true) (is_empty q) (λ _. e) (λ _. without_keeps q 0 b (omega (arith, (found_at q b e).1)) n e)

pub removed_keeps : (q : WaitQueue) (a b : TaskId) → (a.0 ≡ b.0 → ⊥) → contains q b ≡ true → contains (removed q a) b ≡ true
unfolding removed
removed_keeps q a b n e = either (λ (x : WaitQueue). contains x b ≡ true) (contains q a) (λ g. let f = found_at q a g in without_keeps q (position q a) b f.1 (λ h. n (sym f.2 ∙ h)) e) (λ _. e)
