-- The places of the array: a search of the first n, and what is left where one is taken out.
use Prim.Native.Nat.{ℕ, ◌+◌, ◌-◌, ◌≤◌, ◌<◌, min}
use native.Mathlib.Omega.{arith}
use native.Mathlib.Decide.{dec_lt}
use native.Mathlib.Nat.{le_refl}
use mathlib.Core.Path.{◌≡◌, refl, sym, ap, ◌∙◌}
use mathlib.Core.Bool.{Bool, true, false, ◌&&◌, false≢true}
use mathlib.Core.List.{List, [], ◌++◌, append-nil}
use lib.Dec.{ltb}
use lib.ListN.{length, get_or, take, drop, replicate, length-append, length-drop, get_or-eq_default}
use borrow.Author.Tests.{lt-ltb, le-ltb, ltb-true, le-leb, lt-leb}
use borrow.Rule.Slice.PartMut.{put_mid}
use Rattle.std.specs.Option.{unwrap_or}
use Rattle.std.specs.List.{position, position_or_len, CopiedTo, SameBelow}
use Rattle.std.proofs.lemmas.List.{get_or-take, length-take, length-take-le, get_or-replicate, get_or_append_left, get_or-append_right, ext_get_or, drop_all, length-replicate}
use Rattle.std.proofs.lemmas.List.Sums.{position_or_len_is}
use Rattle.base.specs.Choice.{if◌then◌otherwise◌}
use Rattle.base.specs.Below.{lowest_below, tabulate}
use Rattle.base.proofs.Choices.{and_left, and_right}
use Rattle.base.proofs.Loops.{lowest_le, lowest_before, lowest_is, tabulate_length, tabulate_at}
use Rattle.kernel.specs.declared.control.TaskId.{TaskId}
use Rattle.kernel.specs.declared.wait_queue.WaitQueue.{WaitQueue}
use Rattle.kernel.specs.WaitQueue.{zero_id, place_without}

fails : (a b : Bool) → a ≡ true → (a && b) ≡ false → b ≡ false
fails true b e h = h
fails false b e h = absurd (false≢true e)

pub position_taken : {A : Type 0} (p : A → Bool) (xs : List A) (d : A) (n m : ℕ) → length xs ≡ m → unwrap_or (position p (take n xs)) m ≡ lowest_below (λ j. ltb j n && p (get_or xs j d)) m
position_taken {A} p xs d n m e = go (dec_lt found m)
  where
    q : ℕ → Bool
    q j = ltb j n && p (get_or xs j d)

    found : ℕ
    found = lowest_below q m

    long : length (take n xs) ≡ min n m
    long = length-take n xs ∙ ap (min n) e

    before : (k : ℕ) → k < found → k < n → p (get_or (take n xs) k d) ≡ false
    before k h g = rw (get_or-take n xs k d g) (fails (ltb k n) (p (get_or xs k d)) (lt-ltb k n g) (lowest_before q m k h))

    go : Dec (found < m) → unwrap_or (position p (take n xs)) m ≡ found
    go (yes h) =
        let w = lowest_is q m h in
        let low : found < n = ltb-true _ _ (and_left (ltb found n) _ w) in
        let at : position_or_len p (take n xs) ≡ found = position_or_len_is p (take n xs) found d (omega (arith, long)) (λ k g. before k g (omega arith)) (λ _. rw (get_or-take n xs found d low) (and_right (ltb found n) _ w)) in
        rw (at, lt-ltb found (length (take n xs)) (omega (arith, long))) refl
    go (no h) =
        let all : found ≡ m = omega (arith, lowest_le q m) in
        let at : position_or_len p (take n xs) ≡ length (take n xs) = position_or_len_is p (take n xs) (length (take n xs)) d (le_refl _) (λ k g. before k (omega (arith, long)) (omega (arith, long))) (λ g. absurd (omega arith)) in
        rw (at, le-ltb (length (take n xs)) (length (take n xs)) (le_refl _)) (sym all)

-- place i taken out of the array: the places behind it copied one down, and zeros from the new length on
module _ (q : WaitQueue) (i : ℕ) (moved zeros : List TaskId) (m : ℕ) (within : i < 8) (long : length q.ids ≡ 8) (from : m ≡ min (q.len - 1) 7) (some : 0 < q.len) (still_long : length moved ≡ 8) (copied : CopiedTo q.ids moved (i + 1) i (length q.ids - (i + 1))) (below : SameBelow q.ids moved i) (cleared : zeros ≡ replicate (length (take (8 - m) (drop m moved))) zero_id) where
  left_long : length (take m moved) ≡ m
  left_long = length-take-le m moved (omega (arith, from))

  zeros_are : zeros ≡ replicate (8 - m) zero_id
  zeros_are =
      let l : length (take (8 - m) (drop m moved)) ≡ 8 - m = length-take-le (8 - m) (drop m moved) (omega (arith, length-drop m moved)) in
      rw l at cleared

  whole : put_mid m (8 - m) moved zeros ≡ take m moved ++ replicate (8 - m) zero_id
  whole =
      let none : drop (8 - m) (drop m moved) ≡ [] = drop_all (8 - m) (drop m moved) (omega (arith, length-drop m moved)) in
      rw (none, zeros_are, append-nil) refl

  at_low : (j : ℕ) → j < m → get_or moved j zero_id ≡ place_without q i j
  unfolding place_without if◌then◌otherwise◌
  at_low j h = go (dec_lt j i)
    where
      go : Dec (j < i) → get_or moved j zero_id ≡ place_without q i j
      go (yes l) = rw (lt-leb q.len (j + 1) (omega (arith, from)), lt-ltb j i l) (below j zero_id l)
      go (no l) =
          let next : i + 1 + (j - i) ≡ j + 1 = omega arith in
          rw (lt-leb q.len (j + 1) (omega (arith, from)), le-ltb j i (omega arith)) (copied j zero_id (omega arith) (omega (arith, from, long)) ∙ ap (λ n. get_or q.ids n zero_id) next)

  at_high : (j : ℕ) → m ≤ j → j < 8 → zero_id ≡ place_without q i j
  unfolding place_without if◌then◌otherwise◌
  at_high j h g = go (dec_lt (j + 1) q.len)
    where
      go : Dec (j + 1 < q.len) → zero_id ≡ place_without q i j
      go (no l) = rw (le-leb q.len (j + 1) (omega arith)) refl
      go (yes l) =
          let last : j ≡ 7 = omega (arith, from) in
          rw (lt-leb q.len (j + 1) l, le-ltb j i (omega arith)) (sym (get_or-eq_default q.ids zero_id (omega arith)))

  pub taken_out : put_mid m (8 - m) moved zeros ≡ tabulate (place_without q i) 8
  taken_out = whole ∙ ext_get_or zero_id _ _ same_long each
    where
      total : length (take m moved ++ replicate (8 - m) zero_id) ≡ 8
      total = length-append (take m moved) (replicate (8 - m) zero_id) ∙ omega (arith, left_long, length-replicate (8 - m) zero_id, from)

      same_long : length (take m moved ++ replicate (8 - m) zero_id) ≡ length (tabulate (place_without q i) 8)
      same_long = total ∙ sym (tabulate_length (place_without q i) 8)

      each : (j : ℕ) → j < length (take m moved ++ replicate (8 - m) zero_id) → get_or (take m moved ++ replicate (8 - m) zero_id) j zero_id ≡ get_or (tabulate (place_without q i) 8) j zero_id
      each j h = go (dec_lt j m)
        where
          right : get_or (tabulate (place_without q i) 8) j zero_id ≡ place_without q i j
          right = tabulate_at (place_without q i) zero_id 8 j (omega (arith, total))

          go : Dec (j < m) → get_or (take m moved ++ replicate (8 - m) zero_id) j zero_id ≡ get_or (tabulate (place_without q i) 8) j zero_id
          go (yes l) = get_or_append_left (take m moved) _ zero_id j (omega (arith, left_long)) ∙ (get_or-take m moved j zero_id l ∙ (at_low j l ∙ sym right))
          go (no l) = get_or-append_right (take m moved) _ m j zero_id left_long (omega arith) ∙ (get_or-replicate (8 - m) (j - m) zero_id zero_id (omega (arith, total, from)) ∙ (at_high j (omega arith) (omega (arith, total)) ∙ sym right))
