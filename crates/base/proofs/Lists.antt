-- What std's searches and tests of a list say, by the numbers below its length.
use Prim.Native.Nat.{ℕ, zero, suc, ◌+◌, ◌<◌, ◌≤◌}
use native.Mathlib.Omega.{arith}
use native.Mathlib.Nat.{le_refl}
use native.Mathlib.Numerals.{add-one}
use mathlib.Core.Path.{◌≡◌, refl, sym, ap, ◌∙◌}
use mathlib.Core.Bool.{Bool, true, false, ◌&&◌, ◌||◌}
use mathlib.Core.List.{List}
use lib.ListN.{length, get_or, take}
use lib.Dec.{ltb}
use borrow.Author.Tests.{lt-ltb, le-ltb}
use Rattle.std.specs.Option.{unwrap_or, IfSome}
use Rattle.std.specs.List.{list_all, count_by, position, position_or_len}
use Rattle.std.proofs.lemmas.List.Sums.{position_or_len_is, fold_more}
use Rattle.std.proofs.lemmas.List.Folds.{list_all_more}
use native.Mathlib.Decide.{dec_lt}
use mathlib.Core.Bool.{cond}
use Rattle.std.specs.Prelude.{Option, Some, None}
use Rattle.std.proofs.lemmas.List.{ext_get_or}
use Rattle.std.specs.Fn.{Called}
use Rattle.std.specs.Array.{MapsFrom, IsMapOf}
use denote.Param.Members.{Mut}
use Rattle.std.proofs.Math.Seq.{take-length}
use Rattle.std.specs.List.{list_any}
use Rattle.std.proofs.lemmas.List.Folds.{list_any_more}
use Rattle.base.specs.Choice.{if◌then◌otherwise◌}
use Rattle.base.specs.Below.{all_below, any_below, count_below, lowest_below, tabulate}
use Rattle.base.proofs.Loops.{lowest_le, lowest_before, lowest_is, tabulate_length, tabulate_at}

-- what std makes of the first place m of n, n where there is none
abbrev found : ℕ → ℕ → Option ℕ
found m n = cond (ltb m n) (Some m) None

found_place : (m n : ℕ) → m ≤ n → unwrap_or (found m n) n ≡ m
found_place m n h =
    elim (dec_lt m n) [
      | yes q ↦ rw (lt-ltb m n q) refl
      | no q ↦ rw (le-ltb m n (omega arith)) (omega arith)
    ]

found_below : (m n : ℕ) → IfSome (found m n) (λ i. i < n)
found_below m n =
    elim (dec_lt m n) [
      | yes q ↦ rw (lt-ltb m n q) q
      | no q ↦ rw (le-ltb m n (omega arith)) tt
    ]

place_of : {A : Type 0} (p : A → Bool) (xs : List A) (d : A) → position_or_len p xs ≡ lowest_below (λ i. p (get_or xs i d)) (length xs)
place_of p xs d =
    let q : ℕ → Bool = λ i. p (get_or xs i d) in
    position_or_len_is p xs (lowest_below q (length xs)) d (lowest_le q (length xs)) (λ k h. lowest_before q (length xs) k h) (λ h. lowest_is q (length xs) h)

pub position_lowest : {A : Type 0} (p : A → Bool) (xs : List A) (d : A) (n : ℕ) → length xs ≡ n → unwrap_or (position p xs) n ≡ lowest_below (λ i. p (get_or xs i d)) n
position_lowest p xs d n e =
    let q : ℕ → Bool = λ i. p (get_or xs i d) in
    rw (← e, place_of p xs d) (found_place (lowest_below q (length xs)) (length xs) (lowest_le q (length xs)))

-- the same without a number for none
pub position_is : {A : Type 0} (p : A → Bool) (xs : List A) (d : A) (n : ℕ) → length xs ≡ n → position p xs ≡ cond (ltb (lowest_below (λ i. p (get_or xs i d)) n) n) (Some (lowest_below (λ i. p (get_or xs i d)) n)) None
position_is p xs d n e = rw (← e, place_of p xs d)

pub position_below : {A : Type 0} (p : A → Bool) (xs : List A) (n : ℕ) → length xs ≡ n → IfSome (position p xs) (λ i. i < n)
position_below p xs n e = rw (← e) (found_below (position_or_len p xs) (length xs))

-- ---- tests

all_taken : {A : Type 0} (p : A → Bool) (xs : List A) (d : A) (n : ℕ) → n ≤ length xs → list_all p (take n xs) ≡ all_below (λ i. p (get_or xs i d)) n
unfolding all_below
all_taken p xs d zero h = refl
all_taken p xs d (suc n) h = rw (← add-one n) (list_all_more p xs n d (omega arith)) ∙ ap (λ b. b && p (get_or xs n d)) (all_taken p xs d n (omega arith))

pub all_each_below : {A : Type 0} (p : A → Bool) (xs : List A) (d : A) (n : ℕ) → length xs ≡ n → list_all p xs ≡ all_below (λ i. p (get_or xs i d)) n
all_each_below p xs d n e = rw (← e, ← all_taken p xs d (length xs) (le_refl _), take-length) refl

-- ---- counts

one_more : (b : Bool) (m : ℕ) → m + cond b 1 0 ≡ if b then suc m otherwise m
unfolding if◌then◌otherwise◌
one_more true m = add-one m
one_more false m = omega arith

count_taken : {A : Type 0} (p : A → Bool) (xs : List A) (d : A) (n : ℕ) → n ≤ length xs → count_by p (take n xs) ≡ count_below (λ i. p (get_or xs i d)) n
unfolding count_below
count_taken p xs d zero h = refl
count_taken p xs d (suc n) h =
    let e : count_by p (take (suc n) xs) ≡ count_by p (take n xs) + cond (p (get_or xs n d)) 1 0 = rw (← add-one n) (fold_more (λ a x. a + cond (p x) 1 0) 0 xs n d (omega arith)) in
    e ∙ rw (count_taken p xs d n (omega arith)) (one_more (p (get_or xs n d)) (count_below (λ i. p (get_or xs i d)) n))

pub count_each_below : {A : Type 0} (p : A → Bool) (xs : List A) (d : A) (n : ℕ) → length xs ≡ n → count_by p xs ≡ count_below (λ i. p (get_or xs i d)) n
count_each_below p xs d n e = rw (← e, ← count_taken p xs d (length xs) (le_refl _), take-length) refl

-- ---- several lists

-- what is true of two of them at once
swap : (a b c d : Bool) → ((a && b) && (c && d)) ≡ ((a && c) && (b && d))
swap true b true d = refl
swap true true false d = refl
swap true false false d = refl
swap false b c d = refl

pub all_both : (p q : ℕ → Bool) (n : ℕ) → (all_below p n && all_below q n) ≡ all_below (λ i. p i && q i) n
unfolding all_below
all_both p q zero = refl
all_both p q (suc n) = rw (← all_both p q n) (swap (all_below p n) (p n) (all_below q n) (q n))

any_taken : {A : Type 0} (p : A → Bool) (xs : List A) (d : A) (n : ℕ) → n ≤ length xs → list_any p (take n xs) ≡ any_below (λ i. p (get_or xs i d)) n
unfolding any_below
any_taken p xs d zero h = refl
any_taken p xs d (suc n) h = rw (← add-one n) (list_any_more p xs n d (omega arith)) ∙ ap (λ b. b || p (get_or xs n d)) (any_taken p xs d n (omega arith))

pub any_each_below : {A : Type 0} (p : A → Bool) (xs : List A) (d : A) (n : ℕ) → length xs ≡ n → list_any p xs ≡ any_below (λ i. p (get_or xs i d)) n
any_each_below p xs d n e = rw (← e, ← any_taken p xs d (length xs) (le_refl _), take-length) refl

-- ---- an array's map, whose calls leave the closure as it is and give h of each element

module _ {F A B : Type 0} (g : Mut F (A × Unit {0}) B) (h : A → B) (f : F) (same : (x : A) (y : B) (q : F) → Called g f (x, tt) y q → (q ≡ f) × (y ≡ h x)) (xs : List A) (ys : List B) (d : A) (e : B) where
  maps_at : (i n k : ℕ) → MapsFrom g f xs ys i n → k < n → get_or ys (i + k) e ≡ h (get_or xs (i + k) d)
  maps_at i zero k m l = absurd (omega arith)
  maps_at i (suc n) zero m l =
      let z : i + 0 ≡ i = omega arith in
      rw (z, m.4.1 e, m.3.1 d) (same m.1 m.2 m.0 m.5).1
  maps_at i (suc n) (suc k) m l =
      let z : i + suc k ≡ (i + 1) + k = omega arith in
      rw z (maps_at (i + 1) n k (rw (same m.1 m.2 m.0 m.5).0 at m.6) (omega arith))

  pub mapped : (n i : ℕ) → IsMapOf g f xs ys n → i < n → get_or ys i e ≡ h (get_or xs i d)
  mapped n i m l =
      let z : 0 + i ≡ i = omega arith in
      rw z at (maps_at 0 n i m.each l)

  pub mapped_all : (p : ℕ → B) (n : ℕ) → IsMapOf g f xs ys n → ((i : ℕ) → i < n → h (get_or xs i d) ≡ p i) → ys ≡ tabulate p n
  mapped_all p n m v =
      ext_get_or e ys (tabulate p n) (m.long ∙ sym (tabulate_length p n))
      (λ i l. let b : i < n = omega (arith, l, m.long) in mapped n i m b ∙ v i b ∙ sym (tabulate_at p e n i b))
