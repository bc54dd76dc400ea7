-- Loops that write a `joined` text: one invariant for all of them, and what each of their needs asks of it.
use Prim.Native.Nat.{ℕ, zero, suc, ◌+◌, ◌*◌, ◌≤◌, ◌<◌, zero-le, min}
use mathlib.Core.Path.{◌≡◌, refl, sym, ap, subst, ◌∙◌}
use mathlib.Core.Bool.{Bool, true, false, ◌||◌}
use mathlib.Core.List.{List, [], ◌∷◌, ◌++◌, append-nil, map}
use native.Mathlib.Nat.{mul-suc, mul-le-mul_left, min-zero}
use native.Mathlib.Decide.{dec_lt}
use native.Mathlib.Numerals.{add-one}
use native.Mathlib.Omega.{arith}
use lib.Dec.{ltb}
use lib.ListN.{length, get_or, take, length-map, length-take}
use borrow.Author.Tests.{lt-ltb, le-ltb}
use Rattle.std.proofs.lemmas.List.{get_or-take}
use Rattle.base.specs.Choice.{if◌then◌otherwise◌}
use Rattle.base.specs.Below.{any_below}
use Rattle.line_text.specs.declared.Text.{Text}
use Rattle.line_text.specs.Text.{Room, Puts}
use Rattle.line_text.proofs.Writing.{nothing_put, ◌⨾◌, put_two, put_as}
use Rattle.line_objects.specs.ObjectsLine.{joined, joined_all}

-- what stands between the texts before i and text i
abbrev pub between : Bool → ℕ → List ℕ
between any byte = if any then byte ∷ [] otherwise []

-- Of n texts, the i first are put, each in at most `room` bytes; all of them fit.
pub record Joining (byte : ℕ) (p : ℕ → Bool) (text : ℕ → List ℕ) (room n : ℕ) (before after : Text) (i : ℕ) : Type 0 where
  pub within : i ≤ n
  pub puts : Puts (room * i) before (joined byte p text i) after
  pub fits : Room (room * n) before

pub joining_start : {byte : ℕ} {p : ℕ → Bool} {text : ℕ → List ℕ} {room n : ℕ} {s : Text} → Room (room * n) s → Joining byte p text room n s s 0
unfolding joined
joining_start {s = s} h = record { within = zero-le; puts = nothing_put s; fits = h }

-- before text i there is room for it
pub joining_room : {byte : ℕ} {p : ℕ → Bool} {text : ℕ → List ℕ} {room n : ℕ} {s s' : Text} (i : ℕ) → Joining byte p text room n s s' i → i < n → Room room s'
joining_room {room = room} {n = n} i j h =
    omega (arith, j.puts.short, j.puts.same_length, j.fits, rw (mul-suc room i) at (mul-le-mul_left {m = suc i} {n = n} room (omega arith)))

one_more : (byte : ℕ) (p : ℕ → Bool) (text : ℕ → List ℕ) (any : Bool) (i : ℕ) → (p i ≡ true → any ≡ any_below p i) → joined byte p text i ++ (if p i then between any byte ++ text i otherwise []) ≡ joined byte p text (i + 1)
unfolding joined if◌then◌otherwise◌
one_more byte p text any i same = rw add-one (by_cases (p i) same)
  where
    by_cases : (b : Bool) → (b ≡ true → any ≡ any_below p i) → joined byte p text i ++ (if b then between any byte ++ text i otherwise []) ≡ if b then joined byte p text i ++ (between (any_below p i) byte ++ text i) otherwise joined byte p text i
    by_cases true s = rw (s refl)
    by_cases false s = append-nil (joined byte p text i)

-- the text of i, with the byte before it, if p holds of i
pub joining_more : {byte : ℕ} {p : ℕ → Bool} {text : ℕ → List ℕ} {room n : ℕ} {s s' s'' : Text} (any : Bool) (i : ℕ) → Joining byte p text room n s s' i → i < n → (p i ≡ true → any ≡ any_below p i) → Puts room s' (if p i then between any byte ++ text i otherwise []) s'' → Joining byte p text room n s s'' (i + 1)
joining_more {byte} {p} {text} {room} any i j h same w =
    let most : room * i + room ≤ room * (i + 1) = rw (add-one i) (omega (arith, mul-suc room i)) in
    record { within = omega arith; puts = put_as (j.puts ⨾ w) (one_more byte p text any i same) most; fits = j.fits }

-- where p holds of all before i, there is one before i unless i is the first
pub all_before : (p : ℕ → Bool) (i : ℕ) → ((j : ℕ) → j < i → p j ≡ true) → ltb 0 i ≡ any_below p i
unfolding any_below
all_before p zero f = refl
all_before p (suc i) f = rw (lt-ltb 0 (suc i) (omega arith), f i (omega arith)) (or_true (any_below p i))
  where
    or_true : (a : Bool) → true ≡ (a || true)
    or_true true = refl
    or_true false = refl

-- where every number has a text, of at most `most` bytes, and a byte stands before all but the first
module _ {byte : ℕ} {text : ℕ → List ℕ} {most room n : ℕ} {s s₁ s₂ s₃ : Text} (i : ℕ) where
  pub joining_each : Joining byte (λ _. true) text room n s s₁ i → i < n → Puts 1 s₁ (between (ltb 0 i) byte) s₂ → Puts most s₂ (text i) s₃ → 1 + most ≤ room → Joining byte (λ _. true) text room n s s₃ (i + 1)
  unfolding if◌then◌otherwise◌
  joining_each j h w v fits = joining_more (ltb 0 i) i j h (λ _. all_before (λ _. true) i (λ _ _. refl)) (put_two w v fits)

pub joining_done : {byte : ℕ} {p : ℕ → Bool} {text : ℕ → List ℕ} {room n : ℕ} {s s' : Text} (i : ℕ) → Joining byte p text room n s s' i → n ≤ i → Puts (room * n) s (joined byte p text n) s'
joining_done {byte} {p} {text} {room} {n} {s} {s'} i j h =
    let e : i ≡ n = omega (arith, j.within) in
    subst (λ (m : ℕ). Puts (room * m) s (joined byte p text m) s') e j.puts

-- ---- the texts of a list's items

pub text_at : {A : Type 0} (text : A → List ℕ) (items : List A) (d : A) (i : ℕ) → i < length items → get_or (map text items) i [] ≡ text (get_or items i d)
text_at text [] d i h = absurd (omega arith)
text_at text (x ∷ items) d zero h = refl
text_at text (x ∷ items) d (suc i) h = text_at text items d i (omega arith)

pub joined_same : (byte : ℕ) {t u : ℕ → List ℕ} (n : ℕ) → ((i : ℕ) → i < n → t i ≡ u i) → joined byte (λ _. true) t n ≡ joined byte (λ _. true) u n
unfolding joined if◌then◌otherwise◌
joined_same byte zero f = refl
joined_same byte (suc n) f = rw (joined_same byte n (λ i h. f i (omega arith)), f n (omega arith)) refl

pub joined_items : {A : Type 0} (byte : ℕ) (text : A → List ℕ) (items : List A) (d : A) (n : ℕ) → length items ≡ n → joined_all byte (map text items) ≡ joined byte (λ _. true) (λ i. text (get_or items i d)) n
joined_items byte text items d n e = rw (length-map items text, e) (joined_same byte n (λ i h. text_at text items d i (omega (arith, e))))

pub joined_taken : {A : Type 0} (byte : ℕ) (text : A → List ℕ) (items : List A) (d : A) (n : ℕ) → n ≤ length items → joined_all byte (map text (take n items)) ≡ joined byte (λ _. true) (λ i. text (get_or items i d)) n
joined_taken byte text items d n h =
    let long : length (take n items) ≡ n = omega (arith, length-take n items) in
    joined_items byte text (take n items) d n long ∙ joined_same byte n (λ i g. ap text (get_or-take n items i d g))

-- those below a number are the first so many
pub joined_first : (byte : ℕ) (t : ℕ → List ℕ) (len n : ℕ) → joined byte (λ _. true) t (min len n) ≡ joined byte (λ j. ltb j len) t n
unfolding joined if◌then◌otherwise◌
joined_first byte t len zero = rw (min-zero len) refl
joined_first byte t len (suc n) = elim (dec_lt n len) [
  | yes h ↦
      let all : any_below (λ _. true) n ≡ any_below (λ j. ltb j len) n =
      sym (all_before (λ _. true) n (λ _ _. refl)) ∙ all_before (λ j. ltb j len) n (λ j g. lt-ltb j len (omega arith)) in
      let now : min len (suc n) ≡ suc n = omega arith in
      let before : n ≡ min len n = omega arith in
      rw (now, lt-ltb n len h, all, ← joined_first byte t len n, ← before) refl
  | no h ↦
      let same : min len (suc n) ≡ min len n = omega arith in
      rw (same, le-ltb n len (omega arith)) (joined_first byte t len n)
]
