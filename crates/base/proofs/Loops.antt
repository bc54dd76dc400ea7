-- Counted loops: one invariant for all of them, and what `all`, `any`, `count`, `sum`, `lowest`, `largest` and `smallest` tell of each number.
use Prim.Native.Nat.{ℕ, zero, suc, ◌+◌, ◌-◌, ◌≤◌, ◌<◌, zero-le, min}
use native.Mathlib.Omega.{arith}
use native.Mathlib.Nat.{le_refl}
use mathlib.Core.Path.{◌≡◌, refl, sym, ap, ◌∙◌}
use mathlib.Core.Bool.{Bool, true, false, ◌&&◌, ◌||◌, false≢true}
use mathlib.Core.List.{List, [], ◌∷◌, ◌++◌, append_assoc, append-nil, map}
use mathlib.Core.Logic.{◌⊎◌, inl, inr}
use lib.Dec.{ltb, lit≤}
use lib.ListN.{length, get_or, set, drop, length-append, length-drop, length-map}
use lib.Seq.{drop-cons, set_at, get_or_at, drop-length, get_or-set_same, get_or-set_other, set_out, ext_get_or}
use lib.ListN.{get_or-append, get_or-map, get_or-eq_default, length-set}
use native.Mathlib.Decide.{dec_lt, ℕ_discrete}
use native.Mathlib.Numerals.{add-one}
use mir.Val.{bool_byte}
use borrow.Author.Tests.{lt-ltb, le-ltb, ltb-true, ltb-false}
use Rattle.base.specs.Choice.{if◌then◌otherwise◌}
use Rattle.base.specs.Below.{all_below, any_below, count_below, sum_below, lowest_below, largest_below, smallest_below, tabulate}
use Rattle.base.proofs.Choices.{and_left, and_right, either, through}

-- A loop's invariant: x is f of the i turns done, of n.
abbrev pub Upto : {A : Type 0} → (ℕ → A) → ℕ → A → ℕ → Type 0
Upto f n x i = (i ≤ n) × (x ≡ f i)

upto_done : {A : Type 0} (f : ℕ → A) (n : ℕ) (x : A) (i : ℕ) → Upto f n x i → n ≤ i → x ≡ f n
upto_done f n x i u h = u.1 ∙ ap f (omega arith)

only : (i n : ℕ) → i < suc n → (i < n → ⊥) → i ≡ n
only i n h q = omega arith

-- ---- all

all_none : (p : ℕ → Bool) → true ≡ all_below p 0
unfolding all_below
all_none p = refl

all_more : (p : ℕ → Bool) (i : ℕ) → all_below p (i + 1) ≡ (all_below p i && p i)
unfolding all_below
all_more p i = rw add-one

pub all_at : (p : ℕ → Bool) (n i : ℕ) → all_below p n ≡ true → i < n → p i ≡ true
unfolding all_below
all_at p zero i e h = absurd (omega arith)
all_at p (suc n) i e h =
    elim (dec_lt i n) [
      | yes q ↦ all_at p n i (and_left (all_below p n) (p n) e) q
      | no q ↦ rw (only i n h q) (and_right (all_below p n) (p n) e)
    ]

pub all_each : (p : ℕ → Bool) (n : ℕ) → ((i : ℕ) → i < n → p i ≡ true) → all_below p n ≡ true
unfolding all_below
all_each p zero f = refl
all_each p (suc n) f = rw (all_each p n (λ i h. f i (omega arith)), f n (omega arith))

-- two tests that agree below n
pub all_same : (p q : ℕ → Bool) (n : ℕ) → ((i : ℕ) → i < n → p i ≡ q i) → all_below p n ≡ all_below q n
unfolding all_below
all_same p q zero f = refl
all_same p q (suc n) f = rw (all_same p q n (λ i h. f i (omega arith)), f n (omega arith))

pub all_start : (p : ℕ → Bool) (n : ℕ) → Upto (all_below p) n true 0
all_start p n = (zero-le, all_none p)

pub all_done : (p : ℕ → Bool) (n : ℕ) (x : Bool) (i : ℕ) → Upto (all_below p) n x i → n ≤ i → x ≡ all_below p n
all_done p = upto_done (all_below p)

pub upto_all : (p : ℕ → Bool) (n : ℕ) (x r : Bool) (i : ℕ) → Upto (all_below p) n x i → i < n → r ≡ p i → Upto (all_below p) n (x && r) (i + 1)
upto_all p n x r i u h e = (omega arith, rw (u.1, e, all_more p i))

-- ---- any

any_none : (p : ℕ → Bool) → false ≡ any_below p 0
unfolding any_below
any_none p = refl

any_more : (p : ℕ → Bool) (i : ℕ) → any_below p (i + 1) ≡ (any_below p i || p i)
unfolding any_below
any_more p i = rw add-one

pub any_start : (p : ℕ → Bool) (n : ℕ) → Upto (any_below p) n false 0
any_start p n = (zero-le, any_none p)

pub any_done : (p : ℕ → Bool) (n : ℕ) (x : Bool) (i : ℕ) → Upto (any_below p) n x i → n ≤ i → x ≡ any_below p n
any_done p = upto_done (any_below p)

pub upto_any : (p : ℕ → Bool) (n : ℕ) (x r : Bool) (i : ℕ) → Upto (any_below p) n x i → i < n → r ≡ p i → Upto (any_below p) n (x || r) (i + 1)
upto_any p n x r i u h e = (omega arith, rw (u.1, e, any_more p i))

-- a number that p holds of, from one of them and to one of them
pub any_some : (p : ℕ → Bool) (n i : ℕ) → i < n → p i ≡ true → any_below p n ≡ true
unfolding any_below
any_some p zero i h e = absurd (omega arith)
any_some p (suc n) i h e =
    elim (dec_lt i n) [
      | yes q ↦ rw (any_some p n i q e)
      | no q ↦ rw (← only i n h q, e) (or_true (any_below p i))
    ]
  where
    or_true : (b : Bool) → (b || true) ≡ true
    or_true true = refl
    or_true false = refl

pub any_at : (p : ℕ → Bool) (n : ℕ) → any_below p n ≡ true → (i : ℕ) × (i < n) × (p i ≡ true)
unfolding any_below
any_at p zero e = absurd (false≢true e)
any_at p (suc n) e = go (any_below p n) refl (any_at p n)
  where
    go : (b : Bool) → any_below p n ≡ b → (any_below p n ≡ true → (i : ℕ) × (i < n) × (p i ≡ true)) → (i : ℕ) × (i < suc n) × (p i ≡ true)
    go true q f = let x = f q in (x.0, omega (arith, x.1), x.2)
    go false q f = (n, omega arith, rw q at e)

-- p holds of none
pub any_false : (p : ℕ → Bool) (n : ℕ) → ((i : ℕ) → i < n → p i ≡ false) → any_below p n ≡ false
unfolding any_below
any_false p zero f = refl
any_false p (suc n) f = rw (f n (omega arith), any_false p n (λ i h. f i (omega arith)))

-- ---- count

count_none : (p : ℕ → Bool) → 0 ≡ count_below p 0
unfolding count_below
count_none p = refl

pub byte_small : (b : Bool) → bool_byte b ≤ 1
byte_small true = lit≤ tt
byte_small false = lit≤ tt

one_more : (b : Bool) (n : ℕ) → n + bool_byte b ≡ if b then suc n otherwise n
unfolding if◌then◌otherwise◌
one_more true n = add-one n
one_more false n = omega arith

count_more : (p : ℕ → Bool) (i : ℕ) → count_below p (i + 1) ≡ count_below p i + bool_byte (p i)
unfolding count_below
count_more p i = rw add-one (sym (one_more (p i) (count_below p i)))

pub count_le : (p : ℕ → Bool) (n : ℕ) → count_below p n ≤ n
unfolding count_below
count_le p zero = zero-le
count_le p (suc n) = either (λ m. m ≤ suc n) (p n) (λ _. omega (arith, count_le p n)) (λ _. omega (arith, count_le p n))

-- a number that p holds of is counted
pub count_some : (p : ℕ → Bool) (n i : ℕ) → i < n → p i ≡ true → 1 ≤ count_below p n
unfolding count_below
count_some p zero i h e = absurd (omega arith)
count_some p (suc n) i h e =
    either (λ m. 1 ≤ m) (p n) (λ _. omega arith)
    (λ f. elim (dec_lt i n) [
      | yes q ↦ count_some p n i q e
      | no q ↦ absurd (false≢true (sym f ∙ rw (← only i n h q) e))
    ])

-- two tests that agree below n
pub count_same : (p q : ℕ → Bool) (n : ℕ) → ((i : ℕ) → i < n → p i ≡ q i) → count_below p n ≡ count_below q n
unfolding count_below
count_same p q zero f = refl
count_same p q (suc n) f = rw (count_same p q n (λ i h. f i (omega arith)), f n (omega arith))

-- q holds of one number more than p
pub count_one : (p q : ℕ → Bool) (n x : ℕ) → x < n → p x ≡ false → q x ≡ true → ((i : ℕ) → (i ≡ x → ⊥) → q i ≡ p i) → count_below q n ≡ suc (count_below p n)
unfolding count_below if◌then◌otherwise◌
count_one p q zero x h e f s = absurd (omega arith)
count_one p q (suc n) x h e f s =
    elim (ℕ_discrete n x) [
      | yes g ↦ rw (g, e, f, count_same q p x (λ i l. s i (λ d. omega arith)))
      | no g ↦ rw (s n g, count_one p q n x (omega arith) e f s) (sym (through suc (p n) (suc (count_below p n)) (count_below p n)))
    ]

-- q holds of nothing that p does not hold of, and p of one number more
count_within : (p q : ℕ → Bool) (n : ℕ) → ((i : ℕ) → q i ≡ true → p i ≡ true) → count_below q n ≤ count_below p n
unfolding count_below
count_within p q zero f = zero-le
count_within p q (suc n) f =
    let r = count_within p q n f in
    either (λ m. m ≤ (if p n then suc (count_below p n) otherwise count_below p n)) (q n)
    (λ e. either (λ m. suc (count_below q n) ≤ m) (p n) (λ _. omega (arith, r)) (λ g. absurd (false≢true (sym g ∙ f n e))))
    (λ _. either (λ m. count_below q n ≤ m) (p n) (λ _. omega (arith, r)) (λ _. r))

pub count_fewer : (p q : ℕ → Bool) (n x : ℕ) → x < n → p x ≡ true → q x ≡ false → ((i : ℕ) → q i ≡ true → p i ≡ true) → count_below q n < count_below p n
unfolding count_below if◌then◌otherwise◌
count_fewer p q zero x h e g f = absurd (omega arith)
count_fewer p q (suc n) x h e g f =
    elim (dec_lt x n) [
      | yes l ↦ let r = count_fewer p q n x l e g f in
          either (λ m. m < (if p n then suc (count_below p n) otherwise count_below p n)) (q n)
          (λ a. either (λ m. suc (count_below q n) < m) (p n) (λ _. omega (arith, r)) (λ b. absurd (false≢true (sym b ∙ f n a))))
          (λ _. either (λ m. count_below q n < m) (p n) (λ _. omega (arith, r)) (λ _. r))
      | no l ↦ let is : x ≡ n = only x n h l in rw (← is, e, g) (let r = count_within p q x f in omega (arith, r))
    ]

pub count_start : (p : ℕ → Bool) (n : ℕ) → Upto (count_below p) n 0 0
count_start p n = (zero-le, count_none p)

pub count_done : (p : ℕ → Bool) (n x i : ℕ) → Upto (count_below p) n x i → n ≤ i → x ≡ count_below p n
count_done p = upto_done (count_below p)

pub upto_count : (p : ℕ → Bool) (n x i : ℕ) (r : Bool) → Upto (count_below p) n x i → i < n → r ≡ p i → Upto (count_below p) n (x + bool_byte r) (i + 1)
upto_count p n x i r u h e = (omega arith, rw (u.1, e, count_more p i))

-- ---- lowest

pub lowest_le : (p : ℕ → Bool) (n : ℕ) → lowest_below p n ≤ n
unfolding lowest_below
lowest_le p zero = zero-le
lowest_le p (suc n) = either (λ m. m ≤ suc n) (ltb (lowest_below p n) n) (λ _. omega (arith, lowest_le p n)) (λ _. either (λ m. m ≤ suc n) (p n) (λ _. omega arith) (λ _. le_refl (suc n)))

-- a search that has found nothing before i goes on
pub search_start : (p : ℕ → Bool) (n : ℕ) → Upto (lowest_below p) n 0 0
unfolding lowest_below
search_start p n = (zero-le, refl)

pub search_more : (p : ℕ → Bool) (n i : ℕ) → Upto (lowest_below p) n i i → i < n → p i ≡ false → Upto (lowest_below p) n (i + 1) (i + 1)
unfolding lowest_below if◌then◌otherwise◌
search_more p n i u h e = (omega arith, rw (add-one, ← u.1, le-ltb i i (le_refl i), e))

-- and ends where p holds
found : (p : ℕ → Bool) (i k : ℕ) → lowest_below p i ≡ i → p i ≡ true → lowest_below p (suc (k + i)) ≡ i
unfolding lowest_below if◌then◌otherwise◌
found p i zero u e = rw (zero_plus i, u, le-ltb i i (le_refl i), e)
  where
    zero_plus : (m : ℕ) → 0 + m ≡ m
    zero_plus m = omega arith
found p i (suc k) u e = rw (suc_plus k i, found p i k u e, lt-ltb i (suc (k + i)) (omega arith))
  where
    suc_plus : (a b : ℕ) → suc a + b ≡ suc (a + b)
    suc_plus a b = omega arith

pub search_found : (p : ℕ → Bool) (n i : ℕ) → Upto (lowest_below p) n i i → i < n → p i ≡ true → i ≡ lowest_below p n
search_found p n i u h e =
    let k : n ≡ suc ((n - suc i) + i) = omega arith in
    rw k (sym (found p i (n - suc i) (sym u.1) e))

pub search_done : (p : ℕ → Bool) (n i : ℕ) → Upto (lowest_below p) n i i → n ≤ i → n ≡ lowest_below p n
search_done p n i u h =
    let q : n ≡ i = omega arith in
    q ∙ upto_done (lowest_below p) n i i u h

-- a search's loop, by what its test says at each number
pub ruleset searching = (search_start, search_more, search_found, search_done)

-- one more to search: what was found stays found, and the last may be it
pub lowest_next : (p : ℕ → Bool) (n : ℕ) → lowest_below p n < n → lowest_below p (n + 1) < n + 1
unfolding lowest_below if◌then◌otherwise◌
lowest_next p n h = rw (add-one, lt-ltb _ _ h) (omega arith)

pub lowest_here : (p : ℕ → Bool) (n : ℕ) → p n ≡ true → lowest_below p (n + 1) < n + 1
unfolding lowest_below
lowest_here p n e =
    rw add-one
    (either (λ m. m < suc n) (ltb (lowest_below p n) n) (λ g. omega (arith, ltb-true (lowest_below p n) n g))
    (λ _. either (λ m. m < suc n) (p n) (λ _. omega arith) (λ g. absurd (false≢true (sym g ∙ e)))))

-- what was found is so, and nothing before it
pub lowest_is : (p : ℕ → Bool) (n : ℕ) → lowest_below p n < n → p (lowest_below p n) ≡ true
unfolding lowest_below
lowest_is p zero h = absurd (omega arith)
lowest_is p (suc n) h =
    either (λ m. m < suc n → p m ≡ true) (ltb (lowest_below p n) n) (λ e _. lowest_is p n (ltb-true _ _ e))
    (λ _. either (λ m. m < suc n → p m ≡ true) (p n) (λ e _. e) (λ _ g. absurd (omega arith))) h

pub lowest_before : (p : ℕ → Bool) (n i : ℕ) → i < lowest_below p n → p i ≡ false
unfolding lowest_below
lowest_before p zero i h = absurd (omega arith)
lowest_before p (suc n) i h =
    either (λ m. i < m → p i ≡ false) (ltb (lowest_below p n) n) (λ _ g. lowest_before p n i g)
    (λ e. either (λ m. i < m → p i ≡ false) (p n) (λ _ g. lowest_before p n i (omega (arith, ltb-false (lowest_below p n) n e)))
    (λ f g. elim (dec_lt i n) [
      | yes q ↦ lowest_before p n i (omega (arith, ltb-false (lowest_below p n) n e))
      | no q ↦ rw (only i n g q) f
    ])) h

-- where p holds, the lowest is not above
pub lowest_at : (p : ℕ → Bool) (n j : ℕ) → p j ≡ true → lowest_below p n ≤ j
lowest_at p n j e =
    elim (dec_lt j (lowest_below p n)) [
      | yes q ↦ absurd (false≢true (sym (lowest_before p n j q) ∙ e))
      | no q ↦ omega arith
    ]

-- p holds of i and of none before it
pub lowest_only : (p : ℕ → Bool) (n i : ℕ) → i < n → p i ≡ true → ((j : ℕ) → j < i → p j ≡ false) → lowest_below p n ≡ i
lowest_only p n i h e f =
    let l = lowest_at p n i e in
    elim (dec_lt (lowest_below p n) i) [
      | yes q ↦ absurd (false≢true (sym (f (lowest_below p n) q) ∙ lowest_is p n (omega (arith, q, h))))
      | no q ↦ omega (arith, l, q)
    ]

-- two tests that agree below n
pub lowest_same : (p q : ℕ → Bool) (n : ℕ) → ((i : ℕ) → i < n → p i ≡ q i) → lowest_below p n ≡ lowest_below q n
unfolding lowest_below
lowest_same p q zero f = refl
lowest_same p q (suc n) f = rw (lowest_same p q n (λ i h. f i (omega arith)), f n (omega arith))

-- nothing below n
pub lowest_none : (p : ℕ → Bool) (n : ℕ) → ((i : ℕ) → i < n → p i ≡ false) → lowest_below p n ≡ n
unfolding lowest_below if◌then◌otherwise◌
lowest_none p zero f = refl
lowest_none p (suc n) f = rw (lowest_none p n (λ i h. f i (omega arith)), le-ltb n n (le_refl n), f n (omega arith))

-- ---- largest

-- p holds of m and of none above it
pub largest_is : (p : ℕ → Bool) (n m : ℕ) → m < n → p m ≡ true → ((i : ℕ) → m < i → p i ≡ false) → largest_below p n ≡ m
unfolding largest_below if◌then◌otherwise◌
largest_is p zero m h e above = absurd (omega arith)
largest_is p (suc n) m h e above =
    elim (dec_lt m n) [
      | yes q ↦ rw (above n q) (largest_is p n m q e above)
      | no q ↦ let is : m ≡ n = only m n h q in rw (← is, e) refl
    ]

-- ---- smallest

pub smallest_le : (p : ℕ → Bool) (f : ℕ → ℕ) (x n : ℕ) → smallest_below p f x n ≤ x
unfolding smallest_below
smallest_le p f x zero = le_refl x
smallest_le p f x (suc n) = either (λ m. m ≤ x) (p n) (λ _. omega (arith, smallest_le p f x n)) (λ _. smallest_le p f x n)

-- at most f of each that p holds of
pub smallest_at : (p : ℕ → Bool) (f : ℕ → ℕ) (x n i : ℕ) → i < n → p i ≡ true → smallest_below p f x n ≤ f i
unfolding smallest_below if◌then◌otherwise◌
smallest_at p f x zero i h e = absurd (omega arith)
smallest_at p f x (suc n) i h e =
    elim (dec_lt i n) [
      | yes q ↦ either (λ m. m ≤ f i) (p n) (λ _. omega (arith, smallest_at p f x n i q e)) (λ _. smallest_at p f x n i q e)
      | no q ↦ let is : i ≡ n = only i n h q in rw (← is, e) (omega arith)
    ]

-- and no smaller than all of them
pub smallest_least : (b : ℕ) (p : ℕ → Bool) (f : ℕ → ℕ) (x n : ℕ) → b ≤ x → ((i : ℕ) → i < n → p i ≡ true → b ≤ f i) → b ≤ smallest_below p f x n
unfolding smallest_below
smallest_least b p f x zero h g = h
smallest_least b p f x (suc n) h g =
    let r = smallest_least b p f x n h (λ i l. g i (omega arith)) in
    either (λ m. b ≤ m) (p n) (λ e. omega (arith, r, g n (omega arith) e)) (λ _. r)

-- it is x, or f of one of them
pub smallest_is : (p : ℕ → Bool) (f : ℕ → ℕ) (x n : ℕ) → (smallest_below p f x n ≡ x) ⊎ ((i : ℕ) × (i < n) × (p i ≡ true) × (smallest_below p f x n ≡ f i))
unfolding smallest_below
smallest_is p f x zero = inl refl
smallest_is p f x (suc n) =
    either (λ m. (m ≡ x) ⊎ ((i : ℕ) × (i < suc n) × (p i ≡ true) × (m ≡ f i))) (p n)
    (λ e. elim (dec_lt (f n) (smallest_below p f x n)) [
      | yes h ↦ inr (n, omega arith, e, omega arith)
      | no h ↦ wider (min (smallest_below p f x n) (f n)) (omega arith) (smallest_is p f x n)
    ])
    (λ _. wider (smallest_below p f x n) refl (smallest_is p f x n))
  where
    wider : (m : ℕ) → m ≡ smallest_below p f x n → (smallest_below p f x n ≡ x) ⊎ ((i : ℕ) × (i < n) × (p i ≡ true) × (smallest_below p f x n ≡ f i)) → (m ≡ x) ⊎ ((i : ℕ) × (i < suc n) × (p i ≡ true) × (m ≡ f i))
    wider m q (inl e) = inl (q ∙ e)
    wider m q (inr r) = inr (r.0, omega (arith, r.1), r.2, q ∙ r.3)

pub smallest_same : (p q : ℕ → Bool) (f g : ℕ → ℕ) (x n : ℕ) → ((i : ℕ) → i < n → p i ≡ q i) → ((i : ℕ) → i < n → f i ≡ g i) → smallest_below p f x n ≡ smallest_below q g x n
unfolding smallest_below
smallest_same p q f g x zero a b = refl
smallest_same p q f g x (suc n) a b = rw (smallest_same p q f g x n (λ i h. a i (omega arith)) (λ i h. b i (omega arith)), a n (omega arith), b n (omega arith))

-- p holds of none
pub smallest_none : (p : ℕ → Bool) (f : ℕ → ℕ) (x n : ℕ) → ((i : ℕ) → i < n → p i ≡ false) → smallest_below p f x n ≡ x
unfolding smallest_below if◌then◌otherwise◌
smallest_none p f x zero a = refl
smallest_none p f x (suc n) a = rw (a n (omega arith)) (smallest_none p f x n (λ i h. a i (omega arith)))

-- ---- tabulate

pub tabulate_length : {A : Type 0} (f : ℕ → A) (n : ℕ) → length (tabulate f n) ≡ n
unfolding tabulate
tabulate_length f zero = refl
tabulate_length f (suc n) = length-append (tabulate f n) (f n ∷ []) ∙ omega (arith, tabulate_length f n)

pub tabulate_at : {A : Type 0} (f : ℕ → A) (d : A) (n i : ℕ) → i < n → get_or (tabulate f n) i d ≡ f i
unfolding tabulate
tabulate_at f d zero i h = absurd (omega arith)
tabulate_at f d (suc n) i h =
    elim (dec_lt i n) [
      | yes q ↦ get_or-append (tabulate f n) (f n ∷ []) d i (omega (arith, tabulate_length f n)) ∙ tabulate_at f d n i q
      | no q ↦ rw (only i n h q) (get_or_at (tabulate f n) (f n) [] d n (tabulate_length f n))
    ]

-- an array that a loop fills from the front: the first i are f of each, the others as they were
abbrev pub Filled : {A : Type 0} → (ℕ → A) → List A → List A → ℕ → Type 0
Filled f l xs i = (i ≤ length l) × (xs ≡ tabulate f i ++ drop i l)

pub filled_start : {A : Type 0} (f : ℕ → A) (l : List A) → Filled f l l 0
unfolding tabulate
filled_start f l = (zero-le, refl)

pub filled_more : {A : Type 0} (f : ℕ → A) (l xs : List A) (i : ℕ) (y : A) → Filled f l xs i → i < length l → y ≡ f i → Filled f l (set xs i y) (i + 1)
unfolding tabulate
filled_more f l xs i y u h e =
    (omega arith, rw (u.1, add-one i, drop-cons l i y h, set_at (tabulate f i) (get_or l i y) (drop (suc i) l) y i (tabulate_length f i), e, append_assoc))

pub filled_done : {A : Type 0} (f : ℕ → A) (l xs : List A) (n i : ℕ) → Filled f l xs i → length l ≡ n → n ≤ i → xs ≡ tabulate f n
filled_done f l xs n i u h g =
    let q : i ≡ length l = omega arith in
    u.1 ∙ rw (q, drop-length, append-nil, h)

-- reading it on the way
pub filled_length : {A : Type 0} (f : ℕ → A) (l xs : List A) (i : ℕ) → Filled f l xs i → length xs ≡ length l
filled_length f l xs i u = ap length u.1 ∙ simp (length-append, tabulate_length, length-drop) (omega arith)

-- f of each element
pub map_tabulate : {A B : Type 0} (f : A → B) (l : List A) (d : A) → map f l ≡ tabulate (λ i. f (get_or l i d)) (length l)
map_tabulate f l d =
    ext_get_or (f d) (map f l) (tabulate (λ i. f (get_or l i d)) (length l)) (length-map l f ∙ sym (tabulate_length (λ i. f (get_or l i d)) (length l)))
    (λ i h. get_or-map f l i d ∙ sym (tabulate_at (λ j. f (get_or l j d)) (f d) (length l) i (omega (arith, length-map l f))))

-- what holds of each place before i still does once place i is set, and of that too
pub set_more : {A : Type 0} (P : ℕ → A → Type 0) (d : A) (l : List A) (i : ℕ) (y : A) → i < length l → ((j : ℕ) → j < i → P j (get_or l j d)) → P i y → (j : ℕ) → j < i + 1 → P j (get_or (set l i y) j d)
set_more P d l i y h f p j g =
    elim (dec_lt j i) [
      | yes q ↦ rw (get_or-set_other l i j y d (λ e. omega arith)) (f j q)
      | no q ↦ rw (only j i (omega arith) q, get_or-set_same l i y d h) p
    ]

-- what holds of each place still does once one is set, also where that one is past the end
pub set_each : {A : Type 0} (P : ℕ → A → Type 0) (d : A) (l : List A) (x : ℕ) (y : A) → P x y → ((j : ℕ) → P j (get_or l j d)) → (j : ℕ) → P j (get_or (set l x y) j d)
set_each P d l x y h f j = go (ℕ_discrete j x) (dec_lt x (length l))
  where
    go : Dec (j ≡ x) → Dec (x < length l) → P j (get_or (set l x y) j d)
    go (no n) _ = rw (get_or-set_other l x j y d n) (f j)
    go (yes e) (yes g) = rw (e, get_or-set_same l x y d g) h
    go (yes e) (no g) = rw (set_out l x y (omega arith)) (f j)

-- a place set to what is read past the end
pub set_default : {A : Type 0} (d : A) (l : List A) (x : ℕ) → get_or (set l x d) x d ≡ d
set_default d l x =
    elim (dec_lt x (length l)) [
      | yes q ↦ get_or-set_same l x d d q
      | no q ↦ get_or-eq_default (set l x d) d (omega (arith, length-set l x d))
    ]

-- ---- sum, of numbers and of what lists hold

pub sum_start : (f : ℕ → ℕ) → sum_below f 0 ≡ 0
unfolding sum_below
sum_start f = refl

pub sum_more : (f : ℕ → ℕ) (i : ℕ) → sum_below f (i + 1) ≡ sum_below f i + f i
unfolding sum_below
sum_more f i = rw add-one

-- two that agree below n
pub sum_same : (f g : ℕ → ℕ) (n : ℕ) → ((i : ℕ) → i < n → f i ≡ g i) → sum_below f n ≡ sum_below g n
unfolding sum_below
sum_same f g zero h = refl
sum_same f g (suc n) h = rw (sum_same f g n (λ i l. h i (omega arith)), h n (omega arith))

-- a smaller each makes a smaller sum
pub sum_mono : (f g : ℕ → ℕ) (n : ℕ) → ((i : ℕ) → i < n → f i ≤ g i) → sum_below f n ≤ sum_below g n
unfolding sum_below
sum_mono f g zero h = omega arith
sum_mono f g (suc n) h = omega (arith, sum_mono f g n (λ i l. h i (omega arith)), h n (omega arith))

-- two that agree everywhere but at x
pub sum_but : (f g : ℕ → ℕ) (n x : ℕ) → x < n → ((i : ℕ) → (i ≡ x → ⊥) → g i ≡ f i) → sum_below g n + f x ≡ sum_below f n + g x
unfolding sum_below
sum_but f g zero x l h = absurd (omega arith)
sum_but f g (suc n) x l h =
    elim (ℕ_discrete n x) [
      | yes e ↦ rw (e, sum_same g f x (λ i m. h i (λ d. omega arith))) (omega arith)
      | no e ↦ omega (arith, sum_but f g n x (omega arith) h, h n e)
    ]

pub sum_none : (f : ℕ → ℕ) (n : ℕ) → ((i : ℕ) → i < n → f i ≡ 0) → sum_below f n ≡ 0
unfolding sum_below
sum_none f zero h = refl
sum_none f (suc n) h = omega (arith, sum_none f n (λ i l. h i (omega arith)), h n (omega arith))

-- a place of a list set to 0
pub sum_clear : (l : List ℕ) (n x : ℕ) → x < n → sum_below (λ i. get_or (set l x 0) i 0) n + get_or l x 0 ≡ sum_below (λ i. get_or l i 0) n
sum_clear l n x h = omega (arith, sum_but (λ i. get_or l i 0) (λ i. get_or (set l x 0) i 0) n x h (λ i e. get_or-set_other l x i 0 0 e), set_default 0 l x)

-- fewer of them make no more
pub sum_le : (f : ℕ → ℕ) (m n : ℕ) → m ≤ n → sum_below f m ≤ sum_below f n
unfolding sum_below
sum_le f zero n h = zero-le
sum_le f (suc m) zero h = absurd (omega arith)
sum_le f (suc m) (suc n) h =
    elim (ℕ_discrete m n) [
      | yes e ↦ rw e (le_refl _)
      | no e ↦ omega (arith, sum_le f (suc m) n (omega arith))
    ]

-- each is at most all of them
pub sum_at : (f : ℕ → ℕ) (n x : ℕ) → x < n → f x ≤ sum_below f n
sum_at f n x h = omega (arith, sum_more f x, sum_le f (x + 1) n (omega arith))

-- ---- the length of an array in a struct, which is known of its elements as they lie in memory
pub unmapped : {A B : Type 0} (f : A → B) (l : List A) (n : ℕ) → length (map f l) ≡ n → length l ≡ n
unmapped f l n e = sym (length-map l f) ∙ e
