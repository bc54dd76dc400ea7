-- Load per thousand: exactly one share and remainder meet 02's equation with its bound, the definition finds them, and
-- they are the quotient and the rest. Then what the call's checks say.
use Prim.Native.Nat.{ℕ, ◌+◌, ◌*◌, ◌/◌, ◌%◌, ◌≤◌, ◌<◌}
use native.Mathlib.Omega.{arith}
use native.Mathlib.Nat.{mul-le-mul_right, div-add-mod', mod-lt, suc-mul}
use native.Mathlib.Decide.{dec_lt}
use mathlib.Core.Path.{◌≡◌, refl, sym, ap, ◌∙◌}
use mathlib.Core.Bool.{true, false, not}
use lib.Dec.{eqb, ltb}
use borrow.Author.Tests.{eqb-true, ltb-true, eq-eqb, ne_eqb, lt-ltb, le-ltb}
use Rattle.base.proofs.Choices.{taken, left, and_left, and_right, not_yes}
use Rattle.base.proofs.Loops.{lowest_only, sum_at}
use Rattle.kernel.specs.Types.{TaskId, Kernel}
use Rattle.kernel.specs.Kernel.{charge, charge_sum, slot_of, whole}
use Rattle.kernel.specs.Load.{IsLoad, is_load, left_of, load_share, load_remainder}
use Rattle.kernel.specs.Calls.{load, number}

-- ---- one pair meets the equation with its bound, and no other

-- of two shares with the same sum the one is not below the other
not_below : (t s r s' r' : ℕ) → s * t + r ≡ s' * t + r' → r < t → s < s' → ⊥
not_below t s r s' r' e b h = omega (arith, e, b, mul-le-mul_right t h, suc-mul s t)

pub load_once : {c t s r s' r' : ℕ} → IsLoad c t s r → IsLoad c t s' r' → (s ≡ s') × (r ≡ r')
load_once {c} {t} {s} {r} {s'} {r'} a b =
    let e : s * t + r ≡ s' * t + r' = sym a.equation ∙ b.equation in
    let same = once e in
    (same, let f : s * t ≡ s' * t = ap (λ (n : ℕ). n * t) same in omega (arith, e, f))
  where
    once : s * t + r ≡ s' * t + r' → s ≡ s'
    once e =
        elim (dec_lt s s') [
          | yes h ↦ absurd (not_below t s r s' r' e a.below h)
          | no h ↦ elim (dec_lt s' s) [
            | yes g ↦ absurd (not_below t s' r' s r (sym e) b.below g)
            | no g ↦ omega (arith, h, g)
          ]
        ]

-- the quotient and the rest
pub load_quotient : (c t : ℕ) → 0 < t → IsLoad c t (1000 * c / t) (1000 * c % t)
load_quotient c t h = record { equation = sym (div-add-mod' (1000 * c) t); below = mod-lt (1000 * c) h }

-- no share is above 1000
pub thousand_most : (s t : ℕ) → 0 < t → s * t ≤ 1000 * t → s ≤ 1000
thousand_most s t p h =
    elim (dec_lt 1000 s) [
      | yes g ↦ let m : 1001 * t ≤ s * t = mul-le-mul_right t g in absurd (omega (arith, m, h, p))
      | no g ↦ omega (arith, g)
    ]

pub share_most : {c t s r : ℕ} → c ≤ t → IsLoad c t s r → s ≤ 1000
share_most {t = t} {s = s} h a = thousand_most s t (omega (arith, a.below)) (omega (arith, a.equation, h))

-- ---- the definition finds it

holds : {c t s r : ℕ} → IsLoad c t s r → is_load c t s (left_of c t s) ≡ true
holds {c} {t} {s} {r} a = rw (eq-eqb (1000 * c) (s * t + left_of c t s) (omega (arith, a.equation)), lt-ltb (left_of c t s) t (omega (arith, a.equation, a.below)))

told : (c t s : ℕ) → is_load c t s (left_of c t s) ≡ true → IsLoad c t s (left_of c t s)
told c t s e = record { equation = eqb-true _ _ (and_left (eqb (1000 * c) (s * t + left_of c t s)) (ltb (left_of c t s) t) e); below = ltb-true _ _ (and_right (eqb (1000 * c) (s * t + left_of c t s)) (ltb (left_of c t s) t) e) }

share_is : {c t s r : ℕ} → c ≤ t → IsLoad c t s r → load_share c t ≡ s
unfolding load_share
share_is {c} {t} {s} {r} h a =
    lowest_only (λ x. is_load c t x (left_of c t x)) 1001 s (omega (arith, share_most h a)) (holds a)
    (λ j l. not_yes _ (λ e. let same = load_once (told c t j e) a in omega (arith, same.0, l)))

pub load_is : {c t s r : ℕ} → c ≤ t → IsLoad c t s r → (load_share c t ≡ s) × (load_remainder c t ≡ r)
unfolding load_remainder
load_is {c} {t} {s} {r} h a =
    let e = share_is h a in
    (e, rw e (omega (arith, a.equation)))

pub load_found : (c t : ℕ) → 0 < t → c ≤ t → IsLoad c t (load_share c t) (load_remainder c t)
load_found c t p h =
    let q = load_quotient c t p in
    let f = load_is h q in
    rw (f.0, f.1) q

-- ---- the call's number: not whole, no such id, no tick since the start, and accepted

pub charge_within : (k : Kernel) (i : ℕ) → i < 16 → charge k i ≤ charge_sum k
charge_within k i h = omega (arith, sum_at (charge k) 16 i h)

pub load_not_whole : (k : Kernel) (a : TaskId) → whole k ≡ false → 1 ≡ number k (load a)
unfolding number
load_not_whole k a w = taken _ _ _ _ (ap not w) refl

pub load_unknown : (k : Kernel) (a : TaskId) → whole k ≡ true → 16 ≤ slot_of k a → 8 ≡ number k (load a)
unfolding number
load_unknown k a w h = left _ _ _ _ (ap not w) (taken _ _ _ _ (ap not (le-ltb _ _ h)) refl)

pub load_no_tick : (k : Kernel) (a : TaskId) → whole k ≡ true → slot_of k a < 16 → charge_sum k ≡ 0 → 24 ≡ number k (load a)
unfolding number
load_no_tick k a w h z = left _ _ _ _ (ap not w) (left _ _ _ _ (ap not (lt-ltb _ _ h)) (taken _ _ _ _ (eq-eqb (charge_sum k) 0 z) refl))

pub load_accepted : (k : Kernel) (a : TaskId) → whole k ≡ true → slot_of k a < 16 → 0 < charge_sum k → 0 ≡ number k (load a)
unfolding number
load_accepted k a w h p = left _ _ _ _ (ap not w) (left _ _ _ _ (ap not (lt-ltb _ _ h)) (left _ _ _ _ (ne_eqb (charge_sum k) 0 (λ z. omega (arith, z))) refl))
