-- The digits that `{}` prints are the low digits, as many as there are; so many digits have so many bytes.
use Prim.Native.Nat.{ℕ, zero, suc, ◌+◌, ◌/◌, ◌%◌, ◌^◌, ◌<◌}
use mathlib.Core.Path.{◌≡◌, refl, sym, ap, ◌∙◌}
use mathlib.Core.List.{◌∷◌, []}
use native.Mathlib.Omega.{arith}
use native.Mathlib.Numerals.{add-one}
use lib.ListN.{length, length-append}
use borrow.Author.Tests.{lt-ltb}
use Rattle.std.specs.Fmt.{decimal}
use Rattle.std.proofs.lemmas.Fmt.{decimal_by_steps}
use Rattle.base.proofs.Choices.{taken}
use Rattle.line_text.specs.Text.{digit, digits}

pub length-digits : (base count n : ℕ) → length (digits base count n) ≡ count
unfolding digits
length-digits base zero n = refl
length-digits base (suc count) n = omega (arith, length-append (digits base count (n / base)) (digit (n % base) ∷ []), length-digits base count (n / base))

last_digit : (n : ℕ) → digit (n % 10) ≡ 48 + n % 10
unfolding digit
last_digit n = sym (taken _ _ _ _ (lt-ltb (n % 10) 10 (omega arith)) refl)

pub decimal_is : (n : ℕ) → n < 2 ^ 64 → digits 10 (length (decimal n)) n ≡ decimal n
unfolding digits
decimal_is = decimal_by_steps (λ m ds. digits 10 (length ds) m ≡ ds)
    (λ m l. let small : m % 10 ≡ m = omega arith in ap (λ d. d ∷ []) (last_digit m ∙ ap (λ d. 48 + d) small))
    (λ m ds l h. rw (length-append ds ((48 + m % 10) ∷ []), add-one (length ds), h, last_digit m) refl)
