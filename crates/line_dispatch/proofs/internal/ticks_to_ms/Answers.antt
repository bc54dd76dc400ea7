-- The bits of y × 2^k, for a k of at most 32.
use Rattle.std.proofs.Common.{ℕ, ◌*◌, ◌%◌, ◌^◌, min, ◌<◌, ◌≡◌, refl, ap, ◌∙◌, arith, rules}
use lib.Pow.{shl_exact}
use Rattle.kernel.specs.Calls.{ticks_to_ms, step}
use Rattle.line_dispatch.specs.Dispatch.{ticks_of}
use Rattle.line_dispatch.proofs.internal.ticks_to_ms.Goals as goal

shifted : (k y e : ℕ) → y < 2 ^ 32 → e ≡ min k 32 → (y * 2 ^ e) % 2 ^ 64 ≡ ticks_of k y
unfolding ticks_of
shifted k y e h is = shl_exact 32 e 64 h (omega (arith, is)) ∙ ap (λ (n : ℕ). y * 2 ^ n) is

pub returns : goal.returns
returns c =
    c.ticks_to_ms.ensures
    ∙ ap (λ (n : ℕ). step c.args.kernel (ticks_to_ms n))
    (rw (c.from.ensures, c.min.ensures) (shifted c.args.k c.args.y (min c.args.k 32) (search rules) refl))
