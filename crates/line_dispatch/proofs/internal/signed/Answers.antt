-- From 128 on, 256 less.
use Rattle.std.proofs.Common.{ℕ, ◌-◌, ◌<◌, ◌≡◌, ap, arith}
use lib.IntN.{pos, negsuc, ◌-ℤ◌}
use mir.Facts.{to_z-of_z}
use mir.Syntax.{w32}
use mir.Val.{SFits, to_z}
use borrow.Author.Tests.{lt-ltb}
use Rattle.base.proofs.Choices.{taken, left, tests}
use Rattle.line_dispatch.specs.Dispatch.{signed_byte}
use Rattle.line_dispatch.proofs.internal.signed.Goals as goal

-- a byte is read back as it is
byte-read : (k : ℕ) → k < 256 → to_z w32 k ≡ pos k
byte-read k h = to_z-of_z {w = w32} {z = pos k} (record { sfits = omega (arith, h) })

less : (k : ℕ) → k < 256 → to_z w32 k -ℤ pos 256 ≡ negsuc (255 - k)
less k h = rw (byte-read k h, lt-ltb k 256 h) (ap negsuc (omega arith))

less-fits : (k : ℕ) → SFits w32 (negsuc (255 - k))
less-fits k = record { sfits = omega arith }

pub returns-then-k-lt128 : goal.returns-then-k-lt128
unfolding signed_byte
returns-then-k-lt128 c = taken _ _ _ _ (search tests) (byte-read _ (omega arith))

pub returns : goal.returns
unfolding signed_byte
returns c =
    left _ _ _ _ (search tests)
    (rw (less c.args.k c.ranges.k.fits) (to_z-of_z (less-fits c.args.k)))
