-- The byte of a `bool` is the contract's choice of 1 or 0.
use Rattle.std.proofs.Common.{Bool, true, false, ◌≡◌, refl}
use mir.Val.{bool_byte}
use Rattle.base.specs.Choice.{if◌then◌otherwise◌}
use Rattle.kernel.specs.Calls.{value_number}
use Rattle.line_answer.proofs.value_number.Goals as goal

byte_is : (b : Bool) → bool_byte b ≡ if b then 1 otherwise 0
unfolding if◌then◌otherwise◌
byte_is true = refl
byte_is false = refl

pub returns-in-YesNo : goal.returns-in-YesNo
unfolding value_number
returns-in-YesNo c = rw c.in-YesNo.is (byte_is _)
