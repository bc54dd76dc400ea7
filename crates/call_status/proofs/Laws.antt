-- What an operand that may be unfit makes of a check: the number is that of the test which it fails.
use mathlib.Core.Path.{◌≡◌, refl, sym}
use mathlib.Core.Bool.{Bool, true, false, not, false≢true}
use Rattle.std.specs.declared.option.Option.{Option}
use Rattle.std.specs.declared.option.Option.TheVariants.{Some, None}
use Rattle.std.specs.declared.result.Result.{Result}
use Rattle.std.specs.Option.{is_some, ok_or}
use Rattle.base.specs.Choice.{if◌then◌otherwise◌}
use Rattle.kernel.specs.declared.scheduler.Refusal.{Refusal}
use Rattle.kernel.specs.Refusal.{refusal_number, number_of}

pub unfit : {A : Type 0} (o : Option A) (b : Bool) (r : Refusal) (x : Result A Refusal) → is_some o ≡ not b → x ≡ ok_or o r → number_of x ≡ if b then refusal_number r otherwise 0
unfolding if◌then◌otherwise◌
unfit (Some a) true r x f e = absurd (false≢true (sym f))
unfit (Some a) false r x f e = rw e refl
unfit None true r x f e = rw e refl
unfit None false r x f e = absurd (false≢true f)
