-- So many digits are all that `{}` prints.
use Rattle.std.proofs.Common.{◌∙◌, ap}
use Rattle.line_text.specs.Text.{digits}
use Rattle.line_text.proofs.Digits.{decimal_is}
use Rattle.line_text.proofs.Writing.{put_as}
use Rattle.line_text.proofs.Text.put_decimal.Goals as goal

pub returns : goal.returns
returns c =
    let n = c.args.n in
    let count = c.decimal_digits.ensures in
    put_as c.put_digits.ensures (ap (λ m. digits 10 m n) count.value ∙ decimal_is n c.ranges.n.fits) count.most
