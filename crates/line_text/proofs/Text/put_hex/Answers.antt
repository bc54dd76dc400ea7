-- So many digits to the base 16.
use Rattle.line_text.proofs.Text.put_hex.Goals as goal

pub returns : goal.returns
returns g c = c.put_digits.ensures
