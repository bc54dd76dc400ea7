-- The last digit stands behind the others; without room there is none.
use Rattle.std.proofs.Common.{suc, ◌≡◌, refl, length, rules}
use Rattle.std.proofs.lemmas.List.{nil_from_length}
use Rattle.line_text.specs.Text.{digits}
use Rattle.line_text.proofs.internal.+fill.Goals as goal

pub returns-in-Some : goal.returns-in-Some
unfolding digits
returns-in-Some g t c =
    let long : length c.args.out.now ≡ suc (length c.in-Some.before.now) = search rules in
    rw (long, c.fill.ensures, c.digit.ensures) refl

pub returns-in_default : goal.returns-in_default
unfolding digits
returns-in_default g t c = rw (nil_from_length _ c.in_default.ensures.cases) refl
