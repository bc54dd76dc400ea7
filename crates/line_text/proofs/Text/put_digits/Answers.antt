-- The part of the slice that the digits fill.
use Rattle.std.proofs.Common.{◌≡◌, ◌+◌, ◌-◌, ap, ◌∙◌, length, take, drop, length-take, length-drop, arith}
use Rattle.line_text.specs.Text.{digits}
use Rattle.line_text.proofs.Digits.{length-digits}
use Rattle.line_text.proofs.Writing.{put_part}
use Rattle.line_text.proofs.Text.put_digits.Goals as goal

pub returns : goal.returns
returns g c =
    let at = c.args.self.now.at in
    let count = c.args.count in
    let rest = drop at c.args.self.now.out.now in
    let lent : length (take (at + count - at) rest) ≡ count = omega (arith, c.requires.2, length-take (at + count - at) rest, length-drop at c.args.self.now.out.now) in
    put_part _ _ _ (c.fill.ensures ∙ ap (λ m. digits g.row.BASE m c.args.n) lent) (length-digits g.row.BASE count c.args.n) (omega arith) c.requires.2
