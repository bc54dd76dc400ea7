-- One digit more for each division; at the end one digit is left.
use Rattle.std.proofs.Common.{◌+◌, ◌/◌, ◌%◌, ◌≤◌, [], ◌∷◌, ap, length, length-append, arith, rules}
use Rattle.std.specs.Fmt.{decimal}
use Rattle.std.proofs.lemmas.Fmt.{decimal_digit, decimal_step, length-decimal-le}
use Rattle.line_text.proofs.internal.decimal_digits.Goals as goal

pub overflow_add-count : goal.overflow_add-count
overflow_add-count c =
    let most = length-decimal-le 20 c.args.n (omega arith) (omega arith) c.ranges.n.fits in
    let small : c.loop-left.count ≤ 21 = omega (arith, c.loop-left.invariant) in
    search rules

pub loop-left-preserved : goal.loop-left-preserved
loop-left-preserved c =
    let left = c.loop-left.left in
    omega (arith, c.loop-left.invariant, ap length (decimal_step left (omega arith) (omega arith)), length-append (decimal (left / 10)) ((48 + left % 10) ∷ []))

pub returns-clause-value : goal.returns-clause-value
returns-clause-value c = omega (arith, c.loop-left.invariant, ap length (decimal_digit c.loop-left.left (omega arith)))

pub returns-clause-most : goal.returns-clause-most
returns-clause-most c =
    omega (arith, c.loop-left.invariant, ap length (decimal_digit c.loop-left.left (omega arith)), length-decimal-le 20 c.args.n (omega arith) (omega arith) c.ranges.n.fits)
