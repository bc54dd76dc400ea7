-- Each occupied slot's text, after a semicolon unless it is the first.
use Rattle.std.proofs.Common.{refl, arith}
use native.Mathlib.Nat.{le_refl}
use Rattle.base.proofs.Choices.{taken, left}
use Rattle.base.proofs.Loops.{any_start, upto_any}
use Rattle.line_text.proofs.Writing.{◌⨾◌, nothing_put, put_as}
use Rattle.line_objects.proofs.Joined.{joining_start, joining_room, joining_more, joining_done}
use Rattle.line_table.proofs.internal.put_occupied.Goals as goal
use Rattle.line_table.proofs.internal.put_occupied.Goals.{then-t, else-t}

pub loop-i-init : goal.loop-i-init
loop-i-init g c = record { joining = joining_start c.requires; upto = any_start _ _ }

pub put_between-requires : goal.put_between-requires
put_between-requires g c = omega (arith, joining_room _ c.loop-i.invariant.joining c.loop-i-test.true)

pub put-requires : goal.put-requires
put-requires g c =
    omega (arith, joining_room _ c.loop-i.invariant.joining c.loop-i-test.true, c.put_between.ensures.short, c.put_between.ensures.same_length)

pub loop-i-preserved : goal.loop-i-preserved
loop-i-preserved g c =
    let before = c.loop-i.invariant in
    record {
      joining = elim c.if-t.branch [
        | then-t w ↦ rw w.out-is (joining_more _ _ before.joining c.loop-i-test.true (λ _. before.upto.1) (put_as (w.put_between.ensures ⨾ w.put.ensures) (taken _ _ _ _ w.if-t.true refl) (le_refl _)))
        | else-t w ↦ rw w.out-is (joining_more _ _ before.joining c.loop-i-test.true (λ _. before.upto.1) (put_as (nothing_put {most = 0} _) (left _ _ _ _ w.if-t.false refl) (omega arith)))
      ];
      upto = upto_any _ _ _ _ _ before.upto c.loop-i-test.true refl;
    }

pub returns : goal.returns
returns g c = joining_done _ c.loop-i.invariant.joining (omega arith)
