-- In each arm the variant is known.
use Rattle.std.proofs.Common.{refl, arith}
use Rattle.line_text.proofs.Writing.{◌⨾◌, put_as}
use Rattle.line_table.specs.TableLine.{kept_text}
use Rattle.line_table.proofs.internal.put_kept.Goals as goal

pub returns-in-NoLimit : goal.returns-in-NoLimit
unfolding kept_text
returns-in-NoLimit c = put_as c.put_text.ensures (rw c.in-NoLimit.is refl) (omega arith)

pub returns-in-AtSemaphore : goal.returns-in-AtSemaphore
unfolding kept_text
returns-in-AtSemaphore c =
    put_as (c.put_text-in-AtSemaphore.ensures ⨾ c.put_field.ensures ⨾ c.put_field-in-AtSemaphore.ensures) (rw c.in-AtSemaphore.is refl) (omega arith)

pub returns-in-AtEvent : goal.returns-in-AtEvent
unfolding kept_text
returns-in-AtEvent c =
    put_as (c.put_text-in-AtEvent.ensures ⨾ c.put_field-in-AtEvent.ensures ⨾ c.put_field-in-AtEvent-2.ensures) (rw c.in-AtEvent.is refl) (omega arith)
