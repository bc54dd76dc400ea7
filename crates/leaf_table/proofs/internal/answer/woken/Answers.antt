-- No slot, and one that is made Ready.
use borrow.Author.Tests.{lt-ltb, le-ltb}
use Rattle.base.specs.Choice.{if◌then◌otherwise◌}
use Rattle.leaf_table.proofs.internal.answer.woken.Goals as goal

pub returns-then-i-ge-MAX_TASKS : goal.returns-then-i-ge-MAX_TASKS
unfolding if◌then◌otherwise◌
returns-then-i-ge-MAX_TASKS c = rw (← c.unwrap_or-i.ensures, le-ltb _ 16 c.if-i-ge-MAX_TASKS.true) c.accepted.ensures

pub returns : goal.returns
unfolding if◌then◌otherwise◌
returns c = rw (← c.unwrap_or-i.ensures, lt-ltb _ 16 c.if-i-ge-MAX_TASKS.false, ← c.entered.ensures) c.accepted-2.ensures
