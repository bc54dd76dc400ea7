-- The loop walks the slots in place, then current is charged and spends a tick: each step is a lemma of `Laws`.
use Rattle.std.proofs.Common.{sym, ◌∙◌, arith}
use Rattle.call_tick.proofs.Laws.{
  walking_start,
  walking_current,
  at_none,
  at_semaphore,
  at_event,
  walking_limit,
  walking_due,
  walking_other,
  walking_done,
  not_started,
  not_running,
  running,
}
use Rattle.call_tick.proofs.ticked.Goals as goal
use Rattle.call_tick.proofs.ticked.Goals.{
  then-is_limit_due,
  in-NoLimit,
  in-AtSemaphore,
  in-AtEvent,
  else-is_limit_due+then-is_due,
  else-is_limit_due+else-is_due,
}

pub loop-i-init : goal.loop-i-init
loop-i-init c = walking_start _ _

pub loop-i-preserved : goal.loop-i-preserved
loop-i-preserved c =
    let inv = c.loop-i.invariant in
    let test = c.loop-i-test.true in
    elim c.if-is_limit_due.branch [
      | then-is_limit_due w ↦
          rw (w.k-is, w.woke-is, w.expired.ensures)
          (walking_limit {k' = w.match-t.k} inv test (sym w.if-is_limit_due.ensures)
          (elim w.match-t.branch [
            | in-NoLimit v ↦ at_none _ _ _ _ v.in-NoLimit.is v.k-is
            | in-AtSemaphore v ↦ at_semaphore _ _ c.loop-i.k _ _ _ _ v.in-AtSemaphore.is v.from-s.ensures v.removed.ensures v.k-is
            | in-AtEvent v ↦ at_event _ _ c.loop-i.k _ _ _ _ v.in-AtEvent.is v.from-e.ensures v.removed-in-AtEvent.ensures v.k-is
          ]))
      | else-is_limit_due+then-is_due w ↦
          rw (w.k-is, w.woke-is, w.entered.ensures)
          (walking_due inv test (sym w.if-is_limit_due.ensures) (sym w.if-is_due.ensures))
      | else-is_limit_due+else-is_due w ↦
          rw (w.k-is, w.woke-is) (walking_other inv test (sym w.if-is_limit_due.ensures) (sym w.if-is_due.ensures))
    ]

-- current is a slot
pub offset_bounds-k-i-2 : goal.offset_bounds-k-i-2
offset_bounds-k-i-2 c = omega (arith, walking_current c.loop-i.invariant c.requires.0)

pub offset_bounds-k-i-3 : goal.offset_bounds-k-i-3
offset_bounds-k-i-3 c = omega (arith, walking_current c.loop-i.invariant c.requires.0)

pub offset_bounds-k-i-4 : goal.offset_bounds-k-i-4
offset_bounds-k-i-4 c = omega (arith, walking_current c.loop-i.invariant c.requires.0)

pub bounds-k-i-2 : goal.bounds-k-i-2
bounds-k-i-2 c = walking_current c.loop-i.invariant c.requires.0

pub bounds-k-i-3 : goal.bounds-k-i-3
bounds-k-i-3 c = walking_current c.loop-i.invariant c.requires.0

pub bounds-k-i-4 : goal.bounds-k-i-4
bounds-k-i-4 c = walking_current c.loop-i.invariant c.requires.0

pub bounds-k-i-5 : goal.bounds-k-i-5
bounds-k-i-5 c = walking_current c.loop-i.invariant c.requires.0

pub returns-then-not-k : goal.returns-then-not-k
returns-then-not-k c =
    let d = walking_done c.loop-i.invariant c.loop-i-test.false in
    c.accepted.ensures ∙ not_started _ _ _ d.0 d.1 c.if-not-k.true

pub returns-then-not-is_running : goal.returns-then-not-is_running
returns-then-not-is_running c =
    let d = walking_done c.loop-i.invariant c.loop-i-test.false in
    c.accepted-then-not-is_running.ensures ∙ not_running _ _ _ d.0 d.1 c.if-not-k.false (sym c.if-not-is_running.ensures)

pub returns : goal.returns
returns c =
    let d = walking_done c.loop-i.invariant c.loop-i-test.false in
    rw (c.accepted-2.ensures, c.spent.ensures)
    (running _ _ _ d.0 d.1 c.if-not-k.false (sym c.if-not-is_running.ensures))
