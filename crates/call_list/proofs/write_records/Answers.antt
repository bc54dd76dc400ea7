-- A slot that is occupied has its record written behind the others; a whole kernel has as many as task_count says, and their regions lie in the arena.
use Rattle.std.proofs.Common.{◌≡◌, ℕ, ◌<◌, ◌≤◌, true, List, length, arith, zero-le}
use Rattle.base.proofs.Loops.{count_le}
use Rattle.kernel.specs.declared.control.TaskInfo.{TaskInfo}
use Rattle.kernel.specs.declared.scheduler.Kernel.{Kernel}
use Rattle.kernel.specs.Kernel.{slot, is_occupied, whole}
use Rattle.kernel.proofs.Whole.{is_whole}
use Rattle.call_list.proofs.Laws.{Written, written_start, written_room, written_more, written_other, written_done}
use Rattle.call_list.proofs.write_records.Goals as goal
use Rattle.call_list.proofs.write_records.Goals.{then-t, else-t}

room : {k : Kernel} {arena : List ℕ} {before : List TaskInfo} {i n : ℕ} {records : List TaskInfo} → Written k arena before i n records → whole k ≡ true → k.task_count ≤ length before → i < 16 → (slot k i).occupied ≡ true → n < length before
room {k} w h l g e = written_room w g e (omega (arith, (is_whole k h).count, l))

pub loop-t-init : goal.loop-t-init
loop-t-init c = (zero-le, written_start _ _ _)

pub task_info-requires : goal.task_info-requires
task_info-requires c =
    omega (arith, (is_whole _ c.requires.0).region c.loop-t.t-index c.loop-t-test.true c.if-t.true, c.requires.1)

pub offset_bounds-records-n : goal.offset_bounds-records-n
offset_bounds-records-n c = omega (arith, c.loop-t.invariant.1.count, count_le (is_occupied c.args.k) c.loop-t.t-index)

pub bounds-records-n : goal.bounds-records-n
bounds-records-n c =
    let r = room c.loop-t.invariant.1 c.requires.0 c.requires.2 c.loop-t-test.true c.if-t.true in
    omega (arith, r, c.loop-t.auto.records)

pub overflow_add-n : goal.overflow_add-n
overflow_add-n c = omega (arith, c.loop-t.invariant.1.count, count_le (is_occupied c.args.k) c.loop-t.t-index)

pub loop-t-preserved : goal.loop-t-preserved
loop-t-preserved c =
    let inv = c.loop-t.invariant.1 in
    elim c.if-t.branch [
      | then-t w ↦
          rw (w.records-is, w.n-is, w.task_info.ensures)
          (omega arith, written_more inv w.if-t.true (room inv c.requires.0 c.requires.2 c.loop-t-test.true w.if-t.true))
      | else-t w ↦ rw (w.records-is, w.n-is) (omega arith, written_other inv w.if-t.false)
    ]

pub returns : goal.returns
returns c = written_done c.loop-t.invariant.1 (omega arith)
