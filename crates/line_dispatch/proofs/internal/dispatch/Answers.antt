-- An arm for each operation, by the contract of its call.
use Rattle.std.proofs.Common.{refl, ap, ◌∙◌}
use mir.Facts.{to_z-of_z}
use mir.Syntax.{w32}
use Rattle.kernel.specs.Calls.{result, step}
use Rattle.line_dispatch.specs.Dispatch.{id_of}
use Rattle.line_text.proofs.Writing.{nothing_put}
use Rattle.line_dispatch.specs.Dispatch.{answer_to, words_after, added_to}
use Rattle.line_dispatch.proofs.Plain.{plain}
use Rattle.line_dispatch.proofs.internal.dispatch.Goals as goal

pub returns-in-Add : goal.returns-in-Add
unfolding answer_to words_after added_to
returns-in-Add c = rw c.in-Add.is (c.add_task.ensures.0, c.add_task.ensures.1, nothing_put _)

pub returns-in-Start : goal.returns-in-Start
returns-in-Start c = plain _ _ _ c.in-Start.is refl c.start.ensures

pub returns-in-Tick : goal.returns-in-Tick
returns-in-Tick c = plain _ _ _ c.in-Tick.is refl c.update_tick.ensures

pub returns-in-Switch : goal.returns-in-Switch
returns-in-Switch c = plain _ _ _ c.in-Switch.is refl c.switch.ensures

pub returns-in-Exit : goal.returns-in-Exit
returns-in-Exit c = plain _ _ _ c.in-Exit.is refl c.exit_current_task.ensures

pub returns-in-Wait : goal.returns-in-Wait
returns-in-Wait c = plain _ _ _ c.in-Wait.is refl c.wait_task.ensures

pub returns-in-Reap : goal.returns-in-Reap
returns-in-Reap c = plain _ _ _ c.in-Reap.is refl c.reap_task.ensures

pub returns-in-Sleep : goal.returns-in-Sleep
returns-in-Sleep c =
    plain _ _ _ c.in-Sleep.is refl (rw (← c.ms_to_ticks-ticks.ensures) c.current_task_sleep_ticks.ensures)

pub returns-in-Wake : goal.returns-in-Wake
returns-in-Wake c = plain _ _ _ c.in-Wake.is refl c.wake_task.ensures

pub returns-in-Lock : goal.returns-in-Lock
returns-in-Lock c = plain _ _ _ c.in-Lock.is refl c.lock.ensures

pub returns-in-Unlock : goal.returns-in-Unlock
returns-in-Unlock c = plain _ _ _ c.in-Unlock.is refl c.unlock.ensures

pub returns-in-TryLock : goal.returns-in-TryLock
returns-in-TryLock c = plain _ _ _ c.in-TryLock.is refl c.try_lock.ensures

pub returns-in-Acquire : goal.returns-in-Acquire
returns-in-Acquire c = plain _ _ _ c.in-Acquire.is refl c.acquire.ensures

pub returns-in-TryAcquire : goal.returns-in-TryAcquire
returns-in-TryAcquire c = plain _ _ _ c.in-TryAcquire.is refl c.try_acquire.ensures

pub returns-in-Release : goal.returns-in-Release
returns-in-Release c = plain _ _ _ c.in-Release.is refl c.release.ensures

pub returns-in-EventWait : goal.returns-in-EventWait
returns-in-EventWait c = plain _ _ _ c.in-EventWait.is refl c.wait.ensures

pub returns-in-Signal : goal.returns-in-Signal
returns-in-Signal c = plain _ _ _ c.in-Signal.is refl c.signal.ensures

pub returns-in-Status : goal.returns-in-Status
returns-in-Status c = plain _ _ _ c.in-Status.is refl c.set_current_task_status.ensures

pub returns-in-Block : goal.returns-in-Block
returns-in-Block c = plain _ _ _ c.in-Block.is refl c.block_current_task.ensures

pub returns-in-ReapOne : goal.returns-in-ReapOne
returns-in-ReapOne c = plain _ _ _ c.in-ReapOne.is refl c.reap_one.ensures

pub returns-in-List : goal.returns-in-List
unfolding answer_to words_after added_to
returns-in-List c = rw c.in-List.is (c.list.ensures.0, refl, c.list.ensures.1)

pub returns-in-CurrentId : goal.returns-in-CurrentId
returns-in-CurrentId c = plain _ _ _ c.in-CurrentId.is refl c.current_task_id.ensures

pub returns-in-Result : goal.returns-in-Result
returns-in-Result c =
    let set = rw (to_z-of_z {w = w32} {z = c.signed.result} (record { sfits = c.signed.type_inv })) at c.set_syscall_result.ensures in
    plain _ _ _ c.in-Result.is refl (set ∙ ap (λ z. step c.args.k (result (id_of c.args.f.y) z)) c.signed.ensures)

pub returns-in-AcquireWithin : goal.returns-in-AcquireWithin
returns-in-AcquireWithin c = plain _ _ _ c.in-AcquireWithin.is refl (rw (← c.from.ensures) c.acquire_within.ensures)

pub returns-in-EventWaitWithin : goal.returns-in-EventWaitWithin
returns-in-EventWaitWithin c = plain _ _ _ c.in-EventWaitWithin.is refl (rw (← c.from-in-EventWaitWithin.ensures) c.wait_within.ensures)

pub returns-in-TicksToMs : goal.returns-in-TicksToMs
returns-in-TicksToMs c = plain _ _ _ c.in-TicksToMs.is refl c.ticks_to_ms.ensures

pub returns-in-Word : goal.returns-in-Word
unfolding answer_to words_after added_to
returns-in-Word c =
    rw c.in-Word.is (c.accepted.ensures, rw (← c.word_of.ensures) c.set_word.ensures, nothing_put _)

pub returns-in-Init : goal.returns-in-Init
unfolding answer_to words_after added_to
returns-in-Init c = rw c.in-Init.is (c.init.ensures.0, c.init.ensures.1, nothing_put _)
