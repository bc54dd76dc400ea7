-- What was played and what was finished are all that is printed.
use Rattle.line_session.proofs.Opened.{opened_reached}
use Rattle.play_list.proofs.Whole.{play_room, finish_room, all_played}
use Rattle.play_list.proofs.play_all.Goals as goal

pub play-played-requires : goal.play-played-requires
play-played-requires c =
    (play_room c.args.list.now c.args.out.now c.requires, opened_reached _ c.open-opened.ensures.0)

pub finish-finished-requires : goal.finish-finished-requires
finish-finished-requires c = (finish_room c.play-played.ensures.plays c.requires, c.play-played.ensures.reached)

pub returns-clause-writes : goal.returns-clause-writes
returns-clause-writes c =
    let first = c.play-played.ensures.plays in
    let second = c.finish-finished.ensures.plays in
    all_played first c.requires second c.open-opened.ensures.0 c.open-opened.ensures.1
