-- The first n of the blank records are lent, and what the call made of them stands before the others.
use Rattle.std.proofs.Common.{◌≡◌, ◌-◌, refl, take, drop, replicate}
use Rattle.std.proofs.lemmas.List.{take-replicate, drop-replicate}
use Rattle.call_list.specs.Records.{blank_info}
use Rattle.call_list.proofs.list_in.Goals as goal

pub returns : goal.returns
returns c =
    let n = c.args.n in
    let lent : take n c.blanks-records.result ≡ replicate n blank_info =
    rw c.blanks-records.ensures (take-replicate n 16 blank_info c.requires) in
    let kept : drop n c.blanks-records.result ≡ replicate (16 - n) blank_info =
    rw c.blanks-records.ensures (drop-replicate n 16 blank_info) in
    let t = c.tasks-answer.ensures in
    (rw lent at t.0, rw (t.1, lent, kept) refl)
