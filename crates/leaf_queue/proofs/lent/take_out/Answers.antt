-- The array is the definition's, place by place.
use Rattle.std.proofs.Common.{◌≡◌, length, arith, ◌∙◌}
use Rattle.kernel.specs.WaitQueue.{without}
use Rattle.leaf_queue.proofs.Places.{taken_out}
use Rattle.leaf_queue.proofs.lent.take_out.Goals as goal

pub returns : goal.returns
unfolding without
returns c =
    let long : length c.args.q.now.ids ≡ 8 = omega arith in
    rw (taken_out c.args.q.now c.args.i c.copy_within.new.self c.fill.new.self c.min.result c.requires.0 long c.min.ensures c.requires.1 (c.copy_within.ensures.len ∙ long) c.copy_within.ensures.by_index.0 c.copy_within.ensures.by_index.1 (c.fill.ensures.after (λ y e. cc)))
