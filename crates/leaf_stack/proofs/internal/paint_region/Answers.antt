-- The region's words are paint, and no others were written.
use Rattle.std.proofs.Common.{◌≡◌, ℕ, ◌+◌, ◌-◌, ◌≤◌, List, ◌++◌, length, replicate, take, drop, arith, length-drop}
use Rattle.std.proofs.lemmas.List.{length-take-le, drop-drop}
use Rattle.kernel.specs.Control.{paint, painted}
use Rattle.leaf_stack.proofs.internal.paint_region.Goals as goal

back : (s n : ℕ) (xs ys : List ℕ) → s + n ≤ length xs →
    ys ≡ replicate (length (take (s + n - s) (drop s xs))) paint →
    take s xs ++ (ys ++ drop (s + n - s) (drop s xs)) ≡ take s xs ++ (replicate n paint ++ drop (s + n) xs)
back s n xs ys h e =
    let q : s + n - s ≡ n = omega arith in
    let l : length (take n (drop s xs)) ≡ n = length-take-le n (drop s xs) (omega (arith, length-drop s xs)) in
    rw (e, q, l, drop-drop)

pub returns : goal.returns
unfolding painted
returns c = back _ _ _ _ c.requires (c.fill.ensures.after (λ y e. e))
