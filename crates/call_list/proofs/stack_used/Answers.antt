-- The painted words are counted in the region's, and no more than those are painted.
use Rattle.std.proofs.Common.{◌≡◌, ℕ, ◌+◌, ◌-◌, ◌≤◌, List, length, take, drop, arith, length-drop}
use Rattle.std.proofs.lemmas.List.{length-take-le}
use Rattle.base.proofs.Loops.{lowest_le}
use Rattle.kernel.specs.Control.{count_prefix}
use Rattle.call_list.proofs.stack_used.Goals as goal

painted_le : (words : List ℕ) → count_prefix words ≤ length words
unfolding count_prefix
painted_le words = lowest_le _ _

few : (s n : ℕ) (arena : List ℕ) (p : ℕ) → s + n ≤ length arena →
    p ≡ count_prefix (take (s + n - s) (drop s arena)) → p ≤ n
few s n arena p h e =
    let q : s + n - s ≡ n = omega arith in
    let is : p ≡ count_prefix (take n (drop s arena)) = rw q at e in
    let l : length (take n (drop s arena)) ≡ n = length-take-le n (drop s arena) (simp length-drop (omega arith)) in
    omega (arith, painted_le (take n (drop s arena)))

pub overflow_cast-result : goal.overflow_cast-result
overflow_cast-result c = omega (arith, few _ _ _ _ c.requires c.count_prefix-painted.ensures)

pub overflow_mul-result : goal.overflow_mul-result
overflow_mul-result c = omega (arith, few _ _ _ _ c.requires c.count_prefix-painted.ensures)

pub overflow_sub-result : goal.overflow_sub-result
overflow_sub-result c = omega (arith, few _ _ _ _ c.requires c.count_prefix-painted.ensures)
