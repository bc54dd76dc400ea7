-- What std's test of the four words says, by their places in the arena.
use Rattle.std.proofs.Common.{◌≡◌, ℕ, ◌+◌, ◌-◌, ◌≤◌, Bool, List, length, get_or, take, drop, ap, ◌∙◌, arith, length-drop}
use Rattle.std.proofs.lemmas.List.{length-take-le, get_or-take, get_or-drop}
use Rattle.std.specs.List.{list_all}
use Rattle.base.specs.Below.{all_below}
use Rattle.base.proofs.Lists.{all_each_below}
use Rattle.base.proofs.Loops.{all_same}
use Rattle.kernel.specs.Control.{stack_guard_ok}
use Rattle.call_switch.proofs.stack_guard_ok.Goals as goal

words_from : (p : ℕ → Bool) (s n : ℕ) (arena : List ℕ) → s + n ≤ length arena
    → list_all p (take (s + n - s) (drop s arena)) ≡ all_below (λ i. p (get_or arena (s + i) 0)) n
words_from p s n arena h =
    let q : s + n - s ≡ n = omega arith in
    let l : length (take n (drop s arena)) ≡ n = length-take-le n (drop s arena) (simp length-drop (omega arith)) in
    rw q
    (all_each_below p (take n (drop s arena)) 0 n l
    ∙ all_same _ _ n (λ i g. ap p (get_or-take n (drop s arena) i 0 g ∙ get_or-drop s arena i 0)))

pub returns : goal.returns
unfolding stack_guard_ok
returns c = c.all_painted.ensures ∙ words_from _ _ 4 c.args.arena.now c.requires
