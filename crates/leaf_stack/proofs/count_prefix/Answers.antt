-- The count is of the words that are paint from the front on, and that is a search for the first that is not.
use Rattle.std.proofs.Common.{tests, rules, ◌≡◌, ℕ, Bool, true, false, not, List, length, get_or, take, eqb, refl, sym, ◌∙◌}
use Rattle.std.specs.List.{prefix_len}
use Rattle.std.proofs.lemmas.Iterator.{YieldsList-from_slice}
use Rattle.std.proofs.lemmas.Iterator.Consumers.{count_from_yields_List}
use Rattle.std.proofs.lemmas.Iterator.Search.{YieldsList-from_take_while}
use Rattle.std.proofs.lemmas.List.Folds.{length-prefix_len}
use Rattle.std.proofs.lemmas.List.Sums.{prefix_len_is}
use Rattle.base.specs.Below.{lowest_below}
use Rattle.base.proofs.Choices.{not_clear}
use Rattle.base.proofs.Loops.{lowest_le, lowest_is, lowest_before}
use Rattle.kernel.specs.Control.{count_prefix, paint}
use Rattle.leaf_stack.proofs.count_prefix.Goals as goal

not_set : (b : Bool) → not b ≡ true → b ≡ false
not_set true e = sym e
not_set false e = refl

prefix_lowest : (p : ℕ → Bool) (xs : List ℕ) → prefix_len p xs ≡ lowest_below (λ i. not (p (get_or xs i 0))) (length xs)
prefix_lowest p xs =
    let q : ℕ → Bool = λ i. not (p (get_or xs i 0)) in
    let n = length xs in
    prefix_len_is p xs (lowest_below q n) 0 (lowest_le q n) (λ k h. not_clear _ (lowest_before q n k h)) (λ h. not_set _ (lowest_is q n h))

pub returns : goal.returns
unfolding count_prefix
returns c =
    let xs = c.args.words.now in
    let e : c.count.result ≡ length (take (prefix_len (λ x. eqb x paint) xs) xs) =
    count_from_yields_List _ _ c.count.ensures.ran (YieldsList-from_take_while _ (λ x. eqb x paint) (YieldsList-from_slice xs cc) c.take_while.ensures.closure c.take_while.ensures.done (λ x b q k. search (rules, tests)))
    in
    e ∙ (length-prefix_len (λ x. eqb x paint) xs ∙ prefix_lowest (λ x. eqb x paint) xs)
