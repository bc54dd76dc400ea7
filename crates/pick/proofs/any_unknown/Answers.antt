-- The bytes are tested one after another.
use Rattle.std.proofs.Common.{rules, tests, ◌≡◌, ltb, ◌∙◌, ◌||◌}
use Rattle.std.specs.Prelude.{false}
use Rattle.std.specs.List.{fold}
use Rattle.std.proofs.lemmas.Iterator.{YieldsList-from_slice}
use Rattle.std.proofs.lemmas.Iterator.Consumers.{fold_from_yields_List}
use Rattle.base.proofs.Lists.{any_each_below}
use Rattle.pick.proofs.Keys.{any_folded}
use Rattle.pick.proofs.any_unknown.Goals as goal

pub returns : goal.returns
returns c =
    let xs = c.args.states.now in
    let e : c.fold.result ≡ fold (λ a x. a || ltb 6 x) false xs =
    fold_from_yields_List _ (λ a x. a || ltb 6 x) _ _ c.fold.ensures.ran (YieldsList-from_slice xs cc) (λ a x b q k. search (rules, tests))
    in
    e ∙ any_folded (λ x. ltb 6 x) xs ∙ any_each_below (λ x. ltb 6 x) xs 0 16 c.requires
