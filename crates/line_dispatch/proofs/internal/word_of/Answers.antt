-- Each branch is an arm of the definition.
use Rattle.std.proofs.Common.{refl}
use Rattle.base.proofs.Choices.{taken, left, tests}
use Rattle.line_dispatch.specs.Dispatch.{word_of}
use Rattle.line_dispatch.proofs.internal.word_of.Goals as goal

pub returns-then-k-eq0 : goal.returns-then-k-eq0
unfolding word_of
returns-then-k-eq0 c = taken _ _ _ _ (search tests) refl

pub returns-else-k-eq0 : goal.returns-else-k-eq0
unfolding word_of
returns-else-k-eq0 c = left _ _ _ _ (search tests) refl
