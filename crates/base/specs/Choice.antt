-- A choice by a test, and a list of conditions.
use Rattle.std.specs.Prelude.{Bool, true, false, ◌&&◌, List, [], ◌∷◌}

infixr 10 if◌then◌otherwise◌
unfoldable pub if◌then◌otherwise◌ : {A : Type 0} → Bool → A → A → A
if◌then◌otherwise◌ true x y = x
if◌then◌otherwise◌ false x y = y

-- every condition of the list holds
unfoldable pub every : List Bool → Bool
every [] = true
every (b ∷ bs) = b && every bs
