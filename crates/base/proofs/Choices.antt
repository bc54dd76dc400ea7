-- Ways through a choice, and the tests that a branch of the code leaves: z is what the taken arm says, so z is what the choice gives.
use mathlib.Core.Path.{◌≡◌, refl, sym, ◌∙◌}
use mathlib.Core.Bool.{Bool, true, false, not, ◌||◌, ◌&&◌, false≢true, and-true, and_assoc}
use mathlib.Core.List.{List, [], ◌∷◌}
use lib.ListN.{get_or}
use lib.Dec.{eqb, ltb}
use Prim.Native.Nat.{ℕ, zero, suc, ◌<◌, ◌≤◌}
use native.Mathlib.Omega.{arith}
use borrow.Author.Tests.{lt-ltb, le-ltb, le-leb, lt-leb, eq-eqb, ne_eqb}
use Rattle.base.specs.Choice.{if◌then◌otherwise◌, every}

pub taken : {A : Type 0} (b : Bool) (x y z : A) → b ≡ true → z ≡ x → z ≡ if b then x otherwise y
unfolding if◌then◌otherwise◌
taken b x y z e h = rw e h

pub left : {A : Type 0} (b : Bool) (x y z : A) → b ≡ false → z ≡ y → z ≡ if b then x otherwise y
unfolding if◌then◌otherwise◌
left b x y z e h = rw e h

-- what both arms say, the choice says
pub either : {A : Type 0} (P : A → Type 0) (b : Bool) {x y : A} → (b ≡ true → P x) → (b ≡ false → P y) → P (if b then x otherwise y)
unfolding if◌then◌otherwise◌
either P true f g = f refl
either P false f g = g refl

-- a function of a choice is the choice of its values
pub through : {A B : Type 0} (f : A → B) (b : Bool) (x y : A) → f (if b then x otherwise y) ≡ if b then f x otherwise f y
unfolding if◌then◌otherwise◌
through f true x y = refl
through f false x y = refl

-- a check that refuses with n was not met, and what follows it is clear
pub clear : (b : Bool) (n y : ℕ) → 0 < n → (if b then n otherwise y) ≡ 0 → (b ≡ false) × (y ≡ 0)
unfolding if◌then◌otherwise◌
clear true n y h e = absurd (omega arith)
clear false n y h e = (refl, e)

pub not_clear : (b : Bool) → not b ≡ false → b ≡ true
not_clear true e = refl
not_clear false e = sym e

pub not_yes : (b : Bool) → (b ≡ true → ⊥) → b ≡ false
not_yes true h = absurd (h refl)
not_yes false h = refl

pub and_left : (a b : Bool) → (a && b) ≡ true → a ≡ true
and_left true b e = refl
and_left false b e = e

pub and_right : (a b : Bool) → (a && b) ≡ true → b ≡ true
and_right true b e = e
and_right false b e = absurd (false≢true e)

pub or_left : (a b : Bool) → (a || b) ≡ false → a ≡ false
or_left true b e = e
or_left false b e = refl

pub or_right : (a b : Bool) → (a || b) ≡ false → b ≡ false
or_right true b e = absurd (false≢true (sym e))
or_right false b e = e

-- `not a || b` says b where a holds
pub implied : (a b : Bool) → a ≡ true → (not a || b) ≡ true → b ≡ true
implied true b o e = e
implied false b o e = absurd (false≢true o)

pub implies : (a b : Bool) → (a ≡ true → b ≡ true) → (not a || b) ≡ true
implies true b f = f refl
implies false b f = refl

-- two tests of which each says the other
pub same_test : (a b : Bool) → (a ≡ true → b ≡ true) → (b ≡ true → a ≡ true) → a ≡ b
same_test true true f g = refl
same_test true false f g = sym (f refl)
same_test false true f g = g refl
same_test false false f g = refl

-- the condition at place n of a list of which every one holds
pub every_at : (bs : List Bool) (n : ℕ) → every bs ≡ true → get_or bs n true ≡ true
unfolding every
every_at [] n e = refl
every_at (b ∷ bs) zero e = and_left b (every bs) e
every_at (b ∷ bs) (suc n) e = every_at bs n (and_right b (every bs) e)

-- conditions joined from the left, as `a & b & c` is
abbrev pub joined : Bool → List Bool → Bool
joined a [] = a
joined a (b ∷ bs) = joined (a && b) bs

pub joined_every : (a : Bool) (bs : List Bool) → joined a bs ≡ every (a ∷ bs)
unfolding every
joined_every a [] = sym (and-true a)
joined_every a (b ∷ bs) = joined_every (a && b) bs ∙ and_assoc a b (every bs)

-- A test goes by a call's result r, which the callee ensures to be b. `search tests` finds both facts, wherever they lie in c.
pub via : (b r v : Bool) → r ≡ b → r ≡ v → b ≡ v
via b r v e h = sym e ∙ h

pub via_not : (b r v : Bool) → r ≡ b → not r ≡ v → not b ≡ v
via_not b r v e h = rw (← e) h

pub via_not_and : (b r x v : Bool) → r ≡ b → not (r && x) ≡ v → not (b && x) ≡ v
via_not_and b r x v e h = rw (← e) h

pub via_eq : (b r n : ℕ) → r ≡ b → r ≡ n → eqb b n ≡ true
via_eq b r n e h = eq-eqb b n (sym e ∙ h)

pub via_ne : (b r n : ℕ) → r ≡ b → (r ≡ n → ⊥) → eqb b n ≡ false
via_ne b r n e h = rw (← e) (ne_eqb r n h)

pub via_lt : (b r n : ℕ) → r ≡ b → r < n → ltb b n ≡ true
via_lt b r n e h = rw (← e) (lt-ltb r n h)

pub via_ge : (b r n : ℕ) → r ≡ b → n ≤ r → ltb b n ≡ false
via_ge b r n e h = rw (← e) (le-ltb r n h)

pub ruleset tests = (via, via_not, via_not_and, via_eq, via_ne, via_lt, via_ge, lt-ltb, le-ltb, le-leb, lt-leb, eq-eqb, ne_eqb)
