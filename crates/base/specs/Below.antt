-- What holds of the numbers below n, such as the sixteen slots.
use Rattle.std.specs.Prelude.{ℕ, zero, suc, ◌+◌, min, Bool, true, false, ◌&&◌, ◌||◌, List, [], ◌∷◌, ◌++◌, ltb}
use Rattle.base.specs.Choice.{if◌then◌otherwise◌}

-- p holds of each of them
unfoldable pub all_below : (ℕ → Bool) → ℕ → Bool
all_below p zero = true
all_below p (suc n) = all_below p n && p n

-- p holds of one of them
unfoldable pub any_below : (ℕ → Bool) → ℕ → Bool
any_below p zero = false
any_below p (suc n) = any_below p n || p n

-- how many of them p holds of
unfoldable pub count_below : (ℕ → Bool) → ℕ → ℕ
count_below p zero = 0
count_below p (suc n) = if p n then suc (count_below p n) otherwise count_below p n

-- f of each of them, added up
unfoldable pub sum_below : (ℕ → ℕ) → ℕ → ℕ
sum_below f zero = 0
sum_below f (suc n) = sum_below f n + f n

-- the lowest of them that p holds of; n where there is none
unfoldable pub lowest_below : (ℕ → Bool) → ℕ → ℕ
lowest_below p zero = 0
lowest_below p (suc n) = if ltb (lowest_below p n) n then lowest_below p n otherwise if p n then n otherwise suc n

-- the largest of them that p holds of; 0 where there is none
unfoldable pub largest_below : (ℕ → Bool) → ℕ → ℕ
largest_below p zero = 0
largest_below p (suc n) = if p n then n otherwise largest_below p n

-- the smallest of x and of f of each of them that p holds of
unfoldable pub smallest_below : (ℕ → Bool) → (ℕ → ℕ) → ℕ → ℕ → ℕ
smallest_below p f x zero = x
smallest_below p f x (suc n) = if p n then min (smallest_below p f x n) (f n) otherwise smallest_below p f x n

-- f of each of them, in order
unfoldable pub tabulate : {A : Type 0} → (ℕ → A) → ℕ → List A
tabulate f zero = []
tabulate f (suc n) = tabulate f n ++ (f n ∷ [])
