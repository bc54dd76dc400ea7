-- The table as the pick searches it: one key for each slot, its number where it is Ready, and 256 or more where it is not.
use Rattle.std.specs.Prelude.{ℕ, ◌≤◌, ◌<◌, ◌≡◌, Bool, true, List, eqb, ltb, get_or}
use Rattle.base.specs.Choice.{if◌then◌otherwise◌}
use Rattle.base.specs.Below.{lowest_below}
use Rattle.kernel.specs.Scheduler.{slot_after}

-- a slot's key
pub record IsKey (ready : Bool) (number key : ℕ) : Type 0 where
  pub shown : ltb key 256 ≡ ready
  pub same : ready ≡ true → key ≡ number

-- the smallest key of the first n, where one is below 256
pub record IsLeast (keys : List ℕ) (n best : ℕ) : Type 0 where
  pub low : (i : ℕ) → i < n → best ≤ get_or keys i 0
  pub reached : best < 256 → lowest_below (λ i. eqb (get_or keys i 0) best) n < n

-- how far on from c + 1 the first slot of that key is; 16 where there is none
abbrev pub key_distance : List ℕ → ℕ → ℕ → ℕ
key_distance keys c best = lowest_below (λ n. eqb (get_or keys (slot_after c n) 0) best) 16

unfoldable pub first_from : List ℕ → ℕ → ℕ → ℕ
first_from keys c best = if ltb (key_distance keys c best) 16 then slot_after c (key_distance keys c best) otherwise 0
