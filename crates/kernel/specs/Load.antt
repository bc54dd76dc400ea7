-- Load per thousand (02, W-207).
use Rattle.std.specs.Prelude.{ℕ, ◌+◌, ◌-◌, ◌*◌, ◌<◌, ◌≡◌, Bool, ◌&&◌, eqb, ltb}
use Rattle.base.specs.Below.{lowest_below}

-- "1000 × charge = share × ticks + remainder, remainder below ticks"
pub record IsLoad (charge ticks share remainder : ℕ) : Type 0 where
  pub equation : 1000 * charge ≡ share * ticks + remainder
  pub below : remainder < ticks

-- the same as a test
abbrev pub is_load : ℕ → ℕ → ℕ → ℕ → Bool
is_load charge ticks share remainder = eqb (1000 * charge) (share * ticks + remainder) && ltb remainder ticks

-- what a share leaves of 1000 × charge
abbrev pub left_of : ℕ → ℕ → ℕ → ℕ
left_of charge ticks share = 1000 * charge - share * ticks

-- the share, up to 1000, that meets it with what it leaves. Where ticks are above 0 and no fewer than the charge, as in
-- every accepted call, this finds the one pair that there is (proofs/Load.antt); elsewhere there may be none, and it is
-- 1001
unfoldable pub load_share : ℕ → ℕ → ℕ
load_share charge ticks = lowest_below (λ share. is_load charge ticks share (left_of charge ticks share)) 1001

unfoldable pub load_remainder : ℕ → ℕ → ℕ
load_remainder charge ticks = left_of charge ticks (load_share charge ticks)
