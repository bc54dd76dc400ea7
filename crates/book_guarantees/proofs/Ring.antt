-- Sixteen places in a ring: how many steps forward it is from one to another, 1 to 16.
use mathlib.Core.Path.{◌≡◌}
use mathlib.Core.Logic.{◌≢◌}
use Prim.Native.Nat.{ℕ, ◌+◌, ◌-◌, ◌*◌, ◌/◌, ◌%◌, ◌≤◌, ◌<◌}
use native.Mathlib.Omega.{arith}

-- steps forward from c to x: from c to c it is once round, 16
unfoldable pub ahead : ℕ → ℕ → ℕ
ahead c x = (x + 15 - c) % 16 + 1

pub ahead_self : (c : ℕ) → c < 16 → ahead c c ≡ 16
unfolding ahead
ahead_self c hc = omega arith

pub ahead_other : (c x : ℕ) → c < 16 → x < 16 → c ≢ x → ahead c x < 16
unfolding ahead
ahead_other c x hc hx ne = omega arith

-- a whole number of rounds
pub rounds : (c x : ℕ) → c < 16 → x < 16 → (ahead c x + c + 16 * ((x + 15 - c) / 16) ≡ x + 16) × (1 ≤ ahead c x) × (ahead c x ≤ 16)
unfolding ahead
rounds c x hc hx = omega arith

add_up : (a b d p q r c s i : ℕ) → a + c + 16 * p ≡ s + 16 → b + c + 16 * q ≡ i + 16 → d + s + 16 * r ≡ i + 16 → 1 ≤ a → 1 ≤ d → b ≤ 16 → d + a < b + 16 → d + a ≡ b
add_up a b d p q r c s i x y z ha hd hb h = omega arith

module _ (i c s : ℕ) (hi : i < 16) (hc : c < 16) (hs : s < 16) where
  -- less than a round more
  way : ahead s i + ahead c s < ahead c i + 16 → ahead s i + ahead c s ≡ ahead c i
  way = let a = rounds c s hc hs in let b = rounds c i hc hi in let d = rounds s i hs hi in add_up _ _ _ _ _ _ _ _ _ a.0 b.0 d.0 a.1 d.1 b.2

  -- from c, s comes no later than i: then the way from c to i leads through s
  pub through : s ≢ i → ahead c s ≤ ahead c i → ahead s i + ahead c s ≡ ahead c i
  through ne h = way (omega (arith, ahead_other s i hs hi ne))

  -- s is nearer to i than c is: then too
  pub nearer : ahead s i < ahead c i → ahead s i + ahead c s ≡ ahead c i
  nearer h = way (omega (arith, rounds c s hc hs))

  pub same_place : ahead c i ≡ ahead s i → c ≡ s
  unfolding ahead
  same_place h = omega arith

-- the place that is n + 1 steps forward, and back
pub ahead_after : (c n : ℕ) → c < 16 → n < 16 → ahead c ((c + 1 + n) % 16) ≡ n + 1
unfolding ahead
ahead_after c n hc hn = omega arith

pub after_ahead : (c x : ℕ) → c < 16 → x < 16 → (c + 1 + (ahead c x - 1)) % 16 ≡ x
unfolding ahead
after_ahead c x hc hx = omega arith
