-- What std's from_fn makes by a closure that stays as it is: each element is what its call gave, so the array is a table of the calls.
use Prim.Native.Nat.{ℕ, zero, suc, ◌+◌, ◌≤◌, ◌<◌, zero-le}
use native.Mathlib.Omega.{arith}
use native.Mathlib.Decide.{dec_lt}
use mathlib.Core.Path.{◌≡◌, refl, sym, subst, ◌∙◌}
use mathlib.Core.List.{List}
use lib.ListN.{get_or}
use denote.Param.Members.{Mut}
use Rattle.std.specs.Fn.{Called}
use Rattle.std.specs.Array.{IsFromFnResultFrom, IsFromFnResult}
use Rattle.std.proofs.lemmas.List.{ext_get_or}
use Rattle.base.specs.Below.{tabulate}
use Rattle.base.proofs.Loops.{tabulate_length, tabulate_at}

-- the results at each number have P
module _ {F B : Type 0} (g : Mut F (ℕ × Unit {0}) B) (f : F) (d : B) (P : ℕ → B → Type 0) (makes : (i : ℕ) (y : B) (q : F) → Called g f (i, tt) y q → (q ≡ f) × P i y) where
  made_from : (ys : List B) (i n j : ℕ) (h : F) → h ≡ f → IsFromFnResultFrom g h ys i n → i ≤ j → j < i + n → P j (get_or ys j d)
  made_from ys i zero j h e m a b = absurd (omega arith)
  made_from ys i (suc n) j h e m a b =
      let call = makes i m.1 m.0 (subst (λ k. Called g k (i, tt) m.1 m.0) e m.3) in
      elim (dec_lt i j) [
        | yes l ↦ made_from ys (i + 1) n j m.0 call.0 m.4 (omega arith) (omega arith)
        | no l ↦
            let is : j ≡ i = omega arith in
            rw (is, m.2.1 d) call.1
      ]

  pub each_made : (ys : List B) (n : ℕ) → IsFromFnResult g f ys n → (i : ℕ) → i < n → P i (get_or ys i d)
  each_made ys n m i h = made_from ys 0 n i f refl m.each zero-le (omega arith)

pub all_made : {F B : Type 0} (g : Mut F (ℕ × Unit {0}) B) (f : F) (d : B) (p : ℕ → B) → ((i : ℕ) (y : B) (q : F) → Called g f (i, tt) y q → (q ≡ f) × (y ≡ p i)) → (ys : List B) (n : ℕ) → IsFromFnResult g f ys n → ys ≡ tabulate p n
all_made g f d p makes ys n m =
    ext_get_or d ys (tabulate p n) (m.long ∙ sym (tabulate_length p n))
    (λ i l. let b : i < n = omega (arith, l, m.long) in each_made g f d (λ i y. y ≡ p i) makes ys n m i b ∙ sym (tabulate_at p d n i b))
