-- Each number that has an operation needs no word; of the others 0 and those between, and those past the list's end.
use Rattle.std.proofs.Common.{ℕ, zero, suc, ◌+◌, ◌-◌, ◌<◌, ◌≡◌, refl, sym, subst, arith, get_or, None}
use lib.ListN.{get_or-eq_default}
use Rattle.line_frame.specs.Frame.{operations}
use Rattle.line_frame.proofs.Operation.numbered.Goals as goal

-- 17, 19 and 1a, and past the end
behind : (m : ℕ) → (23 + m ≡ 24 → ⊥) → (26 < 23 + m → 31 < 23 + m) → None ≡ get_or operations (23 + m) None
behind zero apart high = refl
behind (suc zero) apart high = absurd (apart refl)
behind (suc (suc zero)) apart high = refl
behind (suc (suc (suc zero))) apart high = refl
behind (suc (suc (suc (suc m)))) apart high =
    let past : 31 < 23 + suc (suc (suc (suc m))) = high (omega arith) in
    sym (get_or-eq_default operations None past)

others : (n : ℕ) → (0 < n → 22 < n) → (n ≡ 24 → ⊥) → (26 < n → 31 < n) → None ≡ get_or operations n None
others zero low apart high = refl
others (suc n) low apart high =
    let e : 23 + (n - 22) ≡ suc n = omega (arith, low (omega arith)) in
    subst (λ (i : ℕ). None ≡ get_or operations i None) e (behind (n - 22) (rw e apart) (rw e high))

pub returns-in_default : goal.returns-in_default
returns-in_default c = others c.args.n (λ more. omega arith) (λ e. omega arith) (λ more. omega arith)
