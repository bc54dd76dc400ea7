-- What a list of checks tells: an accepted call passed each of them, and the first few may be made before the others.
use Prim.Native.Nat.{ℕ, zero, suc}
use mathlib.Core.Path.{◌≡◌, refl, sym, ◌∙◌}
use mathlib.Core.Bool.{Bool, true, false, ◌&&◌}
use mathlib.Core.List.{List, [], ◌∷◌, ◌++◌}
use lib.Dec.{ltb}
use borrow.Author.Tests.{ltb-true}
use Rattle.base.specs.Choice.{if◌then◌otherwise◌}
use Rattle.base.proofs.Choices.{clear, and_left, and_right, either, taken, left}
use Rattle.std.specs.declared.result.Result.{Result}
use Rattle.std.specs.Result.{IsErrAnd}
use Rattle.kernel.specs.Types.{Refusal}
use Rattle.kernel.specs.Refusal.{refusal_number, number_of}
use Rattle.kernel.specs.Calls.{Check, ◌when◌, first_of}
use Rattle.kernel.proofs.Refusal.{nonzero_refusal, handed_on}

-- no number is 0, which would be an acceptance
abbrev pub nonzero : List Check → Bool
nonzero [] = true
nonzero ((n when b) ∷ cs) = ltb 0 n && nonzero cs

-- whether check i of the list refuses
abbrev pub refuses_at : List Check → ℕ → Bool
refuses_at [] i = false
refuses_at ((n when b) ∷ cs) zero = b
refuses_at ((n when b) ∷ cs) (suc i) = refuses_at cs i

pub passed : (cs : List Check) (i : ℕ) → nonzero cs ≡ true → first_of cs ≡ 0 → refuses_at cs i ≡ false
passed [] i p e = refl
passed ((n when b) ∷ cs) zero p e = (clear b n (first_of cs) (ltb-true 0 n (and_left (ltb 0 n) (nonzero cs) p)) e).0
passed ((n when b) ∷ cs) (suc i) p e = passed cs i (and_right (ltb 0 n) (nonzero cs) p) (clear b n (first_of cs) (ltb-true 0 n (and_left (ltb 0 n) (nonzero cs) p)) e).1

-- r is what the checks cs say: where it refuses, so do they before any others; where it does not, the others say
pub refused_early : (cs ds : List Check) (r : ℕ) → r ≡ first_of cs → (r ≡ 0 → ⊥) → r ≡ first_of (cs ++ ds)
refused_early [] ds r e h = absurd (h e)
refused_early ((n when b) ∷ cs) ds r e h = either (λ m. r ≡ m → r ≡ if b then n otherwise first_of (cs ++ ds)) b (λ t q. taken _ _ _ _ t q) (λ f q. left _ _ _ _ f (refused_early cs ds r q h)) e

-- the refusal of the checks cs, which `?` hands on, is that of cs and any others
pub failed_early : {A : Type 0} (cs ds : List Check) (x : Result A Refusal) (r : Refusal) → IsErrAnd x (λ e. e ≡ r) → refusal_number r ≡ first_of cs → number_of x ≡ first_of (cs ++ ds)
failed_early cs ds x r h e = handed_on x r h ∙ refused_early cs ds (refusal_number r) e (nonzero_refusal r)

-- where the checks cs pass, the others say
pub passed_early : (cs ds : List Check) (s : ℕ) → nonzero cs ≡ true → 0 ≡ first_of cs → s ≡ first_of ds → s ≡ first_of (cs ++ ds)
passed_early [] ds s p e g = g
passed_early ((n when b) ∷ cs) ds s p e g =
    let c = clear b n (first_of cs) (ltb-true 0 n (and_left (ltb 0 n) (nonzero cs) p)) (sym e) in
    left _ _ _ _ c.0 (passed_early cs ds s (and_right (ltb 0 n) (nonzero cs) p) (sym c.1) g)
