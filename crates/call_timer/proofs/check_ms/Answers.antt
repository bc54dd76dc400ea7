-- Not whole, a product that would not fit, a quotient that passes 32 bits, and the quotient.
use Rattle.std.proofs.Common.{◌≡◌, ℕ, ◌*◌, ◌/◌, ◌^◌, ◌≤◌, ◌<◌, true, [], ◌∷◌, sym, ◌∙◌, arith, rules}
use Rattle.std.proofs.Math.Nat.{le-div_iff_mul-le}
use Rattle.std.specs.declared.result.Result.{Result}
use Rattle.std.specs.declared.result.Result.TheVariants.{Ok, Err}
use Rattle.std.specs.Result.{OkIff, IfOk, result_ok}
use Rattle.std.specs.Option.{ok_or}
use Rattle.kernel.specs.declared.scheduler.Kernel.{Kernel}
use Rattle.kernel.specs.declared.scheduler.Refusal.TheVariants.{TooManyMilliseconds}
use Rattle.kernel.specs.Kernel.{whole}
use Rattle.kernel.specs.Timer.{ms_of_ticks}
use Rattle.kernel.specs.Refusal.{number_of}
use Rattle.kernel.specs.Calls
use Rattle.kernel.specs.Calls.{number, first_of, not_whole, checks}
use Rattle.kernel.proofs.Checks.{failed_early}
use Rattle.kernel.proofs.Timer.{ticks_to_ms_is, clocked, ms_past, ms_within}
use Rattle.leaf_table.proofs.Laws.{passed_whole}
use Rattle.call_timer.proofs.check_ms.Goals as goal

past : (t hz : ℕ) → 0 < hz → 4294967296 * hz ≤ 1000 * t → 4294967295 < 1000 * t / hz
past t hz h p = (le-div_iff_mul-le h).1 p

-- what is made of the conversion x of the quotient q
checked : {E : Type 0} (x : Result ℕ E) (k : Kernel) (t q : ℕ) → whole k ≡ true → q ≡ 1000 * t / k.hz → OkIff x (q < 4294967296) q → number_of (ok_or (result_ok x) TooManyMilliseconds) ≡ number k (Calls.ticks_to_ms t)
checked (Ok v) k t q w e h = ms_within k t w (omega (arith, e, h.0))
checked (Err r) k t q w e h = ms_past k t w (omega (arith, e, h))

converted : {E : Type 0} (x : Result ℕ E) (k : Kernel) (t q : ℕ) → whole k ≡ true → q ≡ 1000 * t / k.hz → OkIff x (q < 4294967296) q → IfOk (ok_or (result_ok x) TooManyMilliseconds) (λ ms. ms ≡ ms_of_ticks t k.hz)
converted (Ok v) k t q w e h = h.1 ∙ e ∙ sym (ticks_to_ms_is t k.hz (clocked k w))
converted (Err r) k t q w e h = tt

pub returns-in_err-check-clause-number : goal.returns-in_err-check-clause-number
unfolding number
returns-in_err-check-clause-number c =
    failed_early (not_whole c.args.k.now ∷ []) (checks c.args.k.now (Calls.ticks_to_ms c.args.ticks)) _ _
    c.from_residual.ensures.1 c.in_err-check.ensures

pub returns-then-ticks-gt-MOST_TICKS-clause-number :
    goal.returns-then-ticks-gt-MOST_TICKS-clause-number
returns-then-ticks-gt-MOST_TICKS-clause-number c =
    let w = passed_whole _ c.in_ok-check.ensures in
    let fits : c.args.k.now.hz < 2 ^ 32 = search rules in
    ms_past _ _ w (past _ _ (clocked _ w) (omega (arith, fits)))

pub quotient-requires : goal.quotient-requires
quotient-requires c = (omega arith, clocked _ (passed_whole _ c.in_ok-check.ensures))

pub returns-clause-number : goal.returns-clause-number
returns-clause-number c =
    rw (c.ok_or.ensures.value, c.ok.ensures.value)
    (checked c.try_from.result _ _ _ (passed_whole _ c.in_ok-check.ensures) c.quotient.ensures c.try_from.ensures)

pub returns-clause-ms : goal.returns-clause-ms
returns-clause-ms c =
    rw (c.ok_or.ensures.value, c.ok.ensures.value)
    (converted c.try_from.result _ _ _ (passed_whole _ c.in_ok-check.ensures) c.quotient.ensures c.try_from.ensures)
