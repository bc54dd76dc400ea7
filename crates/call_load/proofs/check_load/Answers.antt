-- Not whole, no such id, no tick since the start, and what is found.
use Rattle.std.proofs.Common.{◌≡◌, ℕ, ◌<◌, true, [], ◌∷◌, sym, ap, ◌∙◌, arith}
use Rattle.std.specs.declared.option.Option.{Option}
use Rattle.std.specs.declared.option.Option.TheVariants.{Some, None}
use Rattle.std.specs.declared.result.Result.{Result}
use Rattle.std.specs.declared.result.Result.TheVariants.{Ok, Err}
use Rattle.std.specs.Option.{unwrap_or, IfSome, ok_or}
use Rattle.kernel.specs.declared.control.TaskId.{TaskId}
use Rattle.kernel.specs.declared.scheduler.Kernel.{Kernel}
use Rattle.kernel.specs.declared.scheduler.Refusal.{Refusal}
use Rattle.kernel.specs.declared.scheduler.Refusal.TheVariants.{UnknownId}
use Rattle.kernel.specs.Kernel.{slot_of, whole}
use Rattle.kernel.specs.Refusal.{refusal_number, number_of}
use Rattle.kernel.specs.Calls
use Rattle.kernel.specs.Calls.{number, first_of, not_whole, checks}
use Rattle.kernel.proofs.Checks.{failed_early}
use Rattle.kernel.proofs.Refusal.{nonzero_refusal, handed_on}
use Rattle.kernel.proofs.Load.{load_unknown, load_no_tick, load_accepted}
use Rattle.leaf_table.proofs.Laws.{passed_whole}
use Rattle.call_load.proofs.check_load.Goals as goal

-- what is made of a slot o that was found or not
abbrev made : Option ℕ → Result ℕ Refusal
made o = ok_or o UnknownId

unknown : (k : Kernel) (a : TaskId) (o : Option ℕ) (r : Refusal) → whole k ≡ true → unwrap_or o 16 ≡ slot_of k a → Err r ≡ made o → refusal_number r ≡ number k (Calls.load a)
unknown k a None r w p e = ap number_of e ∙ load_unknown k a w (omega (arith, p))
unknown k a (Some i) r w p e = absurd (nonzero_refusal r (ap number_of e))

found : (o : Option ℕ) (i s : ℕ) → Ok i ≡ made o → IfSome o (λ j. j < 16) → unwrap_or o 16 ≡ s → s < 16
found None i s e h p = let n : 0 ≡ 8 = ap number_of e in omega (arith, n)
found (Some j) i s e h p = omega (arith, h, p)

pub returns-in_err-check-clause-number : goal.returns-in_err-check-clause-number
unfolding number
returns-in_err-check-clause-number c =
    failed_early (not_whole c.args.k.now ∷ []) (checks c.args.k.now (Calls.load c.args.id)) _ _
    c.from_residual.ensures.1 c.in_err-check.ensures

pub returns-in_err-i-clause-number : goal.returns-in_err-i-clause-number
returns-in_err-i-clause-number c =
    handed_on _ _ c.from_residual-in_err-i.ensures.1
    ∙ unknown _ _ _ _ (passed_whole _ c.in_ok-check.ensures) c.slot_of.ensures.place c.in_err-i.ensures.value

pub ticks_since_start-ticks-requires : goal.ticks_since_start-ticks-requires
ticks_since_start-ticks-requires c = passed_whole _ c.in_ok-check.ensures

pub returns-then-ticks-eq0-clause-number : goal.returns-then-ticks-eq0-clause-number
returns-then-ticks-eq0-clause-number c =
    load_no_tick _ _ (passed_whole _ c.in_ok-check.ensures) (found _ _ _ c.in_ok-i.ensures.value c.slot_of.ensures.below c.slot_of.ensures.place)
    (sym c.ticks_since_start-ticks.ensures ∙ c.if-ticks-eq0.true)

pub returns-clause-number : goal.returns-clause-number
returns-clause-number c =
    load_accepted _ _ (passed_whole _ c.in_ok-check.ensures) (found _ _ _ c.in_ok-i.ensures.value c.slot_of.ensures.below c.slot_of.ensures.place)
    (omega (arith, c.ticks_since_start-ticks.ensures, c.if-ticks-eq0.false))
