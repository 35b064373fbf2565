use Rattle.std.{proofs.Common.{◌≡◌, ◌∙◌, ℕ, List, [], ◌∷◌, ◌++◌, take, length, refl, sym, ap, subst, arith}, specs.List.AllZip}
use Rattle.std.proofs.lemmas.{List.{take_more, length-take-le}, Result.IfOk-from_err}
use Rattle.bench_sweep.specs.{Points.{callers, MadeCalls}, declared.points.Caller.{Caller, TheVariants.Disk}, Swept.all_points}
use Rattle.bench_sweep.proofs.{Made.{zip_long, zip_more, zip_same}, Reported.{reports_none, reports_more, reports_as}}
use Rattle.bench_sweep.proofs.Written.{next_caller, total_more}
use Rattle.crew.{specs.Parts.{window, begin_of, end_of}, proofs.Pieces.{window_none, window_at, own_is}}
use Rattle.bench_sweep.proofs.sweeps.sweep_all_callers.Goals as goal

pub loop-caller-init : goal.loop-caller-init
loop-caller-init g c = λ b r. ([], tt, omega arith, omega arith, reports_as _ _ _ _ _ _ _ (sym (window_none c.of_part-within.result.from c.of_part-within.result.to)) (reports_none _ _ _ _))

pub loop-caller-preserved : goal.loop-caller-preserved
loop-caller-preserved g c = λ b r.
    let kind = c.args.runner.now.bench in
    let i = c.loop-caller.caller-index in
    let w = c.loop-caller.invariant b r in
    let less = c.loop-caller-test.true in
    let n = c.in_ok-made.made in
    let did = c.in_ok-made.ensures.wrote b r in
    let long : length w.0 ≡ i = zip_long _ (take i callers) w.0 w.1 ∙ length-take-le i callers (omega (arith, less)) in
    let more = total_more w.0 n in
    let Z : List Caller → Type 0 = λ cs. AllZip (MadeCalls c.args.site.now.off.disk c.args.end.now.off.disk) cs (w.0 ++ n ∷ []) in (
      w.0 ++ n ∷ [],
      subst Z (sym (take_more callers i Disk less)) (zip_more _ (take i callers) w.0 _ n w.1 (omega (arith, c.in_ok-calls.ensures.calls, c.if-made-calls.false))),
      omega (arith, w.2, more, c.behind-within.ensures.from),
      omega (arith, w.3, more, c.behind-within.ensures.to),
      reports_as _ _ _ _ _ _ _ (next_caller callers i _ Disk w.0 n _ _ _ _ less refl long c.of_part-within.result.order w.2 w.3) (reports_more _ _ _ _ _ _ _ _ w.4 did),
    )

pub returns : goal.returns
returns g c = record {
  wrote = (λ b r.
      let w = c.loop-caller.invariant b r in
      let all : c.loop-caller.caller-index ≡ 5 = omega arith in
      let Z : ℕ → Type 0 = λ k. AllZip (MadeCalls c.args.site.now.off.disk c.args.end.now.off.disk) (take k callers) w.0 in
      let zip = subst Z all w.1 in
      let made = c.in_ok-all.ensures.calls in
      let counts : w.0 ≡ made.0 = zip_same c.args.site.now.off.disk c.args.end.now.off.disk callers w.0 made.0 zip made.1 in
      let many : c.in_ok-all.all ≡ length (all_points callers w.0) = made.2 ∙ ap (λ (ns : List ℕ). length (all_points callers ns)) (sym counts) in
      let part = c.args.part in
      let from : c.of_part-within.result.from ≡ begin_of part (length (all_points callers w.0)) = c.of_part-within.ensures.from ∙ ap (begin_of part) many in
      let to : c.of_part-within.result.to ≡ end_of part (length (all_points callers w.0)) = c.of_part-within.ensures.to ∙ ap (end_of part) many in (
        w.0,
        zip,
        many,
        reports_as _ _ _ _ _ _ _
            (ap (λ (k : ℕ). window c.of_part-within.result.from c.of_part-within.result.to (all_points (take k callers) w.0)) all
            ∙ window_at _ _ _ _ (all_points callers w.0) from to ∙ sym (own_is part (all_points callers w.0)))
            w.4,
      ));
}

pub returns-in_err-all : goal.returns-in_err-all
returns-in_err-all g c = record { wrote = (IfOk-from_err c.from_residual.result _ c.from_residual.ensures.0) }

pub returns-in_err-calls : goal.returns-in_err-calls
returns-in_err-calls g c = record { wrote = (IfOk-from_err c.from_residual-in_err-calls.result _ c.from_residual-in_err-calls.ensures.0) }

pub returns-in_err-made : goal.returns-in_err-made
returns-in_err-made g c = record { wrote = (IfOk-from_err c.from_residual-in_err-made.result _ c.from_residual-in_err-made.ensures.0) }

pub returns-then-made-calls : goal.returns-then-made-calls
returns-then-made-calls g c = record { wrote = (tt) }

pub sweep_caller-requires-clause-lines : goal.sweep_caller-requires-clause-lines
sweep_caller-requires-clause-lines g c κs within = c.requires.lines

pub sweep_caller-requires-clause-sits : goal.sweep_caller-requires-clause-sits
sweep_caller-requires-clause-sits g c κs within = c.requires.sits
