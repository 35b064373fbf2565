use Rattle.std.{proofs.{Common.{◌≡◌, ◌∙◌, ℕ, List, [], ◌∷◌, ◌++◌, take, refl, sym, subst, arith}, lemmas.List.take_more}, specs.List.AllZip}
use Rattle.bench_sweep.specs.{Points.{callers, MadeCalls}, declared.points.Caller.{Caller, TheVariants.Disk}}
use Rattle.bench_sweep.proofs.{Made.{zip_long, zip_more}, Written.{all_long, total_more}}
use Rattle.bench_sweep.proofs.plain_runs.calls_of_all.Goals as goal

pub loop-caller-init : goal.loop-caller-init
loop-caller-init c = ([], tt, refl)

pub loop-caller-preserved : goal.loop-caller-preserved
loop-caller-preserved c =
    let i = c.loop-caller.caller-index in
    let w = c.loop-caller.invariant in
    let n = c.in_ok-calls.calls in
    let more = total_more w.0 n in
    let sum = c.in-Some.ensures in
    let Z : List Caller → Type 0 = λ cs. AllZip (MadeCalls c.args.from.now.off.disk c.args.to.now.off.disk) cs (w.0 ++ n ∷ []) in
    (w.0 ++ n ∷ [], subst Z (sym (take_more callers i Disk c.loop-caller-test.true)) (zip_more _ (take i callers) w.0 _ n w.1 c.in_ok-calls.ensures.calls), omega (arith, sum.1, w.2, more))

pub returns : goal.returns
returns c = record {
  calls = (
      let w = c.loop-caller.invariant in
      let all : c.loop-caller.caller-index ≡ 5 = omega arith in
      let Z : ℕ → Type 0 = λ k. AllZip (MadeCalls c.args.from.now.off.disk c.args.to.now.off.disk) (take k callers) w.0 in
      let zip = subst Z all w.1 in
      (w.0, zip, w.2 ∙ sym (all_long callers w.0 (sym (zip_long (MadeCalls c.args.from.now.off.disk c.args.to.now.off.disk) callers w.0 zip)))));
}
