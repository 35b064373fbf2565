use Rattle.std.{proofs.{Common.{◌≡◌, ℕ, List, ◌++◌, ◌∷◌, [], ◌+◌, take, sym, subst, arith}, lemmas.List.take_more}, specs.List.AllZip}
use Rattle.bench_sweep.{specs.{Points.{callers, MadeCalls}, declared.points.Caller.{Caller, TheVariants.Disk}}, proofs.Made.zip_more}
use Rattle.bench_sweep.proofs.shown.counts_of.Goals as goal

pub loop-caller-preserved : goal.loop-caller-preserved
loop-caller-preserved c =
    let from = c.args.from.now.off.disk in
    let to = c.args.to.now.off.disk in
    let i = c.loop-caller.caller-index in
    let n = c.in_ok-calls.calls in
    let C : List Caller → Type 0 = λ cs. AllZip (MadeCalls from to) cs (c.loop-caller.counts.items ++ n ∷ []) in
    let N : List ℕ → Type 0 = λ ns. AllZip (MadeCalls from to) (take (i + 1) callers) ns in
    subst N (sym c.in_ok-push.ensures.items)
    (subst C (sym (take_more callers i Disk c.loop-caller-test.true)) (zip_more _ (take i callers) c.loop-caller.counts.items _ n c.loop-caller.invariant c.in_ok-calls.ensures.calls))

pub returns : goal.returns
returns c = record {
  counts = (
      let all : c.loop-caller.caller-index ≡ 5 = omega arith in
      let Z : ℕ → Type 0 = λ k. AllZip (MadeCalls c.args.from.now.off.disk c.args.to.now.off.disk) (take k callers) c.loop-caller.counts.items in
      subst Z all c.loop-caller.invariant);
}
