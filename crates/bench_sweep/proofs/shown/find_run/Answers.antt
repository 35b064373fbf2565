use Rattle.std.proofs.Common.{◌≡◌, List, ℕ, inr, length, refl, sym, subst}
use Rattle.bench_report.specs.Happens.{unpowered}
use Rattle.bench_sweep.specs.Made.{CallsIn}
use Rattle.bench_sweep.proofs.shown.find_run.Goals as goal

pub run_of_number-requires : goal.run_of_number-requires
run_of_number-requires g c =
    let P : List ℕ → Type 0 = λ ns. length ns ≡ 5 in
    subst P (sym c.deref.ensures.value) c.in_ok-counts.ensures.each

pub returns-in-None-clause-refused : goal.returns-in-None-clause-refused
returns-in-None-clause-refused g c = inr (
  refl,
  (λ b r.
      let C : List ℕ → Type 0 = λ ns. CallsIn c.args.runner.now.setting.shape.now c.args.site.now.off.disk (unpowered b) c.args.runner.now.lines.now ns in
      record { counts = c.deref.result.now; calls = subst C (sym c.deref.ensures.value) (c.in_ok-counts.ensures.calls b r); fewer = c.in-None.ensures }),
)

pub returns-clause-found : goal.returns-clause-found
returns-clause-found g c = λ b r.
    let C : List ℕ → Type 0 = λ ns. CallsIn c.args.runner.now.setting.shape.now c.args.site.now.off.disk (unpowered b) c.args.runner.now.lines.now ns in
    record { counts = c.deref.result.now; calls = subst C (sym c.deref.ensures.value) (c.in_ok-counts.ensures.calls b r); nth = c.in-Some.ensures }
