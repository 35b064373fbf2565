use Rattle.std.proofs.Common.{Option, refl, sym, subst}
use Rattle.report_lines.specs.declared.printed.Answer.{Answer}
use Rattle.bench_report.{specs.{Bench.BenchLife, Agree.Agrees, Steps.OnStep, declared.power.Power.Power}, proofs.Still.busy}
use Rattle.bench_report.proofs.off_lines.powered.Goals as goal

pub returns-in-Off-clause-said : goal.returns-in-Off-clause-said
returns-in-Off-clause-said c = λ size b agrees same.
    let A : Power → Type 0 = λ p. Agrees size b p in
    let off = subst A c.in-Off.is agrees in
    let did = c.power_on-power.ensures.reported size b off same in
    let S : Option BenchLife → Type 0 = λ p. OnStep size p c.args.asked.1 b c.power_on-power.result.1 did.0 in
    (did.0, (subst S (sym off.0) did.1.0, did.1.1), did.2, did.3)

pub returns-in-On-clause-said : goal.returns-in-On-clause-said
returns-in-On-clause-said c = λ size b agrees same.
    let A : Power → Type 0 = λ p. Agrees size b p in
    let on = subst A c.in-On.is agrees in
    let S : Answer → Type 0 = λ a. OnStep size b.power c.args.asked.1 b a b in
    (b, (subst S (sym c.says.ensures) (busy size c.args.asked.1 b b.power c.in-On.board on.0), rw c.says.ensures tt), on, refl)
