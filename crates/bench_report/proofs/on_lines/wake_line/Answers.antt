use Rattle.std.proofs.Common.{Option, sym, subst}
use Rattle.bench_report.specs.{declared.power.Power.Power, Bench.BenchLife, Deeds.CallWake, Asides.AsideStep, Agree.Agrees}
use Rattle.bench_report.proofs.Lines.{on_life}
use Rattle.bench_report.proofs.on_lines.wake_line.Goals as goal

pub returns-in-On : goal.returns-in-On
returns-in-On c = λ size b h.
    let P : Power → Type 0 = λ p. Agrees size b p in
    let was = subst P c.in-On.is h in
    on_life size b c.in-On.board was (λ life on. (
    let did = c.wake-answer.ensures size b life on was in
    let Q : Option BenchLife → Type 0 = λ p. AsideStep CallWake p b c.wake-answer.result did.0 in
    (did.0, subst Q (sym on) did.1, did.2, did.3)
    ))
