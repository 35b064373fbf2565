use Rattle.std.proofs.Common.{subst}
use Rattle.bench_report.specs.{declared.power.Power.Power, Agree.Agrees}
use Rattle.bench_report.proofs.on_lines.call_line.Goals as goal

pub returns-in-On : goal.returns-in-On
returns-in-On g c = λ size b h. let P : Power → Type 0 = λ p. Agrees size b p in c.call.ensures size b (subst P c.in-On.is h)
