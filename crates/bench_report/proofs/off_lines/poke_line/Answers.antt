use Rattle.std.proofs.Common.{subst}
use Rattle.bench_report.{specs.{declared.power.Power.Power, Agree.Agrees}, proofs.Pokes.{poked_off, not_poked}}
use Rattle.bench_report.proofs.off_lines.poke_line.Goals as goal

pub returns-in-Ok-clause-reported : goal.returns-in-Ok-clause-reported
returns-in-Ok-clause-reported c = λ size b h.
    let P : Power → Type 0 = λ p. Agrees size b p in
    let did = c.in-Ok.ensures in
    poked_off size b c.in-Off.off.disk c.poke.new.self c.says-in-Ok.result (subst P c.in-Off.is h) did.no_call did.as_long c.says-in-Ok.ensures

pub returns-in-Err-clause-reported : goal.returns-in-Err-clause-reported
returns-in-Err-clause-reported c = λ size b h.
    let P : Power → Type 0 = λ p. Agrees size b p in
    let did = c.in-Err.ensures in
    not_poked c.kept_disks.ensures.goes_on size b c.in-Off.off.disk c.poke.new.self (subst P c.in-Off.is h) did.no_call did.as_long did.refused.0
