use Rattle.std.proofs.{Common.{◌∙◌, sym, subst}, lemmas.Result.IfOk-from_err}
use Rattle.bench_report.{specs.{declared.power.Power.Power, Agree.{Agrees, HasDisk}}, proofs.Alone.{struck_by, copies_at}}
use Rattle.bench_report.proofs.copies.copy_power.Goals as goal

pub returns-in_err-copy_on-in-On-clause-stays : goal.returns-in_err-copy_on-in-On-clause-stays
returns-in_err-copy_on-in-On-clause-stays c = λ size b h. let P : Power → Type 0 = λ p. Agrees size b p in c.copy_on.ensures.stays size b (subst P c.in-On.is h)

pub returns-in_ok-copy_on-in-On-clause-stays : goal.returns-in_ok-copy_on-in-On-clause-stays
returns-in_ok-copy_on-in-On-clause-stays c = λ size b h. let P : Power → Type 0 = λ p. Agrees size b p in c.copy_on.ensures.stays size b (subst P c.in-On.is h)

pub returns-in_ok-copy_on-in-On-clause-copy : goal.returns-in_ok-copy_on-in-On-clause-copy
returns-in_ok-copy_on-in-On-clause-copy c = λ size b h. let P : Power → Type 0 = λ p. Agrees size b p in c.in_ok-copy_on-in-On.ensures.copy size b (subst P c.in-On.is h)

pub returns-in_err-copy_off-in-Off-clause-stays : goal.returns-in_err-copy_off-in-Off-clause-stays
returns-in_err-copy_off-in-Off-clause-stays c = λ size b h. subst (λ (p : Power). Agrees size b p) c.in-Off.is h

pub returns-in_err-copy_off-in-Off-clause-same : goal.returns-in_err-copy_off-in-Off-clause-same
returns-in_err-copy_off-in-Off-clause-same c = λ d has. subst (λ (p : Power). HasDisk p d) c.in-Off.is has

pub returns-in_err-copy_off-in-Off-clause-calm : goal.returns-in_err-copy_off-in-Off-clause-calm
returns-in_err-copy_off-in-Off-clause-calm c = struck_by c.args.power.now _ c.in-Off.is

pub returns-in_err-copy_off-in-Off-clause-copy : goal.returns-in_err-copy_off-in-Off-clause-copy
returns-in_err-copy_off-in-Off-clause-copy c = IfOk-from_err c.from_residual.result _ c.from_residual.ensures.0

pub returns-in_err-copy_off-in-Off-clause-alike : goal.returns-in_err-copy_off-in-Off-clause-alike
returns-in_err-copy_off-in-Off-clause-alike c = IfOk-from_err c.from_residual.result _ c.from_residual.ensures.0

pub returns-in_err-copy_off-in-Off-clause-copy_calm : goal.returns-in_err-copy_off-in-Off-clause-copy_calm
returns-in_err-copy_off-in-Off-clause-copy_calm c = IfOk-from_err c.from_residual.result _ c.from_residual.ensures.0

pub returns-in_ok-copy_off-in-Off-clause-stays : goal.returns-in_ok-copy_off-in-Off-clause-stays
returns-in_ok-copy_off-in-Off-clause-stays c = λ size b h. subst (λ (p : Power). Agrees size b p) c.in-Off.is h

pub returns-in_ok-copy_off-in-Off-clause-same : goal.returns-in_ok-copy_off-in-Off-clause-same
returns-in_ok-copy_off-in-Off-clause-same c = λ d has. subst (λ (p : Power). HasDisk p d) c.in-Off.is has

pub returns-in_ok-copy_off-in-Off-clause-calm : goal.returns-in_ok-copy_off-in-Off-clause-calm
returns-in_ok-copy_off-in-Off-clause-calm c = struck_by c.args.power.now _ c.in-Off.is

pub returns-in_ok-copy_off-in-Off-clause-copy : goal.returns-in_ok-copy_off-in-Off-clause-copy
returns-in_ok-copy_off-in-Off-clause-copy c = λ size b h. c.in_ok-copy_off-in-Off.ensures.copy size b (subst (λ (p : Power). Agrees size b p) c.in-Off.is h)

pub returns-in_ok-copy_off-in-Off-clause-alike : goal.returns-in_ok-copy_off-in-Off-clause-alike
returns-in_ok-copy_off-in-Off-clause-alike c = λ d e has copied. copies_at _ _ d e c.in_ok-copy_off-in-Off.ensures.alike (subst (λ (p : Power). HasDisk p d) c.in-Off.is has) copied

pub returns-in_ok-copy_off-in-Off-clause-copy_calm : goal.returns-in_ok-copy_off-in-Off-clause-copy_calm
returns-in_ok-copy_off-in-Off-clause-copy_calm c = struck_by c.args.power.now _ c.in-Off.is

pub returns-in_err-copy_on-in-On-clause-same : goal.returns-in_err-copy_on-in-On-clause-same
returns-in_err-copy_on-in-On-clause-same c = λ d has. (subst (λ (p : Power). HasDisk p d) c.in-On.is has) ∙ sym c.copy_on.ensures.same

pub returns-in_err-copy_on-in-On-clause-calm : goal.returns-in_err-copy_on-in-On-clause-calm
returns-in_err-copy_on-in-On-clause-calm c = c.copy_on.ensures.calm ∙ struck_by c.args.power.now _ c.in-On.is

pub returns-in_err-copy_on-in-On-clause-copy : goal.returns-in_err-copy_on-in-On-clause-copy
returns-in_err-copy_on-in-On-clause-copy c = IfOk-from_err c.from_residual-in_err-copy_on-in-On.result _ c.from_residual-in_err-copy_on-in-On.ensures.0

pub returns-in_err-copy_on-in-On-clause-alike : goal.returns-in_err-copy_on-in-On-clause-alike
returns-in_err-copy_on-in-On-clause-alike c = IfOk-from_err c.from_residual-in_err-copy_on-in-On.result _ c.from_residual-in_err-copy_on-in-On.ensures.0

pub returns-in_err-copy_on-in-On-clause-copy_calm : goal.returns-in_err-copy_on-in-On-clause-copy_calm
returns-in_err-copy_on-in-On-clause-copy_calm c = IfOk-from_err c.from_residual-in_err-copy_on-in-On.result _ c.from_residual-in_err-copy_on-in-On.ensures.0

pub returns-in_ok-copy_on-in-On-clause-same : goal.returns-in_ok-copy_on-in-On-clause-same
returns-in_ok-copy_on-in-On-clause-same c = λ d has. (subst (λ (p : Power). HasDisk p d) c.in-On.is has) ∙ sym c.copy_on.ensures.same

pub returns-in_ok-copy_on-in-On-clause-calm : goal.returns-in_ok-copy_on-in-On-clause-calm
returns-in_ok-copy_on-in-On-clause-calm c = c.copy_on.ensures.calm ∙ struck_by c.args.power.now _ c.in-On.is

pub returns-in_ok-copy_on-in-On-clause-alike : goal.returns-in_ok-copy_on-in-On-clause-alike
returns-in_ok-copy_on-in-On-clause-alike c = λ d e has copied. copies_at _ _ d e c.in_ok-copy_on-in-On.ensures.alike (subst (λ (p : Power). HasDisk p d) c.in-On.is has) copied

pub returns-in_ok-copy_on-in-On-clause-copy_calm : goal.returns-in_ok-copy_on-in-On-clause-copy_calm
returns-in_ok-copy_on-in-On-clause-copy_calm c = c.in_ok-copy_on-in-On.ensures.copy_calm ∙ struck_by c.args.power.now _ c.in-On.is
