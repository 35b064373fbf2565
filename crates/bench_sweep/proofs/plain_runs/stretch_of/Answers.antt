use Rattle.std.proofs.{Common.{refl, sym, subst, take}, lemmas.Result.IfOk-from_err}
use Rattle.simdisk.specs.declared.SimDisk.{SimDisk}
use Rattle.bench_report.specs.Happens.{off, unpowered}
use Rattle.bench_sweep.{specs.Took.{RunTook, own_disk}, proofs.{Ran.life_of, Took.took_since}}
use Rattle.bench_sweep.proofs.plain_runs.stretch_of.Goals as goal

pub returns-clause-lives : goal.returns-clause-lives
returns-clause-lives g c = λ b r.
    let size = c.args.runner.now.setting.shape.now in
    let calm = c.in_ok-plain.ensures.runs size b r in
    let ran = c.in-Ok.ensures.ran (unpowered b) calm in
    let left = c.in_ok-next.ensures.runs size ran.bench ran.runs in
    life_of size b c.args.runner.now.lines.now _ _ _ _ ran (left.0, left.2) (c.in-Ok.ensures.stops refl)

pub returns-clause-sits : goal.returns-clause-sits
returns-clause-sits g c =
    let size = c.args.runner.now.setting.shape.now in
    let sits = c.requires.sits in
    let calm = c.in_ok-plain.ensures.runs size sits.0 sits.1 in
    let ran = c.in-Ok.ensures.ran (unpowered sits.0) calm in
    let left = c.in_ok-next.ensures.runs size ran.bench ran.runs in
    (off ran.bench, left.2)

pub returns-clause-took : goal.returns-clause-took
returns-clause-took g c =
    let size = c.args.runner.now.setting.shape.now in
    let lines = take c.in-Ok.count c.args.runner.now.lines.now in
    let sits = c.requires.sits in
    let begun = own_disk c.in_ok-plain.plain in
    let calm = c.in_ok-plain.ensures.runs size sits.0 sits.1 in
    let D : SimDisk → Type 0 = λ d. RunTook size lines begun d in
    took_since size lines c.args.site.now.off.disk begun _ c.in_ok-plain.ensures.calls
    (subst D (sym c.in_ok-next.ensures.disk) (c.in-Ok.ensures.took (unpowered sits.0) calm))

pub returns-in_err-plain-clause-few : goal.returns-in_err-plain-clause-few
returns-in_err-plain-clause-few g c = IfOk-from_err c.from_residual.result _ c.from_residual.ensures.0

pub returns-in_err-plain-clause-lives : goal.returns-in_err-plain-clause-lives
returns-in_err-plain-clause-lives g c = IfOk-from_err c.from_residual.result _ c.from_residual.ensures.0

pub returns-in_err-plain-clause-sits : goal.returns-in_err-plain-clause-sits
returns-in_err-plain-clause-sits g c = IfOk-from_err c.from_residual.result _ c.from_residual.ensures.0

pub returns-in_err-plain-clause-some : goal.returns-in_err-plain-clause-some
returns-in_err-plain-clause-some g c = IfOk-from_err c.from_residual.result _ c.from_residual.ensures.0

pub returns-in_err-plain-clause-took : goal.returns-in_err-plain-clause-took
returns-in_err-plain-clause-took g c = IfOk-from_err c.from_residual.result _ c.from_residual.ensures.0

pub returns-in_err-next-clause-few : goal.returns-in_err-next-clause-few
returns-in_err-next-clause-few g c = IfOk-from_err c.from_residual-in_err-next.result _ c.from_residual-in_err-next.ensures.0

pub returns-in_err-next-clause-lives : goal.returns-in_err-next-clause-lives
returns-in_err-next-clause-lives g c = IfOk-from_err c.from_residual-in_err-next.result _ c.from_residual-in_err-next.ensures.0

pub returns-in_err-next-clause-sits : goal.returns-in_err-next-clause-sits
returns-in_err-next-clause-sits g c = IfOk-from_err c.from_residual-in_err-next.result _ c.from_residual-in_err-next.ensures.0

pub returns-in_err-next-clause-some : goal.returns-in_err-next-clause-some
returns-in_err-next-clause-some g c = IfOk-from_err c.from_residual-in_err-next.result _ c.from_residual-in_err-next.ensures.0

pub returns-in_err-next-clause-took : goal.returns-in_err-next-clause-took
returns-in_err-next-clause-took g c = IfOk-from_err c.from_residual-in_err-next.result _ c.from_residual-in_err-next.ensures.0
