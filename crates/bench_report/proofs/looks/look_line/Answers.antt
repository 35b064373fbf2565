use Rattle.std.proofs.Common.{subst}
use Rattle.bench_report.{specs.{declared.power.Power.Power, Agree.Agrees, Looks.IsShown}, proofs.Lines.on_looks}
use Rattle.bench_report.proofs.looks.look_line.Goals as goal

pub returns-in-On : goal.returns-in-On
returns-in-On c = λ size b h.
    let P : Power → Type 0 = λ p. Agrees size b p in
    let did = c.shown-line.ensures in
    on_looks size b c.in-On.board c.shown-line.new.board (IsShown c.args.look) c.shown-line.result (subst P c.in-On.is h) did.reported did.machine did.store
