use Rattle.std.proofs.{Common.{◌∙◌, List, refl, subst, arith}, lemmas.List.take_all}
use Rattle.crew.specs.Handed.{TakesAll}
use Rattle.bench_sweep.{specs.{Reports.TakesPoint, declared.judging.PointRows.PointRows}, proofs.Along.taken_more}
use Rattle.bench_sweep.proofs.sweeps.SweepReportSinkChunkPointRows.take.Goals as goal

pub loop-point-init : goal.loop-point-init
loop-point-init g c = refl

pub loop-point-preserved : goal.loop-point-preserved
loop-point-preserved g c =
    taken_more (TakesPoint g.W.Write.contents) c.args.self.now c.loop-point.self _ c.as_slice-point-items.result.now c.loop-point.point-index c.point-item.result c.point-item.result c.loop-point-test.true c.point-item.is c.loop-point.invariant c.in_ok-take_point.ensures.took

pub returns-then-whole : goal.returns-then-whole
returns-then-whole g c =
    let points = c.as_slice-point-items.result.now in
    let T : List PointRows → Type 0 = λ rows. TakesAll (TakesPoint g.W.Write.contents) c.args.self.now rows c.loop-point.self in
    record { took = (c.if-whole.true, subst T (take_all c.loop-point.point-index points (omega (arith, c.loop-point-test.false)) ∙ c.as_slice-point-items.ensures.value) c.loop-point.invariant) }
