use Rattle.std.proofs.Common.{take}
use Rattle.crew.specs.Handed.{TakesAll}
use Rattle.bench_sweep.specs.Reports.{TakesPoint}
use Rattle.bench_sweep.proofs.sweeps.SweepReportSinkChunkPointRows.take.Given as goal

-- the points so far are taken
abbrev pub invariant-loop-point : goal.invariant-loop-point
invariant-loop-point g l = TakesAll (TakesPoint g.W.Write.contents) l.fn.self (take l.point-index l.point-items) l.self
