use Rattle.std.{proofs.Common.take, specs.List.AllZip}
use Rattle.bench_sweep.specs.Points.{MadeCalls}
use Rattle.bench_sweep.proofs.shown.counts_of.Given as goal

-- the calls of the callers so far
abbrev pub invariant-loop-caller : goal.invariant-loop-caller
invariant-loop-caller l = AllZip (MadeCalls l.from.off.disk l.to.off.disk) (take l.caller-index l.caller-items) l.counts.items
