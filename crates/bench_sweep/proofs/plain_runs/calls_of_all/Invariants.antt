use Rattle.std.{proofs.Common.{◌≡◌, ℕ, List, take}, specs.List.AllZip}
use Rattle.bench_sweep.{specs.Points.MadeCalls, proofs.Written.total}
use Rattle.bench_sweep.proofs.plain_runs.calls_of_all.Given as goal

-- those of the callers so far are counted
abbrev pub invariant-loop-caller : goal.invariant-loop-caller
invariant-loop-caller l =
    (counts : List ℕ) × AllZip (MadeCalls l.from.off.disk l.to.off.disk) (take l.caller-index l.caller-items) counts × (l.all ≡ total counts)
