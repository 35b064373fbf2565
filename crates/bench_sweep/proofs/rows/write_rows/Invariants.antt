use Rattle.std.{proofs.Common.{false, take}, specs.Io.KnownBytes.Appends}
use Rattle.bench_sweep.specs.Swept.{rows_text}
use Rattle.bench_sweep.proofs.rows.write_rows.Given as goal

-- the rows so far are written
abbrev pub invariant-loop-row : goal.invariant-loop-row
invariant-loop-row g l = Appends (g.W.Write.contents l.fn.out) (g.W.Write.contents l.out) (rows_text false (take l.row-index l.rows))
