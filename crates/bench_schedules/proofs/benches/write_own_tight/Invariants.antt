use Rattle.std.{proofs.Common.{List, ℕ}, specs.Io.KnownBytes.Appends}
use Rattle.bench_schedules.specs.Schedules.{tight_text}
use Rattle.bench_schedules.proofs.benches.write_own_tight.Given as goal

abbrev pub invariant-loop-place : goal.invariant-loop-place
invariant-loop-place g l = (told : List ℕ) × Appends (g.W.Write.contents l.initial.out) (g.W.Write.contents l.out) (tight_text told)
