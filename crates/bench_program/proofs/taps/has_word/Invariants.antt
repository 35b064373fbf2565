use Rattle.std.proofs.Common.{◌≡◌, drop}
use Rattle.bench_program.specs.Taps.{has_word}
use Rattle.bench_program.proofs.taps.has_word.Given as goal

abbrev pub invariant-loop-place : goal.invariant-loop-place
invariant-loop-place l = has_word l.word (drop l.place l.line) ≡ has_word l.word l.line
