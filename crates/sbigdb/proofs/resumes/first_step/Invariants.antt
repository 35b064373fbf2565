use Rattle.std.proofs.Common.{map}
use Rattle.sbigdb.specs.Resumes.{NoneSteps}
use Rattle.sbigdb.proofs.resumes.first_step.Given as goal

abbrev pub invariant-loop-number : goal.invariant-loop-number
invariant-loop-number l = NoneSteps l.number (map (λ w. w.now) l.words)
