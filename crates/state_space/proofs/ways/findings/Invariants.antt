use Rattle.state_space.specs.Ways.{AreFindings}
use Rattle.state_space.proofs.ways.findings.Given as goal

abbrev pub invariant-loop-row : goal.invariant-loop-row
invariant-loop-row l = AreFindings l.graph l.findings.items

abbrev pub invariant-loop-step : goal.invariant-loop-step
invariant-loop-step l = AreFindings l.graph l.findings.items
