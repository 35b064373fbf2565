use Rattle.std.proofs.Common.{All}
use Rattle.crew.specs.Handed.{IsPlaced}
use Rattle.crew.proofs.hands.make_some.Given as goal

abbrev pub invariant-loop : goal.invariant-loop
invariant-loop g l = All (IsPlaced (g.T.Task.is_row l.task) l.first l.size) l.made.items
