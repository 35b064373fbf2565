use Rattle.std.proofs.Common.{◌≡◌, ◌<◌, IfSome}
use Rattle.board_space.proofs.seeds.run.Given as goal

abbrev pub invariant-loop-turn : goal.invariant-loop-turn
invariant-loop-turn l = record {
  size : l.board.size ≡ l.question.shape;
  turning : IfSome l.turning (λ h. h < l.question.shape.harts);
}
