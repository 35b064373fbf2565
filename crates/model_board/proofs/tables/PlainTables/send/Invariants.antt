use Rattle.std.proofs.Common.{◌≡◌}
use Rattle.model_board.proofs.Plains.{Sent}
use Rattle.model_board.proofs.tables.PlainTables.send.Given as goal

abbrev pub invariant-loop-target : goal.invariant-loop-target
invariant-loop-target l = record {
  states : l.self-inside.states ≡ l.initial.self-inside.states;
  sent : Sent l.initial.self-inside.pending.items l.self-inside.pending.items l.by l.targets l.target;
}
