use Rattle.std.proofs.Common.{◌≡◌, ◌≤◌, ◌-◌, length}
use Rattle.board.{specs.Views.{store_of, machine_of}, proofs.Rows.Reaches}
use Rattle.board.proofs.powered.Board.turns.Given as goal

abbrev pub invariant-loop-made : goal.invariant-loop-made
invariant-loop-made g l = record {
  reaches : Reaches l.hart l.count l.made (machine_of l.fn.self) (machine_of l.self) (store_of l.fn.self) (store_of l.self) l.word;
  range : l.made ≤ l.count;
  harts : length (machine_of l.self).harts ≡ length (machine_of l.fn.self).harts;
}

abbrev pub decreases-loop-made : goal.decreases-loop-made
decreases-loop-made g l = l.count - l.made
