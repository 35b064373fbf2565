use Rattle.std.proofs.Common.{◌≡◌}
use Rattle.board_space.specs.{Covering.StandsAll, Searches.StandsBy, Settings.setting_of, Shown.AllShow}
use Rattle.board_space.proofs.showing.shown_by_all.Given as goal

abbrev pub invariant-loop-row : goal.invariant-loop-row
invariant-loop-row l = record {
  rows : l.space.rows ≡ l.fn.space.rows;
  setting : setting_of l.space ≡ setting_of l.fn.space;
  all : AllShow l.from l.to (StandsBy l.bound (StandsAll l.fn.space.leaves l.fn.space.rows)) l.graph l.row l.all;
}
