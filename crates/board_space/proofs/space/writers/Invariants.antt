use Rattle.std.proofs.Common.{◌≡◌, length}
use Rattle.board_space.specs.{Mapped.map_in, Ready.MasksOf}
use Rattle.board_space.proofs.space.writers.Given as goal

abbrev pub invariant-loop-word : goal.invariant-loop-word
invariant-loop-word l = record {
  masks : MasksOf (map_in l.map) l.masks.items;
  long : length l.masks.items ≡ l.word;
}
