use Rattle.board_files.specs.Kept.{noted}
use Rattle.board_files.proofs.past.Past.note.Given as goal

abbrev pub ghost-picked : goal.ghost-picked
ghost-picked a = let passed = a._values.now in noted passed.1.now passed.0.now.log
