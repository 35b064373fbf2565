use Rattle.board_files.specs.Kept.{synced_once}
use Rattle.board_files.proofs.past.Past.sync.Given as goal

abbrev pub ghost-picked : goal.ghost-picked
ghost-picked a = synced_once a._values.now.0.now.log
