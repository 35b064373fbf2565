use Rattle.std.proofs.Common.{[], ◌∷◌, map}
use Rattle.disk.specs.WriteLog.{piece_in, new_log}
use Rattle.simdisk.specs.Views.{pieces}
use Rattle.simdisk.proofs.remembered.Remembered.epoch.Given as goal

abbrev pub ghost-picked : goal.ghost-picked
ghost-picked a = let passed = a._values.now in record (new_log []) { past = map (piece_in passed.1.now) (pieces passed.0.now) ∷ [] }
