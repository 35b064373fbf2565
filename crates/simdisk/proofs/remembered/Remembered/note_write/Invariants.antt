use Rattle.std.proofs.Common.{[], ◌∷◌, ◌++◌}
use Rattle.disk.specs.{WriteLog.new_log, declared.device.LaneCall.TheVariants.Write}
use Rattle.simdisk.proofs.remembered.Remembered.note_write.Given as goal

abbrev pub ghost-with_parts : goal.ghost-with_parts
ghost-with_parts a = let passed = a._values.now in (new_log [], passed.0.now.calls ++ Write passed.1 passed.2 passed.3 ∷ [], [], [])
