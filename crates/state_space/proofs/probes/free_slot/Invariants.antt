use Rattle.std.proofs.Common.{◌≡◌, ◌<◌, ◌-◌, length}
use Rattle.state_space.specs.Tables.{slot_at, AreTaken}
use Rattle.state_space.proofs.probes.free_slot.Given as goal

abbrev pub invariant-loop-step : goal.invariant-loop-step
invariant-loop-step l = record {
  there : l.place ≡ slot_at (length l.slots - 1) l.hash l.step;
  within : l.place < length l.slots;
  taken : AreTaken l.slots l.hash l.step;
}
