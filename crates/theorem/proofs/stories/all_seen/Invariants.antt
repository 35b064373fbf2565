use Rattle.std.proofs.Common.{◌≡◌, ◌≤◌, length, take, vec_len, vec_capacity}
use Rattle.simdisk.specs.contracts.device.SimDiskDisk.TheImpl as sim_disk
use Rattle.theorem.specs.{Story.{Now, Tells}, Told.{IsOff, IsAt}}
use Rattle.theorem.proofs.stories.all_seen.Given as goal

-- what was seen so far is a story of what was asked so far
abbrev pub invariant-loop-ask : goal.invariant-loop-ask
invariant-loop-ask g l = record {
  told : (w : Now) → IsOff l.shape w (sim_disk.ghosts.facts l.fn.disk) (sim_disk.ghosts.fault_state l.fn.disk)
      → (v : Now) × Tells l.shape w (take l.ask-index l.asked) l.seen.items v × IsAt l.shape v l.power;
  count : vec_len l.seen ≡ l.ask-index;
  room : length l.asked ≤ vec_capacity l.seen;
}
