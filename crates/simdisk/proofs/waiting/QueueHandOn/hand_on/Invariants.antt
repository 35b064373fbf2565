use Rattle.std.proofs.Common.{◌≡◌}
use Rattle.simdisk.specs.Cached.{HandedOn}
use Rattle.simdisk.proofs.waiting.QueueHandOn.hand_on.Given as goal

abbrev pub invariant-loop-i : goal.invariant-loop-i
invariant-loop-i g l = record {
  waiting : l.self.waiting ≡ l.initial.self.waiting;
  handed : HandedOn l.i l.initial.self.waiting.items (g.D.Disk.facts l.initial.self.device) (g.D.Disk.facts l.self.device) (g.D.Disk.fault_state l.initial.self.device) (g.D.Disk.fault_state l.self.device);
}
