use Rattle.std.proofs.Common.{arith}
use Rattle.simdisk.specs.contracts.device.SimDiskDisk.TheImpl as sim_disk
use Rattle.simdisk.specs.contracts.device.SimDiskDisk.TheImpl.Laws.{may_keep-law, counts_now-law}
use Rattle.board_files.proofs.Kept.{marks_none, kept_begun}
use Rattle.board_files.proofs.file_disk.FileDisk.new.Goals as goal

pub invariant_of-result-clause-marked : goal.invariant_of-result-clause-marked
invariant_of-result-clause-marked g c = marks_none (sim_disk.ghosts.facts c.args.memory) _ _
    (grind (arith, c.in_ok-marks.ensures.items_if_clones_equal, c.sectors.ensures)) c.requires.none_out

pub invariant_of-result-clause-kept : goal.invariant_of-result-clause-kept
invariant_of-result-clause-kept g c = kept_begun _ _ (sim_disk.ghosts.facts c.args.memory) c.requires.durable
    (λ t le. counts_now-law c.args.memory t _ le (may_keep-law c.args.memory))
