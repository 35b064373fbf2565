use Rattle.simdisk.specs.contracts.device.SimDiskDisk.TheImpl as sim_disk
use Rattle.simdisk.specs.contracts.device.SimDiskDisk.TheImpl.Laws.{may_keep-law}
use Rattle.board_files.{specs.Beside.facts_beside, proofs.Kept.{leaves_no_more, off_is_left, since_allowed}}
use Rattle.board_files.proofs.file_disk.FileDisk.into_file.Goals as goal

pub returns-clause-now : goal.returns-clause-now
returns-clause-now g c =
    let disk = sim_disk.ghosts.facts c.args.self.memory in
    leaves_no_more _ _ disk (facts_beside c.args.self.failed disk) c.args.self.kept
    (λ x agrees. (c.exactly_the_model.ensures.now x).1
    (off_is_left _ _ _ disk _ _ c.args.self.marked ((c.exactly_the_model.ensures.now _).0 (may_keep-law c.args.self.memory)) x agrees))

pub returns-clause-since : goal.returns-clause-since
returns-clause-since g c = since_allowed _ _ (sim_disk.ghosts.facts c.args.self.memory) c.args.self.kept
