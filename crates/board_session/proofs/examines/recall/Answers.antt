use Rattle.simdisk.specs.contracts.device.SimDiskDisk.TheImpl as sim_disk
use Rattle.command_line.specs.Pipes.{pipe_contents}
use Rattle.std.specs.Io.Buffered.{writer_contents}
use Rattle.board_session.proofs.FileSeen.{memory_refused, writes_memory}
use Rattle.board_session.proofs.examines.recall.Goals as goal

pub returns-in-Ok-write_memory-clause-done : goal.returns-in-Ok-write_memory-clause-done
returns-in-Ok-write_memory-clause-done g c =
    let contents = writer_contents (pipe_contents g.W.Write.contents) in
    writes_memory (g.D.DiskFiles.disk_at c.args.files.now c.args.path.now) (g.D.Opened.DiskFile.bytes c.in_ok-file.file) (contents c.args.out.now)
    (contents c.write_memory.new.out) (sim_disk.facts-value.it c.in_ok-disk.disk) c.in-Ok.memory c.in_ok-file.ensures.opened c.in_ok-disk.ensures.disk (rw c.in-Ok.is at c.image_memory-disk.ensures.memory) c.in-Ok-write_memory.ensures.written

pub returns-in-Err-clause-failed : goal.returns-in-Err-clause-failed
returns-in-Err-clause-failed g c =
    memory_refused (g.D.DiskFiles.disk_at c.args.files.now c.args.path.now) (g.D.Opened.DiskFile.bytes c.in_ok-file.file) (sim_disk.facts-value.it c.in_ok-disk.disk) _ _ c.in-Err.e c.refused_disk.ensures c.in_ok-file.ensures.opened
    c.in_ok-disk.ensures.disk (rw c.in-Err.is at c.image_memory-disk.ensures.refused)
