use Rattle.simdisk.specs.contracts.device.SimDiskDisk.TheImpl as sim_disk
use Rattle.command_line.specs.Pipes.{pipe_contents}
use Rattle.std.specs.Io.Buffered.{writer_contents}
use Rattle.board_session.proofs.FileSeen.{writes_seen, lines_refused}
use Rattle.board_session.proofs.examines.look.Goals as goal

pub returns-in-Ok-write_seen-clause-done : goal.returns-in-Ok-write_seen-clause-done
returns-in-Ok-write_seen-clause-done g c =
    let contents = writer_contents (pipe_contents g.W.Write.contents) in
    writes_seen (g.D.DiskFiles.disk_at c.args.files.now c.args.path.now) (g.D.Opened.DiskFile.bytes c.in_ok-file.file) (contents c.args.out.now)
    (contents c.write_seen.new.out) (sim_disk.facts-value.it c.in_ok-disk.disk) c.in-Ok.seen c.block_size-block.result.bytes c.has_bad-is_bad.result c.has_bad-is_bad.ensures c.in_ok-file.ensures.opened c.in_ok-disk.ensures.disk (rw c.in-Ok.is at c.see_disk-disk.ensures.seen) c.block_size-block.ensures.known c.in-Ok-write_seen.ensures.written

pub returns-in-Err-clause-failed : goal.returns-in-Err-clause-failed
returns-in-Err-clause-failed g c =
    lines_refused (g.D.DiskFiles.disk_at c.args.files.now c.args.path.now) (g.D.Opened.DiskFile.bytes c.in_ok-file.file) (sim_disk.facts-value.it c.in_ok-disk.disk) _ _ c.in-Err.e c.refused_disk.ensures c.in_ok-file.ensures.opened
    c.in_ok-disk.ensures.disk (rw c.in-Err.is at c.see_disk-disk.ensures.refused)
