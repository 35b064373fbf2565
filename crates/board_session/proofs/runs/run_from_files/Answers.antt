use Rattle.std.{proofs.Common.string_bytes, specs.Io.Buffered.reader_remaining}
use Rattle.command_line.specs.Told.{fault_of}
use Rattle.board_files.specs.contracts.file_disk.FileDiskDisk.TheImpl as file_disk
use Rattle.simdisk.specs.contracts.device.SimDiskDisk.TheImpl as sim_disk
use Rattle.board_session.{specs.Dialogues.output_of, proofs.FilesLeft.{ended_left, read_through, stayed_left}}
use Rattle.board_session.proofs.runs.run_from_files.Goals as goal

pub returns-then-not-options : goal.returns-then-not-options
returns-then-not-options g c =
    let kept = file_disk.facts-value g.row.B-Kept g.B.Kept.SectorFile g.B.Kept.SectorFile-dict g.B.Kept.Destruct-dict in
    let read = c.in-Ok-new in
    let taken = c.in-Ok-take_disk.taken in
    let done = c.run_then_write.result in
    ended_left g.B.Held.DiskFile.bytes g.B.Held.HeldFile.left sim_disk.facts-value.it kept.it g.B.Kept.SectorFile.file_facts c.args.options.now (g.B.PayloadFiles.bytes_at c.args.files.now)
    (g.B.BoardFiles.left_at c.args.files.now (string_bytes c.args.options.now.disk)) c.in-Ok.payloads taken.disk
    (g.B.Held.DiskFile.bytes taken.held) (g.B.BoardFiles.disk_at c.args.files.now (string_bytes c.args.options.now.disk)) (reader_remaining g.I.Read.remaining read.input)
    (g.I.Read.remaining c.args.streams.input) (output_of g.O.Write.contents c.args.streams.out) (output_of g.O.Write.contents done.out) done.file_left (fault_of done.ended) c.in-Ok.ensures.read c.in-Ok-take_disk.ensures.begins
    (read_through g.I.Read.remaining c.args.streams.input read.input read.ensures.inner read.ensures.empty read.ensures.capacity)
    (g.B.Held.HeldFile.left taken.held).ever c.run_then_write.ensures c.in-Ok-take_disk.ensures.held c.in-Ok-take_disk.ensures.left c.if-not-options.true

pub returns-in-Ok-disk_in_file : goal.returns-in-Ok-disk_in_file
returns-in-Ok-disk_in_file g c =
    let kept = file_disk.facts-value g.row.B-Kept g.B.Kept.SectorFile g.B.Kept.SectorFile-dict g.B.Kept.Destruct-dict in
    let read = c.in-Ok-new in
    let taken = c.in-Ok-take_disk.taken in
    let disk = g.B.BoardFiles.disk_at c.args.files.now (string_bytes c.args.options.now.disk) in
    let done = c.run_in_file.result in
    stayed_left g.B.Held.DiskFile.bytes g.B.Held.HeldFile.left sim_disk.facts-value.it kept.it g.B.Kept.SectorFile.file_facts c.args.options.now (g.B.PayloadFiles.bytes_at c.args.files.now)
    (g.B.BoardFiles.left_at c.args.files.now (string_bytes c.args.options.now.disk)) c.in-Ok.payloads taken.disk
    (g.B.Held.DiskFile.bytes taken.held) disk (reader_remaining g.I.Read.remaining read.input)
    (g.I.Read.remaining c.args.streams.input) (output_of g.O.Write.contents c.args.streams.out) (output_of g.O.Write.contents done.out) done.file_left (fault_of done.ended) c.in-Ok.ensures.read c.in-Ok-take_disk.ensures.begins
    (read_through g.I.Read.remaining c.args.streams.input read.input read.ensures.inner read.ensures.empty read.ensures.capacity)
    c.in-Ok-disk_in_file.disk c.in-Ok-disk_in_file.ensures.same (c.run_in_file.ensures disk) c.if-not-options.false
