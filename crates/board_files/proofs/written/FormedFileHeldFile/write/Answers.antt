use Rattle.board_files.proofs.InFolders.{disk_kept, disk_written}
use Rattle.board_files.proofs.written.FormedFileHeldFile.write.Goals as goal

pub returns-clause-written : goal.returns-clause-written
returns-clause-written g c =
    let held = g.F.ByteFile.held in
    let facts = g.F.Folder.folder_facts in
    disk_written c.args.self.now.block.bytes c.args.is_new c.args.sectors.now c.write_disk.result (held c.args.self.now.file) (held c.write_disk.new.file)
    (facts c.args.self.now.file) (facts c.write_disk.new.file) c.write_disk.ensures.unknown c.write_disk.ensures.put

pub returns-clause-kept : goal.returns-clause-kept
returns-clause-kept g c =
    let held = g.F.ByteFile.held in
    let facts = g.F.Folder.folder_facts in
    disk_kept c.args.self.now.block.bytes c.args.is_new c.args.sectors.now c.write_disk.result (held c.args.self.now.file) (held c.write_disk.new.file)
    (facts c.args.self.now.file) (facts c.write_disk.new.file) c.write_disk.ensures.unknown c.write_disk.ensures.put
