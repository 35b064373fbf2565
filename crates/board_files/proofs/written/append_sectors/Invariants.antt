use Rattle.std.specs.Prelude.{◌≡◌, IfSome}
use Rattle.board_files.proofs.InFolders.{Appended}
use Rattle.board_files.proofs.written.append_sectors.Given as goal

abbrev pub invariant-loop-number : goal.invariant-loop-number
invariant-loop-number g l = (g.F.ByteFile.held l.file ≡ g.F.ByteFile.held l.initial.file)
    × IfSome (g.F.ByteFile.held l.initial.file) (λ all. Appended l.size.bytes l.sectors l.number (g.F.Folder.folder_facts l.initial.file) (g.F.Folder.folder_facts l.file))
