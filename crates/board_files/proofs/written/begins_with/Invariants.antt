use Rattle.std.specs.{Prelude.{◌≡◌, ◌*◌, IfSome, take}, List.concat}
use Rattle.board_files.specs.Folders.{blocks_of}
use Rattle.board_files.proofs.written.begins_with.Given as goal

abbrev pub invariant-loop-number : goal.invariant-loop-number
invariant-loop-number g l = IfSome (g.F.ByteFile.held l.file) (λ all. take (l.size.bytes * l.number) all ≡ concat (take l.number (blocks_of l.size.bytes l.sectors)))
