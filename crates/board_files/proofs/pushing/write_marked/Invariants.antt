use Rattle.board_files.specs.Files.{Goes, WritesUpTo}
use Rattle.board_files.proofs.pushing.write_marked.Given as goal

abbrev pub invariant-loop-number : goal.invariant-loop-number
invariant-loop-number g l = Goes (g.F.SectorFile.file_facts l.initial.file) (g.F.SectorFile.file_facts l.file) (WritesUpTo l.number l.marks l.sectors)
