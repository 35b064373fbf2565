use Rattle.board_files.proofs.KeptFiles.{is_made}
use Rattle.board_files.proofs.memory_file.MemoryFile.of.Goals as goal

pub returns : goal.returns
returns c = is_made _ _ _ _ c.in_ok-from_slice.ensures.items c.in_ok-from_slice-2.ensures.items c.begun.ensures
