-- The fault of a file, by the kind of its error.
use Rattle.std.{proofs.Common.{◌≡◌, inl, inr, refl}, specs.declared.io.ErrorKind.{ErrorKind, TheVariants.OutOfMemory}}
use Rattle.command_line.specs.{Faults.fault_of_kind, declared.fault.ProgramFault.ProgramFault}
use Rattle.board_files.specs.Faults.{IsFileFault}

by_kind : (kind : ErrorKind) → IsFileFault (fault_of_kind kind)
by_kind OutOfMemory = inr refl
by_kind _ = inl refl

pub file_fault : (fault : ProgramFault) (kind : ErrorKind) → fault ≡ fault_of_kind kind → IsFileFault fault
file_fault fault kind is = rw is (by_kind kind)
