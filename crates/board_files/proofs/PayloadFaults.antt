-- The fault of a payload file, by the kind of its error.
use Rattle.std.{proofs.Common.{◌≡◌, ◌⊎◌, inl, inr, refl}, specs.declared.io.ErrorKind.{ErrorKind, TheVariants.OutOfMemory}}
use Rattle.board_model.specs.declared.refusal.Refusal.TheVariants.{Memory}
use Rattle.command_line.specs.{Faults.fault_of_kind, declared.fault.ProgramFault.{ProgramFault, TheVariants.{File, Refused}}}

by_kind : (kind : ErrorKind) → (fault_of_kind kind ≡ File) ⊎ (fault_of_kind kind ≡ Refused Memory)
by_kind OutOfMemory = inr refl
by_kind _ = inl refl

pub file_fault : (fault : ProgramFault) (kind : ErrorKind) → fault ≡ fault_of_kind kind → (fault ≡ File) ⊎ (fault ≡ Refused Memory)
file_fault fault kind is = rw is (by_kind kind)
