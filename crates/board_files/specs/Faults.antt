-- The faults of a file. Source: docs/CONSOLE.md, "Statuses and faults".
use Rattle.std.specs.Prelude.{◌≡◌, ◌⊎◌}
use Rattle.board_model.specs.declared.refusal.Refusal.TheVariants.{Memory}
use Rattle.command_line.specs.declared.fault.ProgramFault.{ProgramFault}
use Rattle.command_line.specs.declared.fault.ProgramFault.TheVariants.{File, Refused}

-- the file could not be read or written, or memory was refused
abbrev pub IsFileFault : ProgramFault → Type 0
IsFileFault fault = (fault ≡ File) ⊎ (fault ≡ Refused Memory)
