-- Why a command line asks for no work, by the kind of its error.
use Rattle.clap.specs.declared.error.kind.ErrorKind.{ErrorKind}
use Rattle.clap.specs.declared.error.kind.ErrorKind.TheVariants.{DisplayHelp, DisplayVersion, OutOfMemory}
use Rattle.command_line.specs.declared.NoWork.{NoWork}
use Rattle.command_line.specs.declared.NoWork.TheVariants.{Shown, Usage, Memory}

abbrev pub no_work : ErrorKind → NoWork
no_work DisplayHelp = Shown
no_work DisplayVersion = Shown
no_work OutOfMemory = Memory
no_work _ = Usage
