-- What the command's parser makes of words, by its own definitions. Source: docs/CONSOLE.md, "The command line".
use Rattle.std.specs.Prelude.{ℕ, List}
use Rattle.board_session.specs.Usage.{TakesModes, sbiboard}
use Rattle.clap.specs.Words.{IsAmong, fault_of}
use Rattle.clap.specs.declared.builder.value_parser.ValueParser.{ValueParser}
use Rattle.clap.specs.declared.error.kind.ErrorKind.{ErrorKind}
use Rattle.clap.specs.declared.parser.matches.Found.{Found}
use Rattle.command_line.specs.Parses as parses

-- it takes them, and finds these values
abbrev pub AreParsed : List (List ℕ) → Found → Type 0
AreParsed words f = (modes : ValueParser) × TakesModes modes × parses.AreParsed (sbiboard modes) words f

-- it refuses them with an error of that kind; where they ask for the help or the version, that is the kind
abbrev pub AreRefused : List (List ℕ) → ErrorKind → Type 0
AreRefused words kind = (modes : ValueParser) × TakesModes modes × IsAmong kind (fault_of (sbiboard modes) words)
