-- What a command's parser makes of words, by the parser's own definitions. Source: docs/CONSOLE.md, "The command line".
use Rattle.std.specs.Prelude.{◌≡◌, List, []}
use Rattle.clap.specs.Words.{App, Text, fault_of, matches_of, rows_of}
use Rattle.clap.specs.declared.parser.matches.Found.{Found}

-- it takes them, and finds these values
abbrev pub AreParsed : App → List Text → Found → Type 0
AreParsed app words f = (fault_of app words ≡ []) × (rows_of f ≡ matches_of app words)
