-- An option without a value, as its parser reads it. Source: docs/CONSOLE.md, "The command line".
use Rattle.std.specs.Prelude.{Some}
use Rattle.clap.specs.Words.{Rule, Text, new_rule}
use Rattle.clap.specs.declared.builder.action.ArgAction.TheVariants.{SetTrue}

abbrev pub flag_rule : Text → Rule
flag_rule id = record (new_rule id) { long = Some id; action = Some SetTrue }
