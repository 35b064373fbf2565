-- The command as its parser reads it. Source: docs/DEBUGGING.md, "Options and statuses".
use Rattle.std.specs.Prelude.{true, Some}
use Rattle.clap.specs.Words.{App, Rule, new_rule, with_rule}
use Rattle.clap.specs.declared.builder.action.ArgAction.TheVariants.{Set}
use Rattle.clap.specs.declared.builder.value_parser.ValueParser.TheVariants.{NonEmptyString, Unsigned}
use Rattle.command_line.specs.Flags.{flag_rule}
use Rattle.command_line.specs.Options.{number_rule, option_rule, value_rule, with_payloads}
use Rattle.command_line.specs.Programs.{named_app}
use lib.Chars.{codes}

-- the script's path, which is a word without an option and not empty
abbrev pub script_rule : Rule
script_rule = record (new_rule (codes "SCRIPT")) { action = Some Set; parser = Some NonEmptyString; required = true }

-- those that say by which row of a bench
abbrev pub with_rows : App → App
with_rows app =
    with_rule (with_rule (with_rule app (flag_rule (codes "sweep"))) (flag_rule (codes "faults")))
    (value_rule (codes "row") (Unsigned 1 1000000))

-- the options that say where a session begins
abbrev pub with_begins : App → App
with_begins app =
    with_rows (with_rule (with_rule app (value_rule (codes "schedule") (Unsigned 1 1000000))) (option_rule (codes "seed")))

abbrev pub sbigdb : App
sbigdb =
    with_begins
    (with_rule (with_rule (with_payloads (with_rule (named_app (codes "sbigdb")) script_rule)) (number_rule (codes "quantum") 1000000 (codes "1000")))
    (number_rule (codes "most") 1000000000 (codes "20000000")))
