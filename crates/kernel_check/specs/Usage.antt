-- The command as its parser reads it. Source: docs/CHECKING.md, "What is asked".
use Rattle.std.specs.Prelude.{true, Some, [], ◌∷◌}
use Rattle.clap.specs.Words.{App, Rule, Text, new_rule, with_rule}
use Rattle.clap.specs.declared.builder.action.ArgAction.TheVariants.{Set, Append}
use Rattle.clap.specs.declared.builder.value_parser.ValueParser.TheVariants.{NonEmptyString, Unsigned}
use Rattle.command_line.specs.Flags.{flag_rule}
use Rattle.command_line.specs.Options.{number_rule, option_rule, value_rule}
use Rattle.command_line.specs.Programs.{named_app}
use lib.Chars.{codes}

-- the kernel's path, which is a word without an option and not empty
abbrev pub kernel_rule : Rule
kernel_rule = record (new_rule (codes "KERNEL")) { action = Some Set; parser = Some NonEmptyString; required = true }

-- an option that can be given several times
abbrev pub several_rule : Text → Rule
several_rule id = record (option_rule id) { action = Some Append }

abbrev pub reason_rule : Rule
reason_rule = record (value_rule (codes "reason") (Unsigned 0 1)) { defaults = codes "0" ∷ [] }

abbrev pub memory_rule : Rule
memory_rule = record (option_rule (codes "memory")) { defaults = codes "4G" ∷ [] }

-- the options of the board
abbrev pub with_board : App → App
with_board app =
    with_rule (with_rule (with_rule (with_rule app (number_rule (codes "harts") 8 (codes "1"))) (value_rule (codes "pages") (Unsigned 1 256)))
    (number_rule (codes "lanes") 4 (codes "1"))) reason_rule

-- those that say what is looked at
abbrev pub with_looks : App → App
with_looks app = with_rule (with_rule app (several_rule (codes "look"))) (several_rule (codes "expect"))

-- those that say which orders are followed
abbrev pub with_orders : App → App
with_orders app =
    with_rule (with_rule (with_rule app (several_rule (codes "without"))) (value_rule (codes "preemptions") (Unsigned 0 1000))) (value_rule (codes "lives") (Unsigned 1 1000))

-- those that bound the search
abbrev pub with_bounds : App → App
with_bounds app = with_rule (with_rule (with_rule app (number_rule (codes "boards") 4000000000 (codes "10000000"))) memory_rule) (value_rule (codes "jobs") (Unsigned 1 64))

-- those that say how the verdict is written
abbrev pub with_writing : App → App
with_writing app = with_rule (with_rule (with_rule app (flag_rule (codes "json"))) (flag_rule (codes "tap"))) (option_rule (codes "show"))

abbrev pub sbicheck : App
sbicheck = with_writing (with_bounds (with_orders (with_looks (with_board (with_rule (named_app (codes "sbicheck")) kernel_rule)))))
