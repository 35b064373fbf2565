-- The command as its parser reads it. Source: docs/CONSOLE.md, "The command line".
use Rattle.std.specs.Prelude.{◌≡◌, List, [], ◌∷◌, map, true}
use Rattle.clap.specs.Words.{App, Rule, Text, with_rule}
use Rattle.clap.specs.declared.builder.value_parser.ValueParser.{ValueParser}
use Rattle.clap.specs.declared.builder.value_parser.ValueParser.TheVariants.{Names}
use Rattle.command_line.specs.Flags.{flag_rule}
use Rattle.command_line.specs.Options.{number_rule, path_rule, value_rule, with_payloads}
use Rattle.command_line.specs.Programs.{named_app}
use lib.Chars.{codes}

abbrev pub required : Rule → Rule
required r = record r { required = true }

-- the words of the boot modes
abbrev pub mode_words : List Text
mode_words = codes "fresh" ∷ codes "keep" ∷ codes "discard" ∷ codes "resume" ∷ []

-- a parser that takes just these
abbrev pub TakesModes : ValueParser → Type 0
TakesModes (Names names) = map (λ name. name.now) names.now ≡ mode_words
TakesModes parser = ⊥

abbrev pub mode_rule : ValueParser → Rule
mode_rule modes = required (value_rule (codes "mode") modes)

-- with the disk, the mode, whether it is new, and whether its file goes along
abbrev pub board_line : ValueParser → App
board_line modes =
    with_rule
    (with_rule (with_rule (with_rule (named_app (codes "sbiboard")) (required (path_rule (codes "disk")))) (mode_rule modes))
    (flag_rule (codes "new"))) (flag_rule (codes "sync"))

-- with the shape of a new disk, and its blocks
abbrev pub with_shape : App → App
with_shape app =
    with_rule
    (with_rule (with_rule (with_rule app (number_rule (codes "harts") 8 (codes "1"))) (number_rule (codes "pages") 256 (codes "1")))
    (number_rule (codes "lanes") 4 (codes "1"))) (number_rule (codes "block") 65536 (codes "512"))

-- with the files of the payloads, the turns of a hart, and whether it is told how the harts ended
abbrev pub sbiboard : ValueParser → App
sbiboard modes =
    with_rule
    (with_rule (with_payloads (with_shape (board_line modes))) (number_rule (codes "turns") 1000000000 (codes "1000000")))
    (flag_rule (codes "tell"))
