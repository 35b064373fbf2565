-- Options with a value as their parser reads them, and what they name. Source: docs/CONSOLE.md, "The command line".
use Rattle.std.specs.Prelude.{ℕ, List, [], ◌∷◌, Option, None, Some}
use Rattle.clap.specs.Words.{App, Rule, Text, first_value, new_rule, with_rule}
use Rattle.clap.specs.declared.builder.action.ArgAction.TheVariants.{Set}
use Rattle.clap.specs.declared.builder.value_parser.ValueParser.{ValueParser}
use Rattle.clap.specs.declared.builder.value_parser.ValueParser.TheVariants.{NonEmptyString, Unsigned}
use Rattle.clap.specs.declared.parser.matches.Found.{Found}
use lib.Chars.{codes}

-- an option with one value, whatever it is
abbrev pub option_rule : Text → Rule
option_rule id = record (new_rule id) { long = Some id; action = Some Set; value_names = 1 }

-- an option with one value that this parser takes
abbrev pub value_rule : Text → ValueParser → Rule
value_rule id parser = record (option_rule id) { parser = Some parser }

abbrev pub path_rule : Text → Rule
path_rule id = value_rule id NonEmptyString

-- an option with a number from 1 to `most`, which has a default
abbrev pub number_rule : Text → ℕ → Text → Rule
number_rule id most default = record (value_rule id (Unsigned 1 most)) { defaults = default ∷ [] }

-- a command with two more arguments
abbrev pub with_rules : App → Rule → Rule → App
with_rules app first second = with_rule (with_rule app first) second

-- a command with the files of the payloads
abbrev pub with_payloads : App → App
with_payloads app =
    with_rule (with_rule (with_rule (with_rule app (path_rule (codes "p0"))) (path_rule (codes "p1"))) (path_rule (codes "p2")))
    (path_rule (codes "p3"))

-- a path that is not empty
abbrev pub path_named : Option (List ℕ) → Option (List ℕ)
path_named None = None
path_named (Some []) = None
path_named (Some (b ∷ bs)) = Some (b ∷ bs)

-- the files of the payloads that the words name, by slot
abbrev pub payload_paths : Found → List (Option (List ℕ))
payload_paths f =
    path_named (first_value f (codes "p0")) ∷ path_named (first_value f (codes "p1"))
    ∷ path_named (first_value f (codes "p2")) ∷ path_named (first_value f (codes "p3")) ∷ []
