-- The lines that ask the operator's console for a durable command: the row of each, its range, and its one spelling.
use Rattle.std.specs.Prelude.{ℕ, ◌^◌, ◌<◌, List, [], ◌∷◌, Option, Some, None, if◌then◌else◌}
use Rattle.std.specs.Fmt.{decimal}
use Rattle.std.specs.Str.{bytes_eq}
use Rattle.board_model.specs.declared.console_command.ConsoleCommand.{ConsoleCommand}
use Rattle.board_model.specs.declared.console_command.ConsoleCommand.TheVariants.{Slot, Discard, Tries, Good}
use Rattle.script_lang.specs.Words.{◌>>=◌, alone, ranged, one_of, two_of}
use lib.Chars.{codes}

-- `slot S`
abbrev pub slot_of : List (List ℕ) → Option ConsoleCommand
slot_of words = do
  word ← one_of words
  slot ← ranged 0 (2 ^ 32) word
  Some (Slot slot)

-- `tries S N`
abbrev pub tries_of : List (List ℕ) → Option ConsoleCommand
tries_of words = do
  pair ← two_of words
  slot ← ranged 0 (2 ^ 32) pair.0
  boots ← ranged 0 (2 ^ 32) pair.1
  Some (Tries slot boots)

-- the command that a keyword and the words after it say
abbrev pub command_said : List ℕ → List (List ℕ) → Option ConsoleCommand
command_said keyword words =
    if bytes_eq keyword (codes "slot") then slot_of words else
    (if bytes_eq keyword (codes "discard") then alone Discard words else
    (if bytes_eq keyword (codes "tries") then tries_of words else
    (if bytes_eq keyword (codes "good") then alone Good words else None)))

-- the last column of the table of lines in docs/SCRIPT.md
abbrev pub IsCommandInRange : ConsoleCommand → Type 0
IsCommandInRange (Slot slot) = slot < 2 ^ 32
IsCommandInRange Discard = Unit {0}
IsCommandInRange (Tries slot boots) = (slot < 2 ^ 32) × (boots < 2 ^ 32)
IsCommandInRange Good = Unit {0}

-- its words, where a line is written out
abbrev pub command_spelling : ConsoleCommand → List (List ℕ)
command_spelling (Slot slot) = codes "slot" ∷ decimal slot ∷ []
command_spelling Discard = codes "discard" ∷ []
command_spelling (Tries slot boots) = codes "tries" ∷ decimal slot ∷ decimal boots ∷ []
command_spelling Good = codes "good" ∷ []
