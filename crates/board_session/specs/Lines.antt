-- The lines of the console. Source: docs/CONSOLE.md, "The console".
use Rattle.std.specs.Prelude.{◌≡◌, ◌≢◌, ◌+◌, ◌==◌, position, ℕ, Bool, true, not, List, [], ◌∷◌, ◌++◌, All, length, take, drop, Option, Some, None, nat_lt, if◌then◌else◌}
use Rattle.std.specs.Io.KnownBytes.{Consumes, IsAtEnd, Keeps}
use Rattle.std.specs.Str.{bytes_eq}
use Rattle.board_model.specs.declared.console_command.ConsoleCommand.{ConsoleCommand}
use Rattle.script_lang.specs.Commands.{command_said}
use Rattle.board_session.specs.declared.lines.ByteRead.{ByteRead}
use Rattle.board_session.specs.declared.lines.ByteRead.TheVariants as founds
use Rattle.board_session.specs.declared.lines.LineEnd.{LineEnd}
use Rattle.board_session.specs.declared.lines.LineEnd.TheVariants as line_ends
use Rattle.board_session.specs.declared.words.Said.{Said}
use Rattle.board_session.specs.declared.words.Said.TheVariants.{Command, State, Wake, Quit, Other}
use lib.Chars.{codes}

-- ---- lines of an input
-- no line feed stands in it
abbrev pub HasNoFeed : List ℕ → Type 0
HasNoFeed line = All (λ b. b ≢ 10) line

-- what a read of one byte does to an input: it takes that byte; or nothing was left, or the input failed
abbrev pub FindsByte : Option (List ℕ) → Option (List ℕ) → ByteRead → Type 0
FindsByte old new (founds.Byte b) = Consumes old new (b ∷ [])
FindsByte old new founds.End = Keeps old new × IsAtEnd new
FindsByte old new founds.Failure = Keeps old new

-- the bytes of a line are taken, and its line feed; or, where the input ended or failed before one, the bytes until
-- then: where it ended nothing is left
abbrev pub TakesBytes : Option (List ℕ) → Option (List ℕ) → List ℕ → LineEnd → Type 0
TakesBytes old new line line_ends.Feed = Consumes old new (line ++ 10 ∷ [])
TakesBytes old new line line_ends.EndOfInput = Consumes old new line × IsAtEnd new
TakesBytes old new line line_ends.Failure = Consumes old new line

-- What is taken from an input where a line is asked for, by how that ended. The first 257 bytes are kept.
abbrev pub TakesLine : Option (List ℕ) → Option (List ℕ) → List ℕ → LineEnd → Type 0
TakesLine old new kept ended =
    (line : List ℕ) × HasNoFeed line × (kept ≡ take 257 line) × TakesBytes old new line ended

-- whether what was kept is a line: it is where its line feed came, and else where there are bytes
abbrev pub is_line : LineEnd → List ℕ → Bool
is_line line_ends.Feed kept = true
is_line line_ends.EndOfInput kept = not (length kept == 0)
is_line line_ends.Failure kept = not (length kept == 0)

-- ---- what a line says
-- the words after the first one, where a space stands at that place among them: one space parts two words
abbrev pub words_at : Option ℕ → List ℕ → List (List ℕ)
words_at None words = words ∷ []
words_at (Some at) words = take at words ∷ drop (at + 1) words ∷ []

abbrev pub words_of : List ℕ → List (List ℕ)
words_of words = words_at (position (λ b. b == 32) words) words

-- the durable command of a line, as a script says it, whose first space stands at that place
abbrev pub command_at : Option ℕ → List ℕ → Option ConsoleCommand
command_at None line = command_said line []
command_at (Some at) line = command_said (take at line) (words_of (drop (at + 1) line))

abbrev pub command_in : List ℕ → Option ConsoleCommand
command_in line = command_at (position (λ b. b == 32) line) line

-- a line that says no durable command
abbrev pub other_meaning : List ℕ → Said
other_meaning line =
    if bytes_eq line (codes "state") then State else
    (if bytes_eq line (codes "wake") then Wake else
    (if bytes_eq line (codes "quit") then Quit else Other))

abbrev pub meaning_by : Option ConsoleCommand → List ℕ → Said
meaning_by (Some command) line = Command command
meaning_by None line = other_meaning line

-- a line of at most 256 bytes; anything else is none of the console's
abbrev pub line_meaning : List ℕ → Said
line_meaning line = if nat_lt 256 (length line) then Other else meaning_by (command_in line) line
