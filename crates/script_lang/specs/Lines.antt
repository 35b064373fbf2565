-- The lines of the script language: what each says, its range, and its one spelling, with decimal numbers and
-- hexadecimal digits in lower case.
use Rattle.std.specs.Prelude.{ℕ, ◌+◌, ◌^◌, ◌<◌, ◌≤◌, ◌==◌, List, [], ◌∷◌, length, Option, Some, None, nat_le, if◌then◌else◌}
use Rattle.std.specs.Fmt.{decimal}
use Rattle.std.specs.List.{join_with_byte}
use Rattle.std.specs.Str.{bytes_eq}
use Rattle.hex.specs.Hex.{encode_lower, IsBytes}
use Rattle.board_model.specs.Shapes.{Size, sectors_of}
use Rattle.board_model.specs.declared.boot_mode.BootMode.{BootMode}
use Rattle.board_model.specs.declared.boot_mode.BootMode.TheVariants as modes
use Rattle.script_lang.specs.Words.{◌>>=◌, alone, or_else, IsCount, FitsFill, number_of, ranged, fill_of, fill_text, hex_of, none_of, one_of, two_of, three_of}
use Rattle.script_lang.specs.Commands.{command_said, command_spelling, IsCommandInRange}
use Rattle.script_lang.specs.Looks.{look_said, look_spelling, IsLookInRange}
use Rattle.script_lang.specs.Armings.{arming_said, arming_spelling, IsArmingInRange, FitsArming}
use Rattle.script_lang.specs.declared.line.Line.{Line}
use Rattle.script_lang.specs.declared.line.Line.TheVariants.{Payload, Format, On, Command, Turn, Call, Show, Arm, Cut, Poke, Inspect, Wake}
use lib.Chars.{codes}

-- ---- the rows of the lines that are of no class

-- `payload S HEX`
abbrev pub payload_of : List (List ℕ) → Option Line
payload_of words = do
  pair ← two_of words
  slot ← ranged 0 4 pair.0
  bytes ← hex_of pair.1
  if nat_le (length bytes) 1024 then Some (Payload slot bytes) else None

-- the four ways to power on
abbrev pub mode_of : List ℕ → Option BootMode
mode_of word =
    if bytes_eq word (codes "fresh") then Some modes.Fresh else
    (if bytes_eq word (codes "keep") then Some modes.Keep else
    (if bytes_eq word (codes "discard") then Some modes.Discard else
    (if bytes_eq word (codes "resume") then Some modes.Resume else None)))

-- `on MODE`
abbrev pub on_of : List (List ℕ) → Option Line
on_of words = do
  word ← one_of words
  mode ← mode_of word
  Some (On mode)

-- `turn H N`
abbrev pub turn_of : Size → List (List ℕ) → Option Line
turn_of size words = do
  pair ← two_of words
  hart ← ranged 0 size.harts pair.0
  turns ← ranged 1 1000001 pair.1
  Some (Turn hart turns)

-- the number of an SBI extension, or its name
abbrev pub extension_of : List ℕ → Option ℕ
extension_of word =
    if bytes_eq word (codes "base") then Some 0x10 else
    (if bytes_eq word (codes "hsm") then Some 0x48534D else
    (if bytes_eq word (codes "ipi") then Some 0x735049 else
    (if bytes_eq word (codes "srst") then Some 0x53525354 else
    (if bytes_eq word (codes "susp") then Some 0x53555350 else number_of word))))

-- the number that the next word writes, or 0 where no word is left; and the words after it
abbrev pub argument_of : List (List ℕ) → Option (ℕ × List (List ℕ))
argument_of [] = Some (0, [])
argument_of (word ∷ more) = do
  n ← number_of word
  Some (n, more)

-- `call H EID FID [A0 [A1 [A2]]]`
abbrev pub call_head_of : List (List ℕ) → Option (List ℕ × List ℕ × List ℕ × List (List ℕ))
call_head_of [] = None
call_head_of (a ∷ []) = None
call_head_of (a ∷ b ∷ []) = None
call_head_of (a ∷ b ∷ c ∷ more) = Some (a, b, c, more)

abbrev pub call_line_of : Size → List (List ℕ) → Option Line
call_line_of size words = do
  head ← call_head_of words
  hart ← ranged 0 size.harts head.0
  extension ← extension_of head.1
  function ← number_of head.2
  first ← argument_of head.3
  second ← argument_of first.1
  third ← argument_of second.1
  nothing ← none_of third.1
  Some (Call hart (record { eid = extension; fid = function; a0 = first.0; a1 = second.0; a2 = third.0 }))

-- `cut FILL`
abbrev pub cut_of : List (List ℕ) → Option Line
cut_of words = do
  word ← one_of words
  fill ← fill_of word
  Some (Cut fill)

-- a sector of the disk, a place in it, and one more word
abbrev pub place_of : Size → List (List ℕ) → Option (ℕ × ℕ × List ℕ)
place_of size words = do
  triple ← three_of words
  sector ← ranged 0 (sectors_of size) triple.0
  offset ← ranged 0 512 triple.1
  Some (sector, offset, triple.2)

-- `poke SECTOR OFFSET HEX`: bytes within one sector of the disk
abbrev pub poke_of : Size → List (List ℕ) → Option Line
poke_of size words = do
  place ← place_of size words
  bytes ← hex_of place.2
  if nat_le (place.1 + length bytes) 512 then Some (Poke place.0 place.1 bytes) else None

-- ---- what a line says

-- a line of no class, by its keyword and the words after it
abbrev pub other_said : Size → List ℕ → List (List ℕ) → Option Line
other_said size keyword words =
    if bytes_eq keyword (codes "payload") then payload_of words else
    (if bytes_eq keyword (codes "format") then alone Format words else
    (if bytes_eq keyword (codes "on") then on_of words else
    (if bytes_eq keyword (codes "turn") then turn_of size words else
    (if bytes_eq keyword (codes "call") then call_line_of size words else
    (if bytes_eq keyword (codes "cut") then cut_of words else
    (if bytes_eq keyword (codes "poke") then poke_of size words else
    (if bytes_eq keyword (codes "inspect") then alone Inspect words else
    (if bytes_eq keyword (codes "wake") then alone Wake words else None))))))))

-- what the words of a line say, on a board of this size; each class has keywords of its own
abbrev pub line_of : Size → List (List ℕ) → Option Line
line_of size [] = None
line_of size (keyword ∷ words) =
    or_else Command (command_said keyword words) (
    or_else Show (look_said size keyword words) (
    or_else Arm (arming_said size keyword words) (
    other_said size keyword words)))

-- ---- the ranges of a line: the last column of the table of lines in docs/SCRIPT.md

abbrev pub IsLineInRange : Size → Line → Type 0
IsLineInRange size (Payload slot bytes) = (slot ≤ 3) × (1 ≤ length bytes) × (length bytes ≤ 1024)
IsLineInRange size Format = Unit {0}
IsLineInRange size (On mode) = Unit {0}
IsLineInRange size (Command command) = IsCommandInRange command
IsLineInRange size (Turn hart turns) = (hart < size.harts) × IsCount turns
IsLineInRange size (Call hart words) = hart < size.harts
IsLineInRange size (Show look) = IsLookInRange size look
IsLineInRange size (Arm arming) = IsArmingInRange size arming
IsLineInRange size (Cut fill) = Unit {0}
IsLineInRange size (Poke sector offset bytes) =
    (sector < sectors_of size) × (1 ≤ length bytes) × (offset + length bytes ≤ 512)
IsLineInRange size Inspect = Unit {0}
IsLineInRange size Wake = Unit {0}

-- ---- how a line is written out

abbrev pub mode_text : BootMode → List ℕ
mode_text modes.Fresh = codes "fresh"
mode_text modes.Keep = codes "keep"
mode_text modes.Discard = codes "discard"
mode_text modes.Resume = codes "resume"

-- the words of a line
abbrev pub spelling_of : Line → List (List ℕ)
spelling_of (Payload slot bytes) = codes "payload" ∷ decimal slot ∷ encode_lower bytes ∷ []
spelling_of Format = codes "format" ∷ []
spelling_of (On mode) = codes "on" ∷ mode_text mode ∷ []
spelling_of (Command command) = command_spelling command
spelling_of (Turn hart turns) = codes "turn" ∷ decimal hart ∷ decimal turns ∷ []
spelling_of (Call hart words) =
    codes "call" ∷ decimal hart ∷ decimal words.eid ∷ decimal words.fid ∷ decimal words.a0 ∷ decimal words.a1
    ∷ decimal words.a2 ∷ []
spelling_of (Show look) = look_spelling look
spelling_of (Arm arming) = arming_spelling arming
spelling_of (Cut fill) = codes "cut" ∷ fill_text fill ∷ []
spelling_of (Poke sector offset bytes) = codes "poke" ∷ decimal sector ∷ decimal offset ∷ encode_lower bytes ∷ []
spelling_of Inspect = codes "inspect" ∷ []
spelling_of Wake = codes "wake" ∷ []

-- the bytes of a line, without its line feed
abbrev pub text_of : Line → List ℕ
text_of line = join_with_byte 32 (spelling_of line)

-- every byte and every number of a line fits the code's type for it
abbrev pub FitsLine : Line → Type 0
FitsLine (Payload slot bytes) = IsBytes bytes
FitsLine Format = Unit {0}
FitsLine (On mode) = Unit {0}
FitsLine (Command command) = Unit {0}
FitsLine (Turn hart turns) = Unit {0}
FitsLine (Call hart words) =
    (words.eid < 2 ^ 64) × (words.fid < 2 ^ 64) × (words.a0 < 2 ^ 64) × (words.a1 < 2 ^ 64) × (words.a2 < 2 ^ 64)
FitsLine (Show look) = Unit {0}
FitsLine (Arm arming) = FitsArming arming
FitsLine (Cut fill) = FitsFill fill
FitsLine (Poke sector offset bytes) = (sector < 2 ^ 32) × IsBytes bytes
FitsLine Inspect = Unit {0}
FitsLine Wake = Unit {0}

-- how many turns of hart h a line names
abbrev pub turns_in : ℕ → Line → ℕ
turns_in h (Turn by n) = if by == h then n else 0
turns_in h line = 0
