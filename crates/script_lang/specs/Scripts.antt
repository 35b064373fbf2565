-- A script: its lines, checked in order, and the first fault.
use Rattle.std.specs.Prelude.{ℕ, ◌+◌, ◌-◌, Bool, List, [], ◌∷◌, ◌++◌, length, take, Option, Some, None, Result, Ok, Err, nat_le, ◌&&◌, ◌||◌, ◌==◌, if◌then◌else◌, slice_index, slice_index_or, ◌≡◌, ◌⊎◌}
use Rattle.std.specs.List.{slice_split}
use Rattle.std.specs.Str.{bytes_eq}
use Rattle.board_model.specs.declared.refusal.Refusal.{Refusal}
use Rattle.board_model.specs.declared.refusal.Refusal.TheVariants.{Memory, BadShape, BadScript}
use Rattle.board_model.specs.Shapes.{Size, board_size}
use Rattle.script_lang.specs.Words.{words_of, number_of, three_of}
use Rattle.script_lang.specs.Lines.{line_of}
use Rattle.script_lang.specs.declared.line.Line.{Line}
use lib.Chars.{codes}

-- the parts between line feeds, without an empty one at the end
abbrev pub whole_lines : List (List ℕ) → List (List ℕ)
whole_lines parts =
    if length (slice_index_or parts (length parts - 1) []) == 0 then take (length parts - 1) parts else parts

abbrev pub lines_of : List ℕ → List (List ℕ)
lines_of bytes = whole_lines (slice_split (λ b. b == 10) bytes)

-- line number n may stand in a script: it is one of the first 65,536, and has at most 4,096 bytes
abbrev pub is_sound : ℕ → List ℕ → Bool
is_sound n line = nat_le n 65536 && nat_le (length line) 4096

-- empty lines and those that begin with # are passed over
abbrev pub is_passed : List ℕ → Bool
is_passed line = (length line == 0) || (slice_index line 0 == 35)

infixl 10 ◌>>>◌
abbrev pub ◌>>>◌ : {A B : Type 0} → Result A Refusal → (A → Result B Refusal) → Result B Refusal
(Ok x) >>> f = f x
(Err e) >>> f = Err e

-- 1 to 8 harts, 1 to 256 pages, 1 to 4 lanes
abbrev pub is_size : ℕ → ℕ → ℕ → Bool
is_size harts pages lanes =
    (nat_le 1 harts && nat_le harts 8) && ((nat_le 1 pages && nat_le pages 256) && (nat_le 1 lanes && nat_le lanes 4))

abbrev pub size_of_numbers : ℕ → Option ℕ → Option ℕ → Option ℕ → Result Size Refusal
size_of_numbers n (Some harts) (Some pages) (Some lanes) =
    if is_size harts pages lanes then Ok (board_size harts pages lanes) else Err BadShape
size_of_numbers n harts pages lanes = Err (BadScript n)

abbrev pub size_of_words : ℕ → Option (List ℕ × List ℕ × List ℕ) → Result Size Refusal
size_of_words n None = Err (BadScript n)
size_of_words n (Some ws) = size_of_numbers n (number_of ws.0) (number_of ws.1) (number_of ws.2)

-- the line `board H P L`, which is line number n
abbrev pub board_of : ℕ → List (List ℕ) → Result Size Refusal
board_of n [] = Err (BadScript n)
board_of n (first ∷ words) =
    if bytes_eq first (codes "board") then size_of_words n (three_of words) else Err (BadScript n)

abbrev pub or_fault : ℕ → Option Line → Result Line Refusal
or_fault n None = Err (BadScript n)
or_fault n (Some line) = Ok line

-- what line number n says after the board line: nothing where it is passed over
abbrev pub said_of : Size → ℕ → List ℕ → Result (List Line) Refusal
said_of size n line =
    if is_sound n line
    then (if is_passed line then Ok [] else (or_fault n (line_of size (words_of line)) >>> λ said. Ok (said ∷ [])))
    else Err (BadScript n)

-- the lines from number n on, after the board line
unfoldable pub rest_of : Size → ℕ → List (List ℕ) → Result (List Line) Refusal
rest_of size n [] = Ok []
rest_of size n (line ∷ more) =
    said_of size n line >>> λ said. rest_of size (n + 1) more >>> λ others. Ok (said ++ others)

-- the lines read before those that are left
abbrev pub with_front : List Line → Result (List Line) Refusal → Result (List Line) Refusal
with_front front read = read >>> λ others. Ok (front ++ others)

-- a script: the size of its board, and the lines after the board line
pub record Script : Type 0 where
  pub size : Size
  pub lines : List Line

-- the board line, which is line number n, and those after it
abbrev pub from_board : ℕ → List ℕ → List (List ℕ) → Result Script Refusal
from_board n line more =
    board_of n (words_of line) >>> λ size. rest_of size (n + 1) more >>> λ lines. Ok
    (record { size = size; lines = lines })

-- the lines from number n on; the first that is not passed over is the board line
unfoldable pub lines_from : ℕ → List (List ℕ) → Result Script Refusal
lines_from n [] = Err (BadScript 1)
lines_from n (line ∷ more) =
    if is_sound n line
    then (if is_passed line then lines_from (n + 1) more else from_board n line more)
    else Err (BadScript n)

-- what the bytes of a script say, or the first fault
abbrev pub script_of : List ℕ → Result Script Refusal
script_of bytes = lines_from 1 (lines_of bytes)

-- what a call returned, seen by view, is what reading gives, unless memory ran out
abbrev pub Fails : {Y : Type 0} → Refusal → Result Y Refusal → Type 0
Fails e read = (e ≡ Memory) ⊎ (read ≡ Err e)

abbrev pub Gives : {X Y : Type 0} → (X → Y) → Result X Refusal → Result Y Refusal → Type 0
Gives view (Ok x) read = read ≡ Ok (view x)
Gives view (Err e) read = Fails e read
