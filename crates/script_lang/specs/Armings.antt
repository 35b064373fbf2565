-- The lines that arm a fault of the disk: the row of each, its range, and its one spelling.
use Rattle.std.specs.Prelude.{ℕ, ◌<◌, List, [], ◌∷◌, Option, Some, None, if◌then◌else◌}
use Rattle.std.specs.Fmt.{decimal}
use Rattle.std.specs.Str.{bytes_eq}
use Rattle.board_model.specs.Shapes.{Size}
use Rattle.script_lang.specs.declared.armings.Arming.{Arming}
use Rattle.script_lang.specs.declared.armings.Arming.TheVariants.{CutAt, CutLane, FailAt, FailLane}
use Rattle.script_lang.specs.Words.{◌>>=◌, IsCount, FitsFill, fill_of, fill_text, ranged, one_of, two_of, three_of}
use lib.Chars.{codes}

-- `cutat N FILL`
abbrev pub cutat_of : List (List ℕ) → Option Arming
cutat_of words = do
  pair ← two_of words
  calls ← ranged 1 1000001 pair.0
  fill ← fill_of pair.1
  Some (CutAt calls fill)

-- `cutlane I N FILL`
abbrev pub cutlane_of : Size → List (List ℕ) → Option Arming
cutlane_of size words = do
  triple ← three_of words
  lane ← ranged 0 size.lanes triple.0
  calls ← ranged 1 1000001 triple.1
  fill ← fill_of triple.2
  Some (CutLane lane calls fill)

-- `failat N`
abbrev pub failat_of : List (List ℕ) → Option Arming
failat_of words = do
  word ← one_of words
  calls ← ranged 1 1000001 word
  Some (FailAt calls)

-- `faillane I N`
abbrev pub faillane_of : Size → List (List ℕ) → Option Arming
faillane_of size words = do
  pair ← two_of words
  lane ← ranged 0 size.lanes pair.0
  calls ← ranged 1 1000001 pair.1
  Some (FailLane lane calls)

-- what a keyword and the words after it arm
abbrev pub arming_said : Size → List ℕ → List (List ℕ) → Option Arming
arming_said size keyword words =
    if bytes_eq keyword (codes "cutat") then cutat_of words else
    (if bytes_eq keyword (codes "cutlane") then cutlane_of size words else
    (if bytes_eq keyword (codes "failat") then failat_of words else
    (if bytes_eq keyword (codes "faillane") then faillane_of size words else None)))

-- the last column of the table of lines in docs/SCRIPT.md
abbrev pub IsArmingInRange : Size → Arming → Type 0
IsArmingInRange size (CutAt calls fill) = IsCount calls
IsArmingInRange size (CutLane lane calls fill) = (lane < size.lanes) × IsCount calls
IsArmingInRange size (FailAt calls) = IsCount calls
IsArmingInRange size (FailLane lane calls) = (lane < size.lanes) × IsCount calls

-- its words, where a line is written out
abbrev pub arming_spelling : Arming → List (List ℕ)
arming_spelling (CutAt calls fill) = codes "cutat" ∷ decimal calls ∷ fill_text fill ∷ []
arming_spelling (CutLane lane calls fill) = codes "cutlane" ∷ decimal lane ∷ decimal calls ∷ fill_text fill ∷ []
arming_spelling (FailAt calls) = codes "failat" ∷ decimal calls ∷ []
arming_spelling (FailLane lane calls) = codes "faillane" ∷ decimal lane ∷ decimal calls ∷ []

-- the byte of a fill fits the code's type for it
abbrev pub FitsArming : Arming → Type 0
FitsArming (CutAt calls fill) = FitsFill fill
FitsArming (CutLane lane calls fill) = FitsFill fill
FitsArming (FailAt calls) = Unit {0}
FitsArming (FailLane lane calls) = Unit {0}
