-- The one line of a list that has no more.
use Rattle.std.proofs.Common.{◌≡◌, ◌<◌, ◌≤◌, ◌-◌, List, [], ◌∷◌, Option, Some, None, length, refl, arith}
use Rattle.std.specs.Prelude.{slice_index_or, All, IfSome}
use Rattle.board_model.specs.Shapes.{Size}
use Rattle.script_lang.specs.{Lines.IsLineInRange, declared.line.Line.Line}
use Rattle.sbigdb.specs.Moved.{just_one}

pub just_from : (lines : List Line) (r : Option Line) → length lines ≤ 1 → (length lines ≡ 0 → r ≡ None) → ((d : Line) → 0 < length lines → r ≡ Some (slice_index_or lines (length lines - 1) d)) → r ≡ just_one lines
just_from [] r l none some = none refl
just_from (line ∷ []) r l none some = some line (omega arith)
just_from (line ∷ other ∷ more) r l none some = absurd (omega arith)

-- it is in its range where all are
pub just_ranged : (size : Size) (lines : List Line) → All (IsLineInRange size) lines → IfSome (just_one lines) (IsLineInRange size)
just_ranged size [] all = tt
just_ranged size (line ∷ []) all = all 0 line (omega arith)
just_ranged size (line ∷ other ∷ more) all = tt
