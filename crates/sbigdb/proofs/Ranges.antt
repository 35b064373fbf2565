-- Lines that are in their range, one after another.
use Rattle.std.{proofs.Common.{◌≤◌, ◌++◌, ◌∷◌, [], ℕ, List, length}, specs.Prelude.All}
use Rattle.std.proofs.lemmas.List.Elements.{All-append, All-nil, All-push}
use Rattle.board_model.specs.Shapes.{Size}
use Rattle.script_lang.specs.{Lines.IsLineInRange, declared.line.Line.Line}
use Rattle.script_lang.specs.declared.line.Line.TheVariants as lines

pub payload_ranged : (size : Size) (old : List Line) (slot : ℕ) (bytes : List ℕ) → All (IsLineInRange size) old → slot ≤ 3 → 1 ≤ length bytes → length bytes ≤ 1024 → All (IsLineInRange size) (old ++ lines.Payload slot bytes ∷ [])
payload_ranged size old slot bytes all slots some few = All-push (IsLineInRange size) old (lines.Payload slot bytes) all (slots, some, few)

pub both_ranged : (size : Size) (xs ys : List Line) → All (IsLineInRange size) xs → All (IsLineInRange size) ys → All (IsLineInRange size) (xs ++ ys)
both_ranged size xs ys = All-append (IsLineInRange size) xs ys

pub none_ranged : (size : Size) → All (IsLineInRange size) []
none_ranged size = All-nil (IsLineInRange size)
