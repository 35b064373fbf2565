-- A script as its lines are written.
use Rattle.std.proofs.Common.{◌≡◌, ◌∙◌, ℕ, List, [], ◌∷◌, ◌++◌, map, Option, refl, sym, ap, subst, append_assoc}
use Rattle.std.specs.{Io.KnownBytes.Appends, List.join_with_byte}
use Rattle.board_model.{specs.Shapes.Size, proofs.Written.appended}
use Rattle.script_lang.specs.{Lines.text_of, Spellings.{board_text, lines_text, script_text}, declared.line.Line.Line}

-- parts that are joined, with a line feed after the last
joined : (first : List ℕ) (those : List Line) → join_with_byte 10 (first ∷ map text_of those) ++ 10 ∷ [] ≡ first ++ 10 ∷ lines_text those
joined first [] = refl
joined first (line ∷ more) =
    append_assoc first (10 ∷ join_with_byte 10 (text_of line ∷ map text_of more)) (10 ∷ [])
    ∙ ap (λ x. first ++ 10 ∷ x) (joined (text_of line) more ∙ sym (append_assoc (text_of line) (10 ∷ []) (lines_text more)))

-- the board line was written, and then the lines
pub script_written : (size : Size) (those : List Line) (a b c : Option (List ℕ)) → Appends a b (board_text size ++ 10 ∷ []) → Appends b c (lines_text those)
    → Appends a c (script_text (record { size = size; lines = those }) ++ 10 ∷ [])
script_written size those a b c first second =
    let P : List ℕ → Type 0 = λ z. Appends a c z in
    subst P (append_assoc (board_text size) (10 ∷ []) (lines_text those) ∙ sym (joined (board_text size) those)) (appended a b c _ _ first second)
