-- The text of a history, and of the script that it is.
use Rattle.std.{proofs.Common.{◌≡◌, ℕ, List, [], ◌∷◌, ◌++◌, sym, ap, ◌∙◌}, specs.{Prelude.map, List.join_with_byte}}
use Rattle.std.proofs.lemmas.List.{append-nil}
use Rattle.board_model.specs.Shapes.{Size}
use Rattle.script_lang.specs.{Lines.text_of, Spellings.{board_text, script_text}, declared.line.Line.Line}
use Rattle.bench_report.specs.Bench.{no_payloads}
use Rattle.debug_session.specs.Texts.{history_text, lines_text}

-- lines parted by line feeds, or each with one before it
joined : (head : List ℕ) (past : List Line) → join_with_byte 10 (head ∷ map text_of past) ≡ head ++ lines_text past
joined head [] = sym (append-nil head)
joined head (line ∷ past) = ap (λ (xs : List ℕ). head ++ (10 ∷ xs)) (joined (text_of line) past)

-- a history that begins with no payload is written as its script
pub history_is_script : (size : Size) (past : List Line) → history_text size no_payloads past ≡ script_text (record { size = size; lines = past })
history_is_script size past = ap (λ (xs : List ℕ). xs ++ lines_text past) (append-nil (board_text size)) ∙ sym (joined (board_text size) past)
