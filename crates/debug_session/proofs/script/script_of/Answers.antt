use Rattle.std.{proofs.Common.{◌≡◌, List, ℕ, ◌++◌, ap, ◌∙◌}, specs.String.string_bytes}
use Rattle.debug_session.{specs.Texts.{begins_text, history_text, lines_text}, proofs.Scripts.history_is_script}
use Rattle.script_lang.specs.Scripts.{script_of}
use Rattle.debug_session.proofs.script.script_of.Goals as goal

pub returns-clause-read : goal.returns-clause-read
returns-clause-read c = λ none ok.
    let size = c.args.shape.now in
    let past = c.args.lines.now in
    let begins = c.args.begins.now in
    let text : string_bytes c.add_lines.new.text ≡ history_text size begins past = c.in_ok-add_lines.ensures ∙ ap (λ (xs : List ℕ). xs ++ lines_text past) (c.in_ok-add_begins.ensures ∙ ap (λ (xs : List ℕ). xs ++ begins_text begins) c.in_ok-text.ensures) in
    ap script_of (text ∙ ap (λ (b : List (List ℕ)). history_text size b past) none ∙ history_is_script size past) ∙ c.scripts_read_as_written.ensures _ ok
