use Rattle.std.{proofs.{Common.{◌∙◌, ap, List, ◌++◌, sym}, lemmas.List.{take_all, append-nil}}, specs.Prelude.string_bytes}
use Rattle.script_lang.specs.declared.line.Line.{Line}
use Rattle.debug_session.specs.Texts.{lines_text}
use Rattle.debug_session.proofs.script.add_lines.Goals as goal

pub returns : goal.returns
returns c = c.loop-line.invariant ∙ ap (λ (xs : List Line). string_bytes c.args.text.now ++ lines_text xs) (take_all c.loop-line.line-index c.args.lines.now c.loop-line-test.false)

pub loop-line-init : goal.loop-line-init
loop-line-init c = sym (append-nil (string_bytes c.args.text.now))
