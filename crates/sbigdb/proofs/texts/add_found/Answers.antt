use Rattle.std.{proofs.{Common.{◌≡◌, ◌++◌, Option, sym, subst}, lemmas.List.append-nil}, specs.Prelude.string_bytes}
use Rattle.board_model.specs.declared.durable.Durable.{Durable}
use Rattle.report_lines.specs.Texts.{found_line}
use Rattle.sbigdb.proofs.texts.add_found.Goals as goal

pub returns-in-None : goal.returns-in-None
returns-in-None c =
    let P : Option Durable → Type 0 = λ x. string_bytes c.args.text.now ≡ string_bytes c.args.text.now ++ found_line x in
    subst P (sym c.in-None.is) (sym (append-nil (string_bytes c.args.text.now)))
