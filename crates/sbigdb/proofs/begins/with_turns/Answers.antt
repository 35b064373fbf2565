use Rattle.std.{proofs.{Common.{◌++◌, ◌∙◌, ap, sym, List, Option}, lemmas.List.append-nil}, specs.Option.option_to_list}
use Rattle.script_lang.specs.declared.line.Line.{Line}
use Rattle.sbigdb.proofs.begins.with_turns.Goals as goal

pub returns-in-None : goal.returns-in-None
returns-in-None c =
    let all : List Line = c.args.lines.items in
    sym (append-nil all) ∙ ap (λ (n : Option Line). all ++ option_to_list n) (sym c.in-None.is)
