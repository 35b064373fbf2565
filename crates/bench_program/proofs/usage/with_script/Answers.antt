use Rattle.std.proofs.{Common.{◌∙◌, ap₂}, lemmas.Result.IfOk-weaker}
use Rattle.clap.specs.Words.{app_of}
use Rattle.command_line.specs.Options.{with_rules}
use Rattle.bench_program.proofs.usage.with_script.Goals as goal

pub returns : goal.returns
returns c =
    let crew = c.crew.ensures.rule in
    IfOk-weaker c.with_two.result _ _ (λ r h. (crew.0, h ∙ ap₂ (with_rules (app_of c.args.command)) c.script.ensures.rule crew.1)) c.with_two.ensures
