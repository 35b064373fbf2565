use Rattle.std.proofs.{Common.{◌∙◌, ap, ap₂}, lemmas.Result.IfOk-weaker}
use Rattle.clap.specs.Words.{app_of}
use Rattle.command_line.specs.Options.{with_rules}
use Rattle.sbigdb.specs.Usage.{with_rows}
use Rattle.sbigdb.proofs.help.with_begins.Goals as goal

pub returns : goal.returns
returns c =
    let both = c.in-Ok.ensures ∙ ap₂ (with_rules (app_of c.args.command)) c.count-schedule.ensures.rule c.option-seed.ensures.rule in
    IfOk-weaker c.with_rows.result _ _ (λ r h. h ∙ ap with_rows both) c.with_rows.ensures
