use Rattle.std.proofs.{Common.{◌∙◌, ap₂}, lemmas.Result.IfOk-weaker}
use Rattle.clap.specs.Words.{app_of}
use Rattle.command_line.specs.Options.{with_rules}
use Rattle.sbigdb.proofs.help.with_numbers.Goals as goal

pub returns : goal.returns
returns c = IfOk-weaker c.with_two.result _ _ (λ r h. h ∙ ap₂ (with_rules (app_of c.args.command)) c.number-quantum.ensures.rule c.number-most.ensures.rule) c.with_two.ensures
