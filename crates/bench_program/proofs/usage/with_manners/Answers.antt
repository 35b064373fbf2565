use Rattle.std.proofs.{Common.{◌∙◌, ap₂}, lemmas.Result.IfOk-weaker}
use Rattle.clap.specs.Words.{app_of, with_rule}
use Rattle.command_line.specs.Options.{with_rules}
use Rattle.bench_program.proofs.usage.with_manners.Goals as goal

pub returns : goal.returns
returns c =
    let both = c.in-Ok.ensures ∙ ap₂ (with_rules (app_of c.args.command)) c.option-part.ensures.rule c.flag-quiet.ensures.rule in
    IfOk-weaker c.arg.result _ _ (λ r h. h.shape c.flag.ensures.local ∙ ap₂ with_rule both c.flag.ensures.rule) c.arg.ensures
