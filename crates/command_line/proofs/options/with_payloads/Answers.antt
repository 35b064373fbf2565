use Rattle.std.proofs.{Common.{◌∙◌, ap, ap₂, codes}, lemmas.Result.IfOk-weaker}
use Rattle.clap.specs.Words.{App, app_of}
use Rattle.command_line.specs.Options.{path_rule, with_rules}
use Rattle.command_line.proofs.options.with_payloads.Goals as goal

pub returns : goal.returns
returns c =
    let half = c.in-Ok.ensures ∙ ap₂ (with_rules (app_of c.args.command)) c.path-first.ensures.rule c.path-second.ensures.rule in
    let whole = ap (λ (app : App). with_rules app (path_rule (codes "p2")) (path_rule (codes "p3"))) half in
    IfOk-weaker c.with_two-2.result _ _ (λ r h. h ∙ ap₂ (with_rules (app_of c.in-Ok.command)) c.path-third.ensures.rule c.path-fourth.ensures.rule ∙ whole) c.with_two-2.ensures
