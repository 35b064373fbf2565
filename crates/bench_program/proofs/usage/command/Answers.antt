use Rattle.std.proofs.{Common.{◌∙◌, ap}, lemmas.Result.IfOk-weaker}
use Rattle.command_line.specs.Options.{with_payloads}
use Rattle.bench_program.specs.Usage.{with_benches, with_manners, with_schedules, with_script, with_shown}
use Rattle.bench_program.proofs.usage.command.Goals as goal

pub returns : goal.returns
returns c =
    let crews = c.in-Ok.ensures.0 in
    let one = c.in-Ok.ensures.1 ∙ ap (with_script crews) c.program-bare.ensures in
    let two = c.in-Ok-with_benches.ensures ∙ ap with_benches one in
    let three = c.in-Ok-with_schedules.ensures ∙ ap with_schedules two in
    let four = c.in-Ok-with_shown.ensures ∙ ap with_shown three in
    let five = c.in-Ok-with_manners.ensures ∙ ap with_manners four in
    IfOk-weaker c.with_payloads.result _ _ (λ r h. (crews, h ∙ ap with_payloads five)) c.with_payloads.ensures
