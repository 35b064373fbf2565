use Rattle.std.proofs.{Common.{◌∙◌, ap, ap₂, codes}, lemmas.Result.IfOk-weaker}
use Rattle.clap.specs.Words.{App, with_rule}
use Rattle.command_line.specs.Options.{number_rule, with_payloads, with_rules}
use Rattle.sbigdb.specs.Usage.{with_begins}
use Rattle.sbigdb.proofs.help.command.Goals as goal

abbrev with_numbers : App → App
with_numbers app = with_rules app (number_rule (codes "quantum") 1000000 (codes "1000")) (number_rule (codes "most") 1000000000 (codes "20000000"))

pub returns : goal.returns
returns c =
    let script = c.in-Ok.ensures.shape c.script.ensures.local ∙ ap₂ with_rule c.program-bare.ensures c.script.ensures.rule in
    let all = c.in-Ok-with_payloads.ensures ∙ ap with_payloads script in
    let numbers = c.in-Ok-with_numbers.ensures ∙ ap with_numbers all in
    IfOk-weaker c.with_begins.result _ _ (λ r h. h ∙ ap with_begins numbers) c.with_begins.ensures
