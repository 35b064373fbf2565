use Rattle.std.proofs.{Common.{◌∙◌, ap}, lemmas.Result.IfOk-weaker}
use Rattle.clap.specs.Words.{App, rule_of, with_rule}
use Rattle.command_line.proofs.options.with_two.Goals as goal

pub returns-in-Ok : goal.returns-in-Ok
returns-in-Ok c =
    let one = c.in-Ok.ensures.shape c.requires.first in
    IfOk-weaker c.arg-in-Ok.result _ _ (λ r h. h.shape c.requires.second ∙ ap (λ (a : App). with_rule a (rule_of c.args.second)) one) c.arg-in-Ok.ensures
