use Rattle.std.proofs.{Common.{◌∙◌, ap, ap₂}, lemmas.Result.IfOk-weaker}
use Rattle.clap.specs.Words.{with_rule}
use Rattle.kernel_check.proofs.help.with_kernel.Goals as goal

pub returns : goal.returns
returns c app was =
    let board = ap₂ with_rule (ap₂ with_rule (ap (with_rule app) c.number.ensures.rule) c.ranged.ensures.rule) c.number-2.ensures.rule in
    let rules = ap₂ with_rule (ap₂ with_rule (ap₂ with_rule board c.reason.ensures.rule) c.several.ensures.rule) c.several-2.ensures.rule in
    IfOk-weaker c.with_arg.result _ _ (λ r h. h ∙ rules) (c.with_arg.ensures _ (c.with_arg-command-5.ensures _ (c.with_arg-command-4.ensures _
    (c.with_arg-command-3.ensures _ (c.with_arg-command-2.ensures _ (c.with_arg-command.ensures app was))))))
