use Rattle.std.proofs.{Common.{◌∙◌, ap, ap₂}, lemmas.Result.IfOk-weaker}
use Rattle.clap.specs.Words.{with_rule}
use Rattle.kernel_check.proofs.help.with_search.Goals as goal

pub returns : goal.returns
returns c app was =
    let orders = ap₂ with_rule (ap₂ with_rule (ap (with_rule app) c.several.ensures.rule) c.ranged-few.ensures.rule) c.ranged.ensures.rule in
    let bounds = ap₂ with_rule (ap₂ with_rule (ap₂ with_rule orders c.number-most.ensures.rule) c.memory.ensures.rule) c.ranged-2.ensures.rule in
    let rules = ap₂ with_rule (ap₂ with_rule (ap₂ with_rule bounds c.flag.ensures.rule) c.flag-2.ensures.rule) c.option.ensures.rule in
    IfOk-weaker c.with_arg.result _ _ (λ r h. h ∙ rules) (c.with_arg.ensures _ (c.with_arg-command-8.ensures _ (c.with_arg-command-7.ensures _
    (c.with_arg-command-6.ensures _ (c.with_arg-command-5.ensures _ (c.with_arg-command-4.ensures _ (c.with_arg-command-3.ensures _
    (c.with_arg-command-2.ensures _ (c.with_arg-command.ensures app was)))))))))
