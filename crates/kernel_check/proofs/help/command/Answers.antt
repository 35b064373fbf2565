use Rattle.std.proofs.{Common.{◌∙◌, ap, codes}, lemmas.Result.IfOk-weaker}
use Rattle.clap.specs.Words.{Rule, with_rule}
use Rattle.command_line.specs.Programs.{named_app}
use Rattle.kernel_check.specs.Usage.{with_board, with_looks, with_orders, with_bounds, with_writing}
use Rattle.kernel_check.proofs.help.command.Goals as goal

pub returns : goal.returns
returns c =
    let kernel = ap (λ (r : Rule). with_writing (with_bounds (with_orders (with_looks (with_board (with_rule (named_app (codes "sbicheck")) r)))))) c.kernel.ensures.rule in
    IfOk-weaker c.with_search.result _ _ (λ r h. h ∙ kernel)
    (c.with_search.ensures _ (c.with_kernel.ensures _ (c.with_arg-command.ensures _ c.program.ensures)))
