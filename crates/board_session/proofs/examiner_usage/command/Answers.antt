use Rattle.std.proofs.{Common.{◌∙◌, ap₂}, lemmas.Result.IfOk-weaker}
use Rattle.clap.specs.Words.{with_rule}
use Rattle.board_session.proofs.examiner_usage.command.Goals as goal

pub returns : goal.returns
returns c =
    let one = c.in_ok-arg.ensures.shape c.path.ensures.local ∙ ap₂ with_rule c.program.ensures c.path.ensures.rule in
    IfOk-weaker c.arg-2.result _ _ (λ r h. h.shape c.flag.ensures.local ∙ ap₂ with_rule one c.flag.ensures.rule) c.arg-2.ensures
