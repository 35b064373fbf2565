use Rattle.std.proofs.{Common.{◌∙◌, ap, ap₂}, lemmas.Result.IfOk-weaker}
use Rattle.clap.specs.Words.{with_rule}
use Rattle.command_line.specs.Options.{with_payloads}
use Rattle.board_session.specs.Usage.{with_shape}
use Rattle.board_session.proofs.help.command.Goals as goal

pub returns : goal.returns
returns c =
    let modes = c.in_ok-board.ensures.0 in
    let all = c.in_ok-with_payloads.ensures ∙ ap with_payloads (c.in_ok-shaped.ensures ∙ ap with_shape c.in_ok-board.ensures.2) in
    let turns = c.in_ok-arg.ensures.shape c.number.ensures.local ∙ ap₂ with_rule all c.number.ensures.rule in
    IfOk-weaker c.arg-2.result _ _ (λ r h. (modes, c.in_ok-board.ensures.1, h.shape c.flag.ensures.local ∙ ap₂ with_rule turns c.flag.ensures.rule)) c.arg-2.ensures
