use Rattle.std.proofs.{Common.{◌∙◌, refl, ap₂}, lemmas.Result.IfOk-weaker}
use Rattle.clap.specs.Words.{with_rule}
use Rattle.board_session.proofs.help.shaped.Goals as goal

pub returns : goal.returns
returns c =
    let a1 = c.in_ok-arg.ensures.shape c.number.ensures.local ∙ ap₂ with_rule refl c.number.ensures.rule in
    let a2 = c.in_ok-arg-2.ensures.shape c.number-2.ensures.local ∙ ap₂ with_rule a1 c.number-2.ensures.rule in
    let a3 = c.in_ok-arg-3.ensures.shape c.number-3.ensures.local ∙ ap₂ with_rule a2 c.number-3.ensures.rule in
    IfOk-weaker c.arg-4.result _ _ (λ r h. h.shape c.number-4.ensures.local ∙ ap₂ with_rule a3 c.number-4.ensures.rule) c.arg-4.ensures
