use Rattle.std.proofs.lemmas.Result.{IfOk-weaker}
use Rattle.theorem.proofs.Ran.{left_by}
use Rattle.theorem.proofs.sessions.power_lost_between_sessions.Goals as goal

pub returns : goal.returns
returns g c = λ size s old stands some.
    IfOk-weaker c.open.result _ _
    (λ next opened. left_by c.content_determines_state.ensures.one _ _ _ _ _ _ _ _ _ _ _ _ _ _ _ _ c.session-disk.ensures.ended some size s old stands _ _ _ _ c.after_cut.ensures.left opened.reads opened.no_failure)
    c.open.ensures.opened
