use Rattle.theorem.proofs.Ran.{begun, keeps}
use Rattle.theorem.proofs.sessions.a_session_answers.Goals as goal

pub returns : goal.returns
returns g c = λ size s old stands some.
    keeps size s _ _ _ _ _ _ _ _ _ _ (begun c.content_determines_state.ensures.one _ _ _ _ _ _ _ _ _ _ _ _ _ _ _ _ c.session.ensures.ended some size s old stands)
