use Rattle.theorem.proofs.sessions.a_session_keeps.Goals as goal

pub returns : goal.returns
returns g c = λ size s old stands some. (c.a_session_answers.ensures size s old stands some).0
