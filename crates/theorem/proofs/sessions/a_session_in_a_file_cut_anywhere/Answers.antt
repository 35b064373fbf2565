use Rattle.theorem.proofs.CutSessions.{keeps_session}
use Rattle.theorem.proofs.sessions.a_session_in_a_file_cut_anywhere.Goals as goal

pub returns : goal.returns
returns g c = λ size s old stands only some.
    let k = c.a_session_cut_anywhere-end.ensures size s old stands only some in
    (k.0, k.1, keeps_session size s _ _ _ _ _ _ k.0 k.2 c.crashes_now.ensures.counts c.stands.ensures.now c.stands.ensures.since)
