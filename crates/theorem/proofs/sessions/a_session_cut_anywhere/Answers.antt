use Rattle.theorem.proofs.CutSessions.{cut_anywhere}
use Rattle.theorem.proofs.sessions.a_session_cut_anywhere.Goals as goal

pub returns : goal.returns
returns g c = λ size s old stands only some.
    let k = c.a_session_answers.ensures size s old stands some in
    (k.0, k.1, cut_anywhere c.content_determines_state.ensures.one size s (g.D.Disk.facts c.args.disk) only c.crashes_now.ensures.only _ _ _ _ k.0)
