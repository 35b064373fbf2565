use Rattle.hsm.{specs.Views.state_in, proofs.Stages.stopped_of}
use Rattle.hsm.proofs.standings.find_alone.Goals as goal

pub returns-clause-alone : goal.returns-clause-alone
returns-clause-alone c = λ t lt ne.
    let view = c.args.seat.now.me.0 in
    stopped_of c.peek.result t (state_in view t) (c.peek.ensures.tells (state_in view) c.requires.shown t lt).0 (c.peek.ensures.alone c.args.hart t c.requires.quiet lt ne)
