use Rattle.debug_session.proofs.Moments.{added_moments}
use Rattle.debug_session.proofs.past.LineHistory.add_turns.Goals as goal

pub returns-clause-added : goal.returns-clause-added
returns-clause-added c = added_moments c.args.hart c.args.count c.args.joins c.args.self.now c.put_turns.new.self c.in_ok-put_turns.ensures
