use Rattle.debug_session.proofs.StreamHeard.{packets_heard}
use Rattle.debug_session.proofs.laws.heard_packets_are_those_in_the_bytes.Goals as goal

pub returns : goal.returns
returns c = packets_heard
