use Rattle.std.proofs.Common.{refl}
use Rattle.board_session.proofs.seats_back.SeatsBack.new.Goals as goal

pub invariant_of-result : goal.invariant_of-result
invariant_of-result g c = record {
  theirs = (rw c.new-starts.ensures tt, rw c.new-raises.ensures tt);
  many = rw (c.new-starts.ensures, c.new-raises.ensures) refl;
}

pub returns-clause-none : goal.returns-clause-none
returns-clause-none g c = rw c.new-starts.ensures refl

pub returns-clause-starts : goal.returns-clause-starts
returns-clause-starts g c = rw c.new-starts.ensures refl

pub returns-clause-raises : goal.returns-clause-raises
returns-clause-raises g c = rw c.new-raises.ensures refl
