use Rattle.std.proofs.Common.{refl}
use Rattle.hart_threads.proofs.turn.dozing_turn.Goals as goal

pub returns-clause-once : goal.returns-clause-once
returns-clause-once g c = c.doze_turn-seats.ensures.once

pub doze_turn-seats-requires-clause-seats : goal.doze_turn-seats-requires-clause-seats
doze_turn-seats-requires-clause-seats g c = c.requires.seated.0

pub doze_turn-seats-requires-clause-hart : goal.doze_turn-seats-requires-clause-hart
doze_turn-seats-requires-clause-hart g c = c.requires.seated.1

pub doze_turn-seats-requires-clause-quiet : goal.doze_turn-seats-requires-clause-quiet
doze_turn-seats-requires-clause-quiet g c = c.requires.seated.2

pub returns-clause-gives : goal.returns-clause-gives
returns-clause-gives g c = c.doze_turn-seats.ensures.gives

pub returns-clause-stands : goal.returns-clause-stands
returns-clause-stands g c = c.doze_turn-seats.ensures.stands

pub returns-clause-id : goal.returns-clause-id
returns-clause-id g c = c.doze_turn-seats.ensures.id

pub returns-clause-noted : goal.returns-clause-noted
returns-clause-noted g c = (refl, refl)
