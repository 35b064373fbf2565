use Rattle.std.proofs.Common.{ℕ, List, subst}
use Rattle.sbi_calls.specs.Both.{known}
use Rattle.turns.{specs.{Own.TurnOwn, Turns.TurnsAlone}, proofs.OneTurn.at_hand}
use Rattle.turns.proofs.whole.turn.Goals as goal

pub turn_by_bus-requires-clause-tables : goal.turn_by_bus-requires-clause-tables
turn_by_bus-requires-clause-tables c = c.requires.tables

pub turn_by_bus-requires-clause-seats : goal.turn_by_bus-requires-clause-seats
turn_by_bus-requires-clause-seats c = c.requires.seats

pub turn_by_bus-requires-clause-hart : goal.turn_by_bus-requires-clause-hart
turn_by_bus-requires-clause-hart c = c.requires.hart

pub turn_by_bus-requires-clause-rests : goal.turn_by_bus-requires-clause-rests
turn_by_bus-requires-clause-rests c = c.requires.rests

pub returns-clause-gives : goal.returns-clause-gives
returns-clause-gives c = c.turn_by_bus.ensures.gives

pub returns-clause-rests : goal.returns-clause-rests
returns-clause-rests c = c.turn_by_bus.ensures.rests

pub returns-clause-id : goal.returns-clause-id
returns-clause-id c = c.turn_by_bus.ensures.id

pub returns-clause-own : goal.returns-clause-own
returns-clause-own c =
    let b = c.turn_by_bus in let e = b.ensures.turns in let shape = c.args.shape.now in let s = c.args.hart.now in
    let at = at_hand shape s b.new.hart e.0 e.1 c.args.ram.now b.new.bus (known c.args.seats) (known b.result.0) b.result.1 e.2 e.3 in
    subst (λ (x : List ℕ × List ℕ). TurnOwn shape s x.0 b.new.hart x.1 (known c.args.seats) (known b.result.0) b.result.1) (λ i. (at.0 i, at.1 i)) e.2

pub returns-clause-alone : goal.returns-clause-alone
returns-clause-alone c =
    let b = c.turn_by_bus in let e = b.ensures.turns in let shape = c.args.shape.now in let s = c.args.hart.now in
    let at = at_hand shape s b.new.hart e.0 e.1 c.args.ram.now b.new.bus (known c.args.seats) (known b.result.0) b.result.1 e.2 e.3 in
    subst (λ (x : List ℕ × List ℕ). TurnsAlone shape s x.0 b.new.hart x.1 c.args.seats b.result.0 b.result.1) (λ i. (at.0 i, at.1 i)) e.4
