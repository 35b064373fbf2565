use Rattle.ipi.{specs.{Views.pair_in, Pairs.with_pair}, proofs.Computed.{seat_determines_pairs, shows_seen, whole_of}}
use Rattle.ipi.proofs.table.PendingTable.raise_of_set.Goals as goal

pub raise-seat-requires-clause-acts : goal.raise-seat-requires-clause-acts
raise-seat-requires-clause-acts c = whole_of c.args.self.now.table.shared.key c.args.seat.me.0 c.requires.all c.args.sender c.requires.sender

pub returns-clause-raised : goal.returns-clause-raised
returns-clause-raised c = λ has s t.
    let harts = c.args.self.now.table.shared.key in
    let view = c.args.seat.me.0 in
    let whole = whole_of harts view c.requires.all in
    let after = c.raise-seat.ensures.alone (pair_in view) (shows_seen harts view whole) in
    seat_determines_pairs harts c.raise-seat.result.0.me.0 (with_pair c.args.sender c.args.target (pair_in view)) after.1 s t
