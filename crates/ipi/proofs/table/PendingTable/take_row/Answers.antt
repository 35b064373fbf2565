use Rattle.std.proofs.Common.{◌<◌, ◌∙◌, ℕ, ap, subst, sym}
use Rattle.tallies.specs.Seats.{numbers_from}
use Rattle.ipi.proofs.{Computed.whole_of, Copying.hart_below}
use Rattle.ipi.proofs.table.PendingTable.take_row.Goals as goal

pub senders-senders-requires-clause-whole : goal.senders-senders-requires-clause-whole
senders-senders-requires-clause-whole c = whole_of c.args.other.now.table.shared.key c.args.others.now.me.0 c.requires.all

pub senders-senders-requires-clause-seat : goal.senders-senders-requires-clause-seat
senders-senders-requires-clause-seat c = c.requires.other

pub senders-senders-requires-clause-target : goal.senders-senders-requires-clause-target
senders-senders-requires-clause-target c = subst (λ (n : ℕ). c.args.target < n) (sym c.requires.same) c.requires.target

pub loop-number-init : goal.loop-number-init
loop-number-init c = record { own = c.requires.seat; made = c.requires.made }

pub raise_of_set-seat-requires-clause-seat : goal.raise_of_set-seat-requires-clause-seat
raise_of_set-seat-requires-clause-seat c = c.loop-number.invariant.own

pub raise_of_set-seat-requires-clause-all : goal.raise_of_set-seat-requires-clause-all
raise_of_set-seat-requires-clause-all c = c.loop-number.invariant.made.numbered ∙ ap (λ (n : ℕ). numbers_from 0 n) (sym c.requires.harts)

pub raise_of_set-seat-requires-clause-sender : goal.raise_of_set-seat-requires-clause-sender
raise_of_set-seat-requires-clause-sender c = hart_below c.hart.result c.unwrap-sender.result c.loop-number.number c.args.shape.now.harts c.args.self.now.table.shared.key c.unwrap-sender.ensures c.hart.ensures.some c.requires.harts

pub raise_of_set-seat-requires-clause-target : goal.raise_of_set-seat-requires-clause-target
raise_of_set-seat-requires-clause-target c = subst (λ (n : ℕ). c.args.target < n) (sym c.requires.harts) c.requires.target

pub returns-clause-seat : goal.returns-clause-seat
returns-clause-seat c = c.loop-number.invariant.own

pub returns-clause-other : goal.returns-clause-other
returns-clause-other c = c.senders-senders.ensures.seat

pub returns-clause-stays : goal.returns-clause-stays
returns-clause-stays c = c.senders-senders.ensures.same
