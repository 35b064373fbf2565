use Rattle.ipi.proofs.{Alone.few_senders, Copying.senders_are}
use Rattle.ipi.proofs.table.PendingTable.senders.Goals as goal

pub of-requires : goal.of-requires
of-requires c = few_senders c.args.self.now.table.shared.key c.peek_at-found.result c.args.self.now.few c.peek_at-found.ensures.range

pub returns-clause-senders : goal.returns-clause-senders
returns-clause-senders c = λ sender.
    rw c.of.ensures (senders_are c.args.target c.peek_at-found.result c.args.seat.now.me.0 (c.peek_at-found.ensures.tells c.requires.whole) sender)
