use Rattle.ipi.{specs.declared.view.IpiAction.TheVariants.Took, proofs.Alone.{same_harts, take_alone, few_senders}}
use Rattle.ipi.proofs.table.PendingTable.take.Goals as goal

pub of-requires : goal.of-requires
of-requires c = few_senders c.args.self.now.table.shared.key c.take_by-found.result c.args.self.now.few c.take_by-found.ensures.range

pub returns-clause-harts : goal.returns-clause-harts
returns-clause-harts c = same_harts c.args.by (Took c.take_by-found.result) c.args.seat.me.0 c.take_by-found.new.seat.me.0 c.take_by-found.ensures.told

pub returns-clause-alone : goal.returns-clause-alone
returns-clause-alone c = λ pairs shown.
    rw c.of.ensures (take_alone c.args.self.now.table.shared.key c.args.by c.take_by-found.result c.args.seat.me.0 c.take_by-found.new.seat.me.0 shown.0 c.requires.by c.take_by-found.ensures.told (c.take_by-found.ensures.tells shown.0) pairs shown)
