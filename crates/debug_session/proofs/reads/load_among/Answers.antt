use Rattle.std.proofs.Common.{refl}
use Rattle.debug_session.{specs.{Lives.machine_of, Firsts.seen_in}, proofs.Unread.reads_next}
use Rattle.debug_session.proofs.reads.load_among.Goals as goal

pub returns-then-is_unread_next-clause-same : goal.returns-then-is_unread_next-clause-same
returns-then-is_unread_next-clause-same c = refl

pub returns-then-is_unread_next-clause-reads : goal.returns-then-is_unread_next-clause-reads
returns-then-is_unread_next-clause-reads c = c.is_unread_next.ensures c.if-is_unread_next.true

pub returns-else-is_unread_next-clause-same : goal.returns-else-is_unread_next-clause-same
returns-else-is_unread_next-clause-same c = c.next_load.ensures.same

pub returns-else-is_unread_next-clause-reads : goal.returns-else-is_unread_next-clause-reads
returns-else-is_unread_next-clause-reads c = reads_next (machine_of c.args.bench.now) c.args.hart (seen_in c.args.before.now.items) c.next_load.result c.next_load.ensures.loads
