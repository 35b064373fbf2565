use Rattle.debug_session.{specs.Replies.pair_of, proofs.Written.written_more}
use Rattle.debug_session.proofs.bytes.put_hex.Goals as goal

pub loop-byte-preserved : goal.loop-byte-preserved
loop-byte-preserved c = written_more pair_of c.args.bytes.now c.loop-byte.byte-index _ _ _ c.loop-byte-test.true c.in_ok-put_pair.ensures c.loop-byte.invariant
