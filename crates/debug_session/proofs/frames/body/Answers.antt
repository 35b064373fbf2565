use Rattle.debug_session.{specs.Packets.escaped, proofs.Written.written_more}
use Rattle.debug_session.proofs.frames.body.Goals as goal

pub loop-byte-preserved : goal.loop-byte-preserved
loop-byte-preserved c = written_more escaped c.args.payload.now c.loop-byte.byte-index _ _ _ c.loop-byte-test.true c.in_ok-escape.ensures c.loop-byte.invariant
