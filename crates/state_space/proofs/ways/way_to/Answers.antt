use Rattle.std.proofs.Common.{arith}
use Rattle.state_space.proofs.Walked.{way_back}
use Rattle.state_space.proofs.ways.way_to.Goals as goal

pub loop-at-preserved : goal.loop-at-preserved
loop-at-preserved c =
    way_back c.args.graph.now c.in_ok-findings.findings.items c.loop-at.way.items c.push.new.self.items c.event.result c.loop-at.at c.args.row c.index-finding.result.now
    c.in_ok-findings.ensures
    c.loop-at-test.true
    (omega (arith, c.if-len-at.false, c.len.ensures, c.in_ok-findings.findings.ok.0))
    c.index-finding.ensures c.event.ensures c.in_ok-push.ensures.items c.loop-at.invariant
