use Rattle.bench_report.specs.Bench.{Bench, no_payloads}
use Rattle.bench_sweep.proofs.Left.{empty_fit, finds}
use Rattle.bench_sweep.proofs.finds.look_at.Goals as goal

pub returns-clause-finds : goal.returns-clause-finds
returns-clause-finds c = λ b slots ledger l.
    let size = c.args.shape.now in
    let empty : Bench = record b { payloads = no_payloads } in
    let did = c.power_on-power.ensures.reported size empty l.off c.new-empty.ensures in
    finds size empty c.power_on-power.result.1 did.0 l.follows.formatted l.off.0 l.left empty_fit ledger c.power_on-power.result.0 _ c.shape_in_range.ensures l.follows.kept did.1.0 did.2 (c.in_ok-plain.ensures.told size)

pub returns-clause-says : goal.returns-clause-says
returns-clause-says c = λ b off. (let did = c.power_on-power.ensures.reported c.args.shape.now (record b { payloads = no_payloads }) off c.new-empty.ensures in (did.0, did.1.0))
