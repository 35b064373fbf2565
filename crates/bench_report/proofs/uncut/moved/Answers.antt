use Rattle.bench_report.proofs.Still.{left_so, said_on, stops_on, well_on}
use Rattle.bench_report.proofs.uncut.moved.Goals as goal

pub returns-clause-said : goal.returns-clause-said
returns-clause-said g c =
    let did = c.line_alone-power in
    said_on c.args.asked.0.now.shape.now c.args.asked.1.now c.args.bench.power did.result.0 c.args.bench.payloads did.new.payloads did.result.1 did.ensures.reported

pub returns-clause-well : goal.returns-clause-well
returns-clause-well g c =
    let did = c.line_alone-power in
    well_on c.args.asked.0.now.shape.now c.args.asked.1.now c.args.bench.power did.result.0 c.args.bench.payloads did.new.payloads did.result.1
    c.requires.other c.was_refused-refused.result c.was_refused-refused.ensures did.ensures.enough did.ensures.reported

pub returns-clause-does : goal.returns-clause-does
returns-clause-does g c =
    let did = c.line_alone-power in
    left_so c.args.asked.1.now c.args.bench.power did.result.0 did.result.1 did.ensures.arms did.ensures.cuts did.ensures.pokes did.ensures.inspects

pub returns-clause-stopped : goal.returns-clause-stopped
returns-clause-stopped g c =
    let did = c.line_alone-power in
    stops_on c.args.asked.0.now.shape.now c.args.asked.1.now c.args.bench.power did.result.0 c.args.bench.payloads did.new.payloads did.result.1 did.ensures.reported

pub returns-clause-refused : goal.returns-clause-refused
returns-clause-refused g c = c.line_alone-power.ensures.refused

pub returns-clause-told : goal.returns-clause-told
returns-clause-told g c = c.was_refused-refused.ensures
