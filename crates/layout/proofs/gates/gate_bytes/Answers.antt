use Rattle.std.proofs.Common.{◌<◌, arith}
use Rattle.layout.proofs.SpelledRecords.{selected_by-gate_of}
use Rattle.layout.proofs.gates.gate_bytes.Goals as goal

pub returns-clause-selects : goal.returns-clause-selects
returns-clause-selects c =
    let few : c.args.side < 2 = omega (arith, c.number.ensures.value, c.number.ensures.range) in
    rw (c.finish.ensures, c.bytes.ensures.value, c.new-sector.ensures, c.number.ensures.value) (selected_by-gate_of c.args.side few)
