use Rattle.std.proofs.Common.{rules}
use Rattle.bench_report.proofs.Lines.{keeps_off, keeps_on}
use Rattle.bench_report.proofs.off_lines.payload_line.Goals as goal

pub returns-in-On-clause-reported : goal.returns-in-On-clause-reported
returns-in-On-clause-reported c = λ size b h. keeps_on size b c.args.power.now c.in-On.«_board» c.args.slot c.args.bytes.now c.args.payloads.now c.in-On.is h

pub returns-in_ok-extend_from_slice-in-Off-clause-reported : goal.returns-in_ok-extend_from_slice-in-Off-clause-reported
returns-in_ok-extend_from_slice-in-Off-clause-reported c = λ size b h.
    rw c.len-count.ensures (keeps_off size b c.args.power.now c.in-Off.«_disk» c.args.slot c.args.bytes.now c.args.payloads.now _ c.in-Off.is h (search rules))
