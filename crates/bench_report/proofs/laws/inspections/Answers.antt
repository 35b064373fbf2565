use Rattle.std.proofs.Common.{◌≡◌, subst}
use Rattle.bench_report.{specs.{Bench.DiskState, Happens.says}, proofs.{Inspected.{ContentLaws, said_of}, Examiners.said_so}}
use Rattle.bench_report.proofs.laws.inspections.Goals as goal

pub returns-clause-blank : goal.returns-clause-blank
returns-clause-blank c = λ payloads script answers b by h off at a new moved free.
    let laws : ContentLaws = record { one = c.content_determines_state.ensures.one; marked = c.content_determines_state.ensures.marked; inspected = c.content_determines_inspection.ensures; in_order = c.formats_in_order.ensures } in
    let P : DiskState → Type 0 = λ m. (a ≡ says (said_of m b.kept)) × (new ≡ b) in
    subst P at (said_so laws payloads script answers b by h off a new moved free)

pub returns-clause-formatted : goal.returns-clause-formatted
returns-clause-formatted c = λ payloads script answers b by h off at a new moved free.
    let laws : ContentLaws = record { one = c.content_determines_state.ensures.one; marked = c.content_determines_state.ensures.marked; inspected = c.content_determines_inspection.ensures; in_order = c.formats_in_order.ensures } in
    let P : DiskState → Type 0 = λ m. (a ≡ says (said_of m b.kept)) × (new ≡ b) in
    subst P at (said_so laws payloads script answers b by h off a new moved free)
